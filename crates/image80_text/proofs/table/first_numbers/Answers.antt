use Rattle.std.specs.Prelude.{◌≡◌, ℕ, ◌+◌, ◌∷◌, [], ◌++◌, List, Option, None, length, take}
use Rattle.std.proofs.Common.{rules, ◌∙◌, ap, subst, sym, arith}
use Rattle.std.proofs.lemmas.List.{take_more, length-replicate, length-take}
use Rattle.omf_model.specs.declared.symbols.Public.{Public}
use Rattle.image80_text.specs.Tables.{AreFirst}
use Rattle.image80_text.proofs.TableLemmas.{first_none, first_more, length-noted}
use Rattle.image80_text.proofs.table.first_numbers.Goals as goal

pub loop-number-init : goal.loop-number-init
loop-number-init c = record {
  whole = ap length c.in_ok-table.ensures ∙ length-replicate {A = Option ℕ} 65536 None;
  first = first_none c.in_ok-table.table.items c.in_ok-table.ensures;
}

pub loop-number-preserved : goal.loop-number-preserved
loop-number-preserved c =
    let i : ℕ = c.loop-number.number in
    let publics : List Public = c.args.publics.now in
    let one : Public = c.index-publics-number.result in
    let more : take (i + 1) publics ≡ take i publics ++ one ∷ [] = search (rules, take_more) in
    let counted : length (take i publics) ≡ i = search (rules, length-take) in
    record {
      whole = ap length c.note.ensures.noted ∙ length-noted c.loop-number.table.items one i ∙ c.loop-number.invariant.whole;
      first = subst (λ (ps : List Public). AreFirst ps c.note.new.table.items) (sym more)
          (subst (λ (t : List (Option ℕ)). AreFirst (take i publics ++ one ∷ []) t) (sym c.note.ensures.noted)
          (first_more (take i publics) one c.loop-number.table.items i c.loop-number.invariant.first (sym counted)
          (omega (arith, c.loop-number.invariant.whole, c.note.ensures.in_memory))));
    }
