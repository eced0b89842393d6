use Rattle.std.specs.Prelude.{◌≡◌, ◌≤◌, ℕ, ◌+◌, ◌∷◌, [], ◌++◌, List, Option, None, drop, length, get_or}
use Rattle.std.specs.Option.{option_or}
use Rattle.std.proofs.Common.{rules, ◌∙◌, ap, sym, arith, append_assoc, append-nil}
use Rattle.std.proofs.lemmas.List.{drop_more}
use Rattle.image80_text.specs.Tables.{filled_from}
use Rattle.image80_text.proofs.TableLemmas.{drop_past, filled_more, filled_none}
use Rattle.image80_text.proofs.table.nearest_numbers.Goals as goal

pub loop-number-preserved : goal.loop-number-preserved
loop-number-preserved c =
    let i : ℕ = c.loop-number.number-index in
    let first : List (Option ℕ) = c.args.first.now in
    let last : Option ℕ = c.loop-number.nearest in
    let table : List (Option ℕ) = c.loop-number.table.items in
    let entry : Option ℕ = get_or first i None in
    let rest : List (Option ℕ) = drop (i + 1) first in
    let more : drop i first ≡ entry ∷ rest = drop_more first i None c.loop-number-test.true in
    let is : c.or-nearest.result ≡ option_or entry last = search (rules, c.or-nearest.ensures) in
    let pushed : c.push.new.self.items ≡ table ++ c.or-nearest.result ∷ [] = search (rules, c.in_ok-push.ensures.items) in
    ap (λ (t : List (Option ℕ)). t ++ filled_from c.or-nearest.result rest) pushed
    ∙ append_assoc table (c.or-nearest.result ∷ []) (filled_from c.or-nearest.result rest)
    ∙ ap (λ (o : Option ℕ). table ++ o ∷ filled_from o rest) is
    ∙ ap (λ (t : List (Option ℕ)). table ++ t) (sym (filled_more last entry rest) ∙ ap (filled_from last) (sym more))
    ∙ c.loop-number.invariant

pub returns : goal.returns
returns c =
    let i : ℕ = c.loop-number.number-index in
    let first : List (Option ℕ) = c.args.first.now in
    let last : Option ℕ = c.loop-number.nearest in
    let table : List (Option ℕ) = c.loop-number.table.items in
    let past : length first ≤ i = omega (arith, c.loop-number-test.false) in
    sym (append-nil table)
    ∙ ap (λ (t : List (Option ℕ)). table ++ t) (sym (filled_none last) ∙ ap (filled_from last) (sym (drop_past first i past)))
    ∙ c.loop-number.invariant
