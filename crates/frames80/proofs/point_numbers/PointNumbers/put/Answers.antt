use Rattle.std.specs.Prelude.{◌≡◌, ◌<◌, ◌≤◌, ℕ, List, Option, Some, None, length, slice_index_or, slice_set, refl, true}
use Rattle.std.specs.Ordering.{nat_cmp}
use Rattle.std.specs.BTreeMap.{Updates}
use Rattle.std.proofs.Common.{◌∙◌, ap, sym, subst, arith}
use Rattle.std.proofs.lemmas.List.{get_or_past}
use Rattle.std.proofs.lemmas.Result.{err_from_is_err_and}
use Rattle.frames80.specs.declared.point_numbers.FirstPoint.{FirstPoint}
use Rattle.frames80.specs.PointNumbers.{number_of, is_free}
use Rattle.frames80.proofs.NumberLemmas.{first_point, taken_number, same_numbers, put_first, put_further}
use Rattle.frames80.proofs.point_numbers.PointNumbers.put.Goals as goal
use Rattle.frames80.proofs.point_numbers.PointNumbers.put.Goals.{else-index-len-via-then-index-len+else-is_free, else-index-len-via-else-index-len}

pub returns-then-is_free-clause-put : goal.returns-then-is_free-clause-put
returns-then-is_free-clause-put c =
    let items = c.args.self.now.first.items in
    let first : slice_index_or items c.args.at None ≡ c.first_at.result =
    sym (c.first_at.ensures ∙ ap (λ (l : List (Option FirstPoint)). slice_index_or l c.args.at None) c.deref.ensures.value) in
    let free : is_free (slice_index_or items c.args.at None) c.args.procedure ≡ true =
    ap (λ (kept : Option FirstPoint). is_free kept c.args.procedure) first ∙ sym c.is_free.ensures ∙ c.if-is_free.true in
    let within : c.args.at < length items = omega (arith, c.from-index.ensures, c.len.ensures, c.if-index-len.true, c.args.self.now.first.ok.0) in
    put_first c.args.self.now _ c.args.procedure c.args.at c.args.number c.ranges.at.fits within free
    (ap (λ (i : ℕ). slice_set items i (Some (first_point c.args.procedure c.args.number))) c.from-index.ensures) refl

pub returns-in_err-insert-clause-err : goal.returns-in_err-insert-clause-err
returns-in_err-insert-clause-err c =
    let p = err_from_is_err_and c.from_residual.result c.from_residual.ensures.1 in
    rw p.1 (same_numbers c.args.self.now (record { first = c.args.self.now.first; further = c.insert.new.self }) refl c.in_err-insert.ensures.err)

pub returns-clause-put : goal.returns-clause-put
returns-clause-put c =
    let items = c.args.self.now.first.items in
    let taken : (further : Option ℕ) → number_of (slice_index_or items c.args.at None) c.args.procedure further ≡ further =
    λ further. elim c.else-index-len.branch [
      | else-index-len-via-then-index-len+else-is_free w ↦
          let first : slice_index_or items c.args.at None ≡ w.first_at.result =
          sym (w.first_at.ensures ∙ ap (λ (l : List (Option FirstPoint)). slice_index_or l c.args.at None) w.deref.ensures.value) in
          ap (λ (kept : Option FirstPoint). number_of kept c.args.procedure further) first
          ∙ taken_number w.first_at.result c.args.procedure further (sym w.is_free.ensures ∙ w.if-is_free.false)
      | else-index-len-via-else-index-len w ↦
          let past : length items ≤ c.args.at = omega (arith, c.from-index.ensures, c.len.ensures, w.if-index-len.false, c.args.self.now.first.ok.0) in
          ap (λ (kept : Option FirstPoint). number_of kept c.args.procedure further) (get_or_past items c.args.at None past)
    ] in
    put_further c.args.self.now (record { first = c.args.self.now.first; further = c.insert.new.self }) c.args.procedure c.args.at c.args.number c.ranges.at.fits refl taken
    (subst (λ (k : ℕ). Updates nat_cmp c.args.self.now.further c.insert.new.self k (Some c.args.number)) c.place_number.ensures c.in_ok-insert.ensures.updates)
