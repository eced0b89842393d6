use Rattle.std.specs.Prelude.{◌≡◌, ℕ, List, Option, Some, None, slice_index_or}
use Rattle.std.specs.Ordering.{nat_cmp}
use Rattle.std.specs.BTreeMap.{get}
use Rattle.std.proofs.Common.{◌∙◌, ap, sym}
use Rattle.frames80.specs.declared.point_numbers.FirstPoint.{FirstPoint}
use Rattle.frames80.specs.PointNumbers.{number_of}
use Rattle.frames80.proofs.NumberLemmas.{further_number, number_first, number_further}
use Rattle.frames80.proofs.point_numbers.PointNumbers.get.Goals as goal
use Rattle.frames80.proofs.point_numbers.PointNumbers.get.Goals.{in_default-via-in-Some+else-is_of, in_default-via-in_default}

pub returns-in-Some : goal.returns-in-Some
returns-in-Some c =
    let first : slice_index_or c.args.self.now.first.items c.args.at None ≡ Some c.in-Some.point =
    sym (c.in-Some.ensures ∙ ap (λ (l : List (Option FirstPoint)). slice_index_or l c.args.at None) c.deref.ensures.value) in
    sym (number_first c.args.self.now c.args.procedure c.args.at c.in-Some.point c.ranges.at.fits first (sym c.is_of.ensures ∙ c.if-is_of.true))

pub returns-in_default : goal.returns-in_default
returns-in_default c =
    let first : slice_index_or c.args.self.now.first.items c.args.at None ≡ c.first_at.result =
    sym (c.first_at.ensures ∙ ap (λ (l : List (Option FirstPoint)). slice_index_or l c.args.at None) c.deref.ensures.value) in
    let taken : (further : Option ℕ) → number_of c.first_at.result c.args.procedure further ≡ further =
    λ further. elim c.in_default.branch [
      | in_default-via-in-Some+else-is_of w ↦
          ap (λ (kept : Option FirstPoint). number_of kept c.args.procedure further) w.in-Some.is
          ∙ further_number w.in-Some.point c.args.procedure further (sym w.is_of.ensures ∙ w.if-is_of.false)
      | in_default-via-in_default w ↦ ap (λ (kept : Option FirstPoint). number_of kept c.args.procedure further) w.in_default.is
    ] in
    c.copied.ensures
    ∙ c.get.ensures.value
    ∙ ap (λ (k : ℕ). get nat_cmp c.args.self.now.further k) c.place_number.ensures
    ∙ sym (number_further c.args.self.now c.args.procedure c.args.at c.first_at.result c.ranges.at.fits first taken)
