use Rattle.std.proofs.Common.{rules, ap, ◌∙◌, List, ℕ}
use Rattle.std.specs.Prelude.{filter_map}
use Rattle.std.specs.List.{list_any}
use Rattle.verify80_flow.specs.declared.refusal.Refusal.{Refusal}
use Rattle.verify80_flow.specs.Refusal.{refusal_address}
use Rattle.plm80_programs.specs.Reached.{is_place}
use Rattle.plm80_programs.proofs.reached.Unproved.marks.Goals as goal

pub set_marks-requires : goal.set_marks-requires
set_marks-requires c = c.in_ok-marks.ensures.items_if_clones_equal (λ y same. search rules)

pub returns : goal.returns
returns c = λ at.
    c.set_marks.ensures at
    ∙ ap (λ (l : List ℕ). list_any (is_place at) l) (c.deref-2.ensures.value ∙ c.in_ok-places.ensures)
    ∙ ap (λ (l : List Refusal). list_any (is_place at) (filter_map refusal_address l)) c.deref.ensures.value
