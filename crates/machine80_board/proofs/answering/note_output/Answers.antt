use Rattle.std.proofs.Common.{◌++◌, ◌∷◌, [], ℕ, subst, sym}
use Rattle.std.specs.Prelude.{slice_set, Some}
use Rattle.machine80_board.specs.Keeping.{HaveSeen}
use Rattle.machine80_board.proofs.PlaceLemmas.{seen_more}
use Rattle.machine80_board.proofs.answering.note_output.Goals as goal

pub returns-clause-seen : goal.returns-clause-seen
returns-clause-seen c = λ outputs seen. subst (λ (i : ℕ). HaveSeen (slice_set c.args.last.now.items i (Some c.args.output.byte)) (outputs ++ c.args.output ∷ [])) (sym c.slot.ensures.slot)
    (seen_more c.args.last.now.items outputs c.args.output c.requires c.slot.ensures.place seen)
