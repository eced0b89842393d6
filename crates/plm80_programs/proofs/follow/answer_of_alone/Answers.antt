use Rattle.std.specs.Prelude.{[], IfOk, length}
use Rattle.plm80_programs.proofs.Names.{◌∙◌, ap, subst, List, ℕ}
use Rattle.verify80_follow.specs.FollowText.{bounds_lines}
use Rattle.plm80_programs.specs.Following.{PrintsTable}
use Rattle.plm80_programs.proofs.FollowLemmas.{room_is}
use Rattle.plm80_programs.proofs.follow.answer_of_alone.Goals as goal

pub returns : goal.returns
returns c =
    let asked = c.args.asked in
    let table = c.args.table.now in
    let room = room_is c.stack-room.result _ _ c.stack-room.ensures.range c.image.view_is in
    subst (λ (first : List ℕ). IfOk c.answer_of_tables.result (PrintsTable first asked.quiet.now asked.lists c.args.image.now c.args.names.now table [] c.args.is_set))
    (c.in_ok-first.ensures ∙ ap (λ n. bounds_lines asked.interrupted (length table.states.items) table.bytes n) room) c.answer_of_tables.ensures
