use Rattle.std.specs.Prelude.{IfOk, length}
use Rattle.plm80_programs.proofs.Names.{◌∙◌, ap, subst, codes, List, Located, ℕ}
use Rattle.image80.specs.declared.range.Range.{Range}
use Rattle.image80_text.specs.NameText.{named_text}
use Rattle.verify80_follow.specs.FollowText.{live_lines}
use Rattle.verify80_follow.specs.declared.handling.Handler.{Handler}
use Rattle.plm80_programs.specs.Following.{PrintsTable, first_live_lines}
use Rattle.plm80_programs.proofs.FollowLemmas.{room_is}
use Rattle.plm80_programs.proofs.follow.answer_of_live.Goals as goal

pub returns : goal.returns
returns c =
    let image = c.args.image.now in
    let names = c.args.names.now in
    let asked = c.args.asked in
    let found = c.args.found.now in
    let states = length found.table.states.items in
    let room = room_is c.stack-room.result _ _ c.stack-room.ensures.range c.image.view_is in
    let code = c.code.ensures.ranges ∙ ap (λ (i : Located). i.regions.code) c.image.view_is in
    let lines = c.in_ok-first.ensures
    ∙ ap (λ (l : List Handler). live_lines l c.deref-2.result.now states found.table.bytes c.stack-room.result.length found.most) c.deref.ensures.value
    ∙ ap (λ (l : List Range). live_lines found.handlers.items l states found.table.bytes c.stack-room.result.length found.most) c.deref-2.ensures.value
    ∙ ap (λ n. live_lines found.handlers.items found.writes.items states found.table.bytes n found.most) room in
    subst (λ (h : List Handler). IfOk c.answer_of_tables.result (PrintsTable (first_live_lines image names found) asked.quiet.now asked.lists image names found.table h found.is_set))
    c.deref-3.ensures.value
    (subst (λ (first : List ℕ). IfOk c.answer_of_tables.result (PrintsTable first asked.quiet.now asked.lists image names found.table c.deref-3.result.now found.is_set))
    (c.in_ok-first-2.ensures.named ∙ ap (λ (r : List Range). named_text r names (codes "HANDLER ") c.in_ok-first.first.items) code ∙ ap (named_text image.regions.code names (codes "HANDLER ")) lines) c.answer_of_tables.ensures)
