use Rattle.std.specs.Prelude.{List, ℕ, ◌∷◌, [], true, false}
use Rattle.std.proofs.Common.{sym, ◌∙◌, set, subst}
use Rattle.std.proofs.lemmas.List.{get_or_read}
use Rattle.link80_select.specs.Selecting.{Marks}
use Rattle.link80_select.proofs.MarkLemmas.{marks_one}
use Rattle.link80_select.proofs.selecting.Search.mark.Goals as goal

pub returns-in_ok-push : goal.returns-in_ok-push
returns-in_ok-push c =
    let marked = c.args.self.now.marked.items in
    let queue = c.args.self.now.queue.items in
    let unmarked = sym (get_or_read marked c.args.number c.index.result.now c.requires c.index.ensures false)
    ∙ c.if-not-index.true in
    subst (λ (after : List ℕ). Marks (c.args.number ∷ []) marked queue (set marked c.args.number true) after)
    (sym c.in_ok-push.ensures.items)
    (marks_one marked queue c.args.number c.requires unmarked)
