use Rattle.std.proofs.Common.{sym, ◌∙◌, ap, ◌++◌, length, rules}
use Rattle.std.proofs.lemmas.List.{append-nil}
use Rattle.std.proofs.lemmas.Slice.Zip.{zip_end}
use Rattle.link80_select.proofs.PlaceLemmas.{marked_end}
use Rattle.link80_select.proofs.selecting.with_mark.Goals as goal

pub returns : goal.returns
returns c =
    let all = zip_end c.args.places.now c.args.marked.now c.loop-place.yielded c.into_iter-place-iterator.result
    c.loop-place.place-iterator c.next.new.self c.next.result
    (search rules) (search rules) c.loop-place.yielded_by c.in-None.is c.next.ensures.steps in
    sym (append-nil c.loop-place.taken.items)
    ∙ ap (λ ps. c.loop-place.taken.items ++ ps)
    (sym (marked_end c.args.places.now c.args.marked.now (length c.loop-place.yielded) all))
    ∙ c.loop-place.invariant
