use Rattle.std.specs.Prelude.{◌≡◌, ◌+◌, List, Option, None, Some, slice_index, slice_set}
use Rattle.std.specs.Result.{result_ok}
use Rattle.std.proofs.lemmas.List.{get_or_default}
use Rattle.std.proofs.Common.{◌∙◌, ap, refl, subst, sym}
use Rattle.decode80.specs.declared.fetching.Fetched.{Fetched}
use Rattle.image80.specs.{Image.Located, Image.memory_of}
use Rattle.verify80.specs.LookLaws.{fetch_at}
use Rattle.verify80_follow.proofs.ReachLemmas.{AreNoted, all_noted, none_noted, one_noted}
use Rattle.verify80_follow.proofs.reaching.followed_instructions.Goals as goal

-- what no Some is, is None
none_of : {X : Type 0} (Is : Option X → Type 0) → ((x : X) → Is (Some x) → ⊥) → (y : Option X) → Is y → y ≡ None
none_of Is none None is = refl
none_of Is none (Some x) is = absurd (none x is)

pub loop-place-init : goal.loop-place-init
loop-place-init c = none_noted c.args.image.now c.args.places.now c.in_ok-reached.reached.items (c.in_ok-reached.ensures.items_if_clones_equal (none_of _ (λ x is. is)))

pub loop-place-preserved : goal.loop-place-preserved
loop-place-preserved c =
    let image = c.args.image.now in
    let i = c.loop-place.place-index in
    let table = c.loop-place.reached.items in
    let place = slice_index c.args.places.now i in
    subst (λ (more : List (Option Fetched)). AreNoted image c.args.places.now (i + 1) more)
    (sym (c.note.ensures.set ∙ ap (λ (x : Located). slice_set table place (result_ok (fetch_at x.regions (memory_of x.chunks) place))) c.in_ok-program.ensures))
    (one_noted image c.args.places.now i table place c.loop-place-test.true (get_or_default c.args.places.now i 0 place c.loop-place-test.true) c.note.ensures.address c.loop-place.invariant)

pub returns : goal.returns
returns c = all_noted c.args.image.now c.args.places.now c.loop-place.place-index c.loop-place.reached.items c.loop-place-test.false c.loop-place.invariant
