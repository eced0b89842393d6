use Rattle.std.proofs.Common.{◌≡◌, ◌∙◌, Option, None, Some, refl, rules}
use Rattle.verify80.specs.Looking.{code_of}
use Rattle.verify80.proofs.ReachedLemmas.{all_noted, none_noted, one_more_noted}
use Rattle.verify80.proofs.reached.find_reached.Goals as goal

-- what no Some is, is None
none_of : {X : Type 0} (Is : Option X → Type 0) → ((x : X) → Is (Some x) → ⊥) → (y : Option X) → Is y → y ≡ None
none_of Is none None is = refl
none_of Is none (Some x) is = absurd (none x is)

pub loop-point-init : goal.loop-point-init
loop-point-init c = none_noted (code_of c.args.vouched.now.image) c.points-points.result.now c.in_ok-table.table.items (c.in_ok-table.ensures.items_if_clones_equal (none_of _ (λ x is. is)))

pub loop-point-preserved : goal.loop-point-preserved
loop-point-preserved c =
    let image = c.args.vouched.now.image in
    let same : c.in_ok-code.code ≡ image = c.in_ok-code.ensures ∙ c.image.ensures.image in
    let accepted = c.points-points.ensures.vouched.accepted in
    let none = c.fitting_tables_cover_walks.ensures.no_fault (code_of image) accepted.fitted.table accepted.fitted.fits in
    let points = c.points-points.result.now in
    let i = c.loop-point.point-index in
    let table = c.loop-point.table.items in
    one_more_noted image c.in_ok-code.code same none points c.points-points.ensures.points i table c.note.new.table.items _ c.loop-point-test.true c.note.ensures
    c.loop-point.invariant

pub returns : goal.returns
returns c = all_noted (code_of c.args.vouched.now.image) c.points-points.result.now c.points-points.ensures.points c.loop-point.point-index c.loop-point.table.items (search rules) c.loop-point.invariant
