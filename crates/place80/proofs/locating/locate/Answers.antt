use Rattle.std.specs.Prelude.{◌≡◌, ℕ, true, false, Some, List, [], slice_get, option_copied, ◌<◌, refl}
use Rattle.std.specs.List.{AllByRecursion}
use Rattle.std.proofs.Common.{◌∙◌, ap, sym, subst, inr}
use Rattle.place80.specs.declared.placed_segments.Placed.{Placed}
use Rattle.image80.specs.Image.{PlacedBytes, byte_at}
use Rattle.image80.specs.Regions.{Arranges}
use Rattle.place80.specs.Layout.{layout_of}
use Rattle.place80.specs.Locating.{CanBePlaced, located_code, located_stack, located_data}
use Rattle.place80.proofs.LocatingLemmas.{start_found, by_last_two, all_can_be_placed, no_first, high_told, place_told, inside_told, chunks_told, laid_fit}
use Rattle.place80.proofs.BytesLemmas.{located_byte}
use Rattle.place80.proofs.LayoutLemmas.{in_memory_and_apart}
use Rattle.place80.proofs.PlaceLemmas.{module_laws}
use Rattle.place80.proofs.locating.locate.Goals as goal

pub returns-then-any_loses_its_low_byte-clause-fault : goal.returns-then-any_loses_its_low_byte-clause-fault
returns-then-any_loses_its_low_byte-clause-fault c =
    let m = c.args.program.now in
    let laws = module_laws c.sound_modules_keep_rules.ensures c.commons_are_found_by_name.ensures
    c.parts_of_one_start_at_zero.ensures in
    let options = c.args.options.now in
    let start : ℕ × ℕ = (c.in-Some-start.segment, c.in-Some-start.offset) in
    let sound = c.externals.ensures.rules.sound in
    let closed : m.externals ≡ [] =
    no_first m.externals (ap (λ (l : List (List ℕ)). slice_get l 0) (sym c.externals.ensures.value)
    ∙ sym c.first.ensures.value ∙ ap option_copied c.in_default.is) in
    let is : m.start ≡ Some start = sym c.start.ensures.value ∙ c.in-Some-start.is in
    let laid = c.in_ok-segments.ensures.none in
    let places = c.in_ok-segments.ensures.places in
    let loses = high_told laws options m c.deref.result.now c.contents.result.now c.any_loses_its_low_byte.result sound closed
    (c.deref.ensures.value ∙ places) c.contents.ensures.value c.any_loses_its_low_byte.ensures in
    inr (by_last_two options m start true _ closed is laid (sym c.if-any_loses_its_low_byte.true ∙ loses) refl)

pub returns-then-not-is_in_placed-clause-fault : goal.returns-then-not-is_in_placed-clause-fault
returns-then-not-is_in_placed-clause-fault c =
    let m = c.args.program.now in
    let laws = module_laws c.sound_modules_keep_rules.ensures c.commons_are_found_by_name.ensures
    c.parts_of_one_start_at_zero.ensures in
    let options = c.args.options.now in
    let start : ℕ × ℕ = (c.in-Some-start.segment, c.in-Some-start.offset) in
    let sound = c.externals.ensures.rules.sound in
    let closed : m.externals ≡ [] =
    no_first m.externals (ap (λ (l : List (List ℕ)). slice_get l 0) (sym c.externals.ensures.value)
    ∙ sym c.first.ensures.value ∙ ap option_copied c.in_default.is) in
    let is : m.start ≡ Some start = sym c.start.ensures.value ∙ c.in-Some-start.is in
    let laid = c.in_ok-segments.ensures.none in
    let places = c.in_ok-segments.ensures.places in
    let loses = high_told laws options m c.deref.result.now c.contents.result.now c.any_loses_its_low_byte.result sound closed
    (c.deref.ensures.value ∙ places) c.contents.ensures.value c.any_loses_its_low_byte.ensures in
    let place = place_told options m c.deref-2.result.now start.0 start.1 c.place_of-start.result (c.deref-2.ensures.value
    ∙ places) c.place_of-start.ensures in
    let inside = inside_told laws options m c.deref-3.result.now start.0 start.1 c.place_of-start.result c.placed_in.result
    c.is_in_placed.result sound is (c.deref-3.ensures.value ∙ places) place c.placed_in.ensures c.is_in_placed.ensures in
    inr (by_last_two options m start false false closed is laid (sym c.if-any_loses_its_low_byte.false
    ∙ loses) (sym c.if-not-is_in_placed.true ∙ inside))

pub image_of-requires-clause-fit : goal.image_of-requires-clause-fit
image_of-requires-clause-fit c =
    laid_fit c.args.options.now c.args.program.now c.deref-4.result.now (c.deref-4.ensures.value
    ∙ c.in_ok-segments.ensures.places)
    (subst (λ (s : List Placed). AllByRecursion (λ p. p.length < 65536) s)
    (sym c.deref-4.ensures.value) c.in_ok-segments.ensures.lengths) c.in_ok-segments.ensures.none

pub image_of-requires-clause-contents : goal.image_of-requires-clause-contents
image_of-requires-clause-contents c =
    subst (λ (s : List Placed). AllByRecursion (CanBePlaced s) c.args.program.now.contents)
    (sym (c.deref-4.ensures.value ∙ c.in_ok-segments.ensures.places))
    (all_can_be_placed (module_laws c.sound_modules_keep_rules.ensures c.commons_are_found_by_name.ensures
    c.parts_of_one_start_at_zero.ensures) c.args.options.now c.args.program.now c.externals.ensures.rules.sound
    c.in_ok-segments.ensures.none)

pub returns-clause-regions : goal.returns-clause-regions
returns-clause-regions c =
    subst (λ (s : List Placed). Arranges (located_code s) (located_stack s) (located_data s) c.in_ok-image_of.field-0.regions)
    (c.deref-4.ensures.value ∙ c.in_ok-segments.ensures.places) c.in_ok-image_of.ensures.regions

pub returns-clause-chunks : goal.returns-clause-chunks
returns-clause-chunks c =
    let m = c.args.program.now in
    let laws = module_laws c.sound_modules_keep_rules.ensures c.commons_are_found_by_name.ensures
    c.parts_of_one_start_at_zero.ensures in
    let options = c.args.options.now in
    let sound = c.externals.ensures.rules.sound in
    let closed : m.externals ≡ [] =
    no_first m.externals (ap (λ (l : List (List ℕ)). slice_get l 0) (sym c.externals.ensures.value)
    ∙ sym c.first.ensures.value ∙ ap option_copied c.in_default.is) in
    let places = c.in_ok-segments.ensures.places in
    let chunks = chunks_told laws options m c.deref-4.result.now m.contents c.in_ok-image_of.field-0.chunks sound closed
    (c.deref-4.ensures.value ∙ places) refl c.in_ok-image_of.ensures.chunks in
    chunks

pub returns-clause-memory : goal.returns-clause-memory
returns-clause-memory c =
    let m = c.args.program.now in
    let laws = module_laws c.sound_modules_keep_rules.ensures c.commons_are_found_by_name.ensures
    c.parts_of_one_start_at_zero.ensures in
    let options = c.args.options.now in
    let sound = c.externals.ensures.rules.sound in
    let closed : m.externals ≡ [] =
    no_first m.externals (ap (λ (l : List (List ℕ)). slice_get l 0) (sym c.externals.ensures.value)
    ∙ sym c.first.ensures.value ∙ ap option_copied c.in_default.is) in
    let places = c.in_ok-segments.ensures.places in
    let chunks = chunks_told laws options m c.deref-4.result.now m.contents c.in_ok-image_of.field-0.chunks sound closed
    (c.deref-4.ensures.value ∙ places) refl c.in_ok-image_of.ensures.chunks in
    λ address. ap (λ (l : List PlacedBytes). byte_at l address) chunks
    ∙ located_byte laws options m address sound (in_memory_and_apart options m c.in_ok-segments.ensures.none).0

pub returns-clause-start : goal.returns-clause-start
returns-clause-start c =
    let m = c.args.program.now in
    let laws = module_laws c.sound_modules_keep_rules.ensures c.commons_are_found_by_name.ensures
    c.parts_of_one_start_at_zero.ensures in
    let options = c.args.options.now in
    let start : ℕ × ℕ = (c.in-Some-start.segment, c.in-Some-start.offset) in
    let sound = c.externals.ensures.rules.sound in
    let is : m.start ≡ Some start = sym c.start.ensures.value ∙ c.in-Some-start.is in
    let places = c.in_ok-segments.ensures.places in
    let place = place_told options m c.deref-2.result.now start.0 start.1 c.place_of-start.result (c.deref-2.ensures.value
    ∙ places) c.place_of-start.ensures in
    ap (λ (n : ℕ). Some n) (c.in_ok-image_of.ensures.start ∙ place)
    ∙ start_found laws (layout_of options m) m start.0 start.1 sound is

pub returns-clause-high : goal.returns-clause-high
returns-clause-high c =
    let m = c.args.program.now in
    let laws = module_laws c.sound_modules_keep_rules.ensures c.commons_are_found_by_name.ensures
    c.parts_of_one_start_at_zero.ensures in
    let options = c.args.options.now in
    let sound = c.externals.ensures.rules.sound in
    let closed : m.externals ≡ [] =
    no_first m.externals (ap (λ (l : List (List ℕ)). slice_get l 0) (sym c.externals.ensures.value)
    ∙ sym c.first.ensures.value ∙ ap option_copied c.in_default.is) in
    let places = c.in_ok-segments.ensures.places in
    let loses = high_told laws options m c.deref.result.now c.contents.result.now c.any_loses_its_low_byte.result sound closed
    (c.deref.ensures.value ∙ places) c.contents.ensures.value c.any_loses_its_low_byte.ensures in
    sym (sym c.if-any_loses_its_low_byte.false ∙ loses)

pub returns-clause-none : goal.returns-clause-none
returns-clause-none c =
    let m = c.args.program.now in
    let laws = module_laws c.sound_modules_keep_rules.ensures c.commons_are_found_by_name.ensures
    c.parts_of_one_start_at_zero.ensures in
    let options = c.args.options.now in
    let start : ℕ × ℕ = (c.in-Some-start.segment, c.in-Some-start.offset) in
    let sound = c.externals.ensures.rules.sound in
    let closed : m.externals ≡ [] =
    no_first m.externals (ap (λ (l : List (List ℕ)). slice_get l 0) (sym c.externals.ensures.value)
    ∙ sym c.first.ensures.value ∙ ap option_copied c.in_default.is) in
    let is : m.start ≡ Some start = sym c.start.ensures.value ∙ c.in-Some-start.is in
    let laid = c.in_ok-segments.ensures.none in
    let places = c.in_ok-segments.ensures.places in
    let loses = high_told laws options m c.deref.result.now c.contents.result.now c.any_loses_its_low_byte.result sound closed
    (c.deref.ensures.value ∙ places) c.contents.ensures.value c.any_loses_its_low_byte.ensures in
    let place = place_told options m c.deref-2.result.now start.0 start.1 c.place_of-start.result (c.deref-2.ensures.value
    ∙ places) c.place_of-start.ensures in
    let inside = inside_told laws options m c.deref-3.result.now start.0 start.1 c.place_of-start.result c.placed_in.result
    c.is_in_placed.result sound is (c.deref-3.ensures.value ∙ places) place c.placed_in.ensures c.is_in_placed.ensures in
    by_last_two options m start false true closed is laid (sym c.if-any_loses_its_low_byte.false
    ∙ loses) (sym c.if-not-is_in_placed.false ∙ inside)
