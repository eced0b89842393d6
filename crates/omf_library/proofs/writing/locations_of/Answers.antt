use Rattle.std.proofs.Common.{arith, ◌≡◌, take, ◌<◌, ◌+◌, ◌≤◌, ◌/◌, ℕ, List, ◌∷◌, length, drop, get_or, subst}
use Rattle.std.specs.List.{flat_map, AllByRecursion}
use Rattle.std.proofs.lemmas.List.{drop_more}
use Rattle.std.proofs.lemmas.Grind.{common_steps}
use Rattle.omf_library.specs.Writing.{location_bytes}
use Rattle.omf_library.proofs.writing.locations_of.Goals as goal

-- What holds of all that are left holds of the first of them, and of the rest.
left_have : {A : Type 0} (P : A → Type 0) (xs : List A) (i : ℕ) (d : A) → AllByRecursion P (drop i xs) → i < length xs
    → AllByRecursion P (get_or xs i d ∷ drop (i + 1) xs)
left_have P xs i d all within = subst (λ l. AllByRecursion P l) (drop_more xs i d within) all

pub push_location-requires : goal.push_location-requires
push_location-requires c =
    (left_have (λ (place : ℕ). place / 128 ≤ 65535) c.args.places.now c.loop-place.place-index _ c.loop-place.invariant.few
    c.loop-place-test.true).0

pub loop-place-preserved : goal.loop-place-preserved
loop-place-preserved c =
    let made : c.push_location.new.out.items ≡ flat_map location_bytes (take (c.loop-place.place-index + 1) c.args.places.now) =
    grind (arith, common_steps, c.loop-place.invariant.made, c.in_ok-push_location.ensures) in record {
      made = made;
      few = (left_have (λ (place : ℕ). place / 128 ≤ 65535) c.args.places.now c.loop-place.place-index 0 c.loop-place.invariant.few
          c.loop-place-test.true).1;
    }
