-- The steps of writing a library.
use Rattle.std.proofs.Common.{◌≡◌, ℕ, ◌+◌, ◌*◌, ◌/◌, ◌<◌, ◌≤◌, Bool, true, false, ◌||◌, List, [], ◌∷◌, ◌++◌, length, drop, take, get_or, suc, refl, sym, ap, ◌∙◌, subst, arith, append_assoc}
use Rattle.std.specs.Prelude.{nat_lt}
use Rattle.std.specs.List.{flat_map, AllByRecursion}
use Rattle.std.proofs.lemmas.Bool.{or_parts, ltb-false, ltb-true}
use Rattle.std.proofs.lemmas.List.{append-nil, drop_more, length-append}
use Rattle.std.proofs.Math.Seq.{take-suc}
use Rattle.omf_core.specs.Record.{spelling}
use Rattle.omf_model.specs.Modules.{ModuleValue}
use Rattle.omf_module.specs.Writing.{module_bytes}
use Rattle.omf_module.specs.WritingLaws.{IsReadAgain}
use Rattle.omf_library.specs.Writing.{location_bytes, places_from, header_body, names_body, locations_body, dictionary_body, index_place, library_bytes, is_too_large}

-- ---- modules and their places

-- the module that is next of those that are left
next_module : (ms : List ModuleValue) (i : ℕ) (m : ModuleValue) → i < length ms → m ≡ get_or ms i m
    → drop i ms ≡ m ∷ drop (i + 1) ms
next_module ms i m within is = drop_more ms i m within ∙ ap (λ (x : ModuleValue). x ∷ drop (i + 1) ms) (sym is)

places_push : (at : ℕ) (ms : List ModuleValue) (m : ModuleValue)
    → places_from at (ms ++ m ∷ []) ≡ places_from at ms ++ (at + length (flat_map module_bytes ms)) ∷ []
places_push at [] m =
    let same : at ≡ at + length (flat_map module_bytes []) = omega arith in
    ap (λ (n : ℕ). n ∷ []) same
places_push at (n ∷ ms) m =
    let next = at + length (module_bytes n) in
    let same : next + length (flat_map module_bytes ms) ≡ at + length (module_bytes n ++ flat_map module_bytes ms) =
    omega (arith, length-append (module_bytes n) (flat_map module_bytes ms)) in
    ap (λ (ps : List ℕ). at ∷ ps) (places_push next ms m ∙ ap (λ (k : ℕ). places_from next ms ++ k ∷ []) same)

pub places_step : (ms : List ModuleValue) (i : ℕ) (m : ModuleValue) (bytes places after : List ℕ) → i < length ms
    → m ≡ get_or ms i m → bytes ≡ flat_map module_bytes (take i ms) → after ≡ places ++ (10 + length bytes) ∷ []
    → places ≡ places_from 10 (take i ms) → after ≡ places_from 10 (take (i + 1) ms)
places_step ms i m bytes places after within is written pushed inv =
    let next : i + 1 ≡ suc i = omega arith in
    let more : take (i + 1) ms ≡ take i ms ++ m ∷ [] =
    ap (λ (k : ℕ). take k ms) next ∙ (take-suc ms i m within ∙ ap (λ (x : ModuleValue). take i ms ++ x ∷ []) (sym is)) in
    rw (more, pushed, inv, written) (sym (places_push 10 (take i ms) m))

pub read_step : (ms : List ModuleValue) (i : ℕ) (m : ModuleValue) → i < length ms → m ≡ get_or ms i m → IsReadAgain m
    → (AllByRecursion IsReadAgain (drop i ms) → AllByRecursion IsReadAgain ms)
    → AllByRecursion IsReadAgain (drop (i + 1) ms) → AllByRecursion IsReadAgain ms
read_step ms i m within is read inv rest =
    inv (subst (λ (l : List ModuleValue). AllByRecursion IsReadAgain l) (sym (next_module ms i m within is)) (read, rest))

-- ---- sizes

pub locations_length : (places : List ℕ) → length (flat_map location_bytes places) ≡ 4 * length places
locations_length [] = refl
locations_length (p ∷ ps) = length-append (location_bytes p) (flat_map location_bytes ps) ∙ omega (arith, locations_length ps)

-- no module begins after the place that follows them all
places_below : (at top : ℕ) (ms : List ModuleValue) → at + length (flat_map module_bytes ms) ≤ top → top / 128 ≤ 65535
    → AllByRecursion (λ (p : ℕ). p / 128 ≤ 65535) (places_from at ms)
places_below at top [] below few = tt
places_below at top (m ∷ ms) below few = (
  omega (arith, below, few),
  places_below (at + length (module_bytes m)) top ms
      (omega (arith, below, length-append (module_bytes m) (flat_map module_bytes ms))) few,
)

pub record Fits (ms : List ModuleValue) : Type 0 where
  pub few : length ms ≤ 65535
  pub names : length (names_body ms) ≤ 65534
  pub locations : length (locations_body ms) ≤ 65534
  pub dictionary : length (dictionary_body ms) ≤ 65534
  pub block : index_place ms / 128 ≤ 65535

pub fits : (ms : List ModuleValue) → is_too_large ms ≡ false → Fits ms
fits ms small =
    let names = nat_lt 65534 (length (names_body ms)) in
    let locations = nat_lt 65534 (length (locations_body ms)) in
    let dictionary = nat_lt 65534 (length (dictionary_body ms)) in
    let d = or_parts (nat_lt 65535 (length ms) || names || locations || dictionary) (nat_lt 65535 (index_place ms / 128)) small in
    let c = or_parts (nat_lt 65535 (length ms) || names || locations) dictionary d.0 in
    let b = or_parts (nat_lt 65535 (length ms) || names) locations c.0 in
    let a = or_parts (nat_lt 65535 (length ms)) names b.0 in
    record {
      few = ltb-false 65535 (length ms) a.0;
      names = ltb-false 65534 (length (names_body ms)) a.1;
      locations = ltb-false 65534 (length (locations_body ms)) b.1;
      dictionary = ltb-false 65534 (length (dictionary_body ms)) c.1;
      block = ltb-false 65535 (index_place ms / 128) d.1;
    }

pub places_fit : (ms : List ModuleValue) → is_too_large ms ≡ false
    → AllByRecursion (λ (p : ℕ). p / 128 ≤ 65535) (places_from 10 ms)
places_fit ms small = places_below 10 (index_place ms) ms (omega arith) (fits ms small).block

-- what is tested is what is asked
quarter : (n : ℕ) → nat_lt 16383 n ≡ nat_lt 65534 (4 * n)
quarter n = by_cases (nat_lt 16383 n) (nat_lt 65534 (4 * n)) refl refl
  where
    by_cases : (a b : Bool) → nat_lt 16383 n ≡ a → nat_lt 65534 (4 * n) ≡ b → a ≡ b
    by_cases true true e f = refl
    by_cases false false e f = refl
    by_cases true false e f = absurd (omega (arith, ltb-true 16383 n e, ltb-false 65534 (4 * n) f))
    by_cases false true e f = absurd (omega (arith, ltb-false 16383 n e, ltb-true 65534 (4 * n) f))

pub too_large_is : (ms : List ModuleValue) (names places dictionary bytes : List ℕ) → names ≡ names_body ms
    → places ≡ places_from 10 ms → dictionary ≡ dictionary_body ms → bytes ≡ flat_map module_bytes ms
    → (nat_lt 65535 (length ms) || nat_lt 65534 (length names) || nat_lt 16383 (length places) || nat_lt 65534 (length dictionary)
    || nat_lt 65535 ((10 + length bytes) / 128)) ≡ is_too_large ms
too_large_is ms names places dictionary bytes a b c d =
    let count : nat_lt 16383 (length places) ≡ nat_lt 65534 (length (locations_body ms)) =
    quarter (length places) ∙ ap (λ (n : ℕ). nat_lt 65534 (4 * n)) (ap (λ (l : List ℕ). length l) b)
    ∙ ap (λ (n : ℕ). nat_lt 65534 n) (sym (locations_length (places_from 10 ms))) in
    rw (count, a, c, d) refl

-- ---- the file

joined : (h m a b c e : List ℕ) → h ++ m ++ a ++ b ++ c ++ e ≡ h ++ m ++ (a ++ (b ++ (c ++ []))) ++ e
joined h m a b c e = simp (append_assoc, append-nil)

pub file_is : (ms : List ModuleValue) (header modules names locations dictionary : List ℕ) → header ≡ header_body ms
    → modules ≡ flat_map module_bytes ms → names ≡ names_body ms
    → locations ≡ locations_body ms → dictionary ≡ dictionary_body ms
    → spelling 0x2C header ++ modules ++ spelling 0x28 names ++ spelling 0x26 locations ++ spelling 0x2A dictionary
    ++ spelling 0x0E [] ≡ library_bytes ms
unfolding library_bytes
file_is ms header modules names locations dictionary a b c d e =
    joined (spelling 0x2C header) modules (spelling 0x28 names) (spelling 0x26 locations) (spelling 0x2A dictionary)
    (spelling 0x0E [])
    ∙ ap (λ (x : List ℕ). spelling 0x2C x ++ modules
    ++ (spelling 0x28 names ++ (spelling 0x26 locations ++ (spelling 0x2A dictionary ++ []))) ++ spelling 0x0E []) a
    ∙ ap (λ (x : List ℕ). spelling 0x2C (header_body ms) ++ x
    ++ (spelling 0x28 names ++ (spelling 0x26 locations ++ (spelling 0x2A dictionary ++ []))) ++ spelling 0x0E []) b
    ∙ ap (λ (x : List ℕ). spelling 0x2C (header_body ms) ++ flat_map module_bytes ms
    ++ (spelling 0x28 x ++ (spelling 0x26 locations ++ (spelling 0x2A dictionary ++ []))) ++ spelling 0x0E []) c
    ∙ ap (λ (x : List ℕ). spelling 0x2C (header_body ms) ++ flat_map module_bytes ms
    ++ (spelling 0x28 (names_body ms) ++ (spelling 0x26 x ++ (spelling 0x2A dictionary ++ []))) ++ spelling 0x0E []) d
    ∙ ap (λ (x : List ℕ). spelling 0x2C (header_body ms) ++ flat_map module_bytes ms
    ++ (spelling 0x28 (names_body ms) ++ (spelling 0x26 (locations_body ms) ++ (spelling 0x2A x ++ [])))
    ++ spelling 0x0E []) e
