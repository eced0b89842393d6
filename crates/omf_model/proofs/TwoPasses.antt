-- Two passes of patches are one.
use Rattle.std.specs.Prelude.{◌≡◌, ◌⊎◌, ℕ, ◌+◌, ◌*◌, ◌/◌, ◌%◌, ◌<◌, ◌==◌, Bool, true, false, not, ◌||◌, nat_lt, Option, Some, None, option_map}
use Rattle.std.specs.Prelude.{option_and_then, unwrap_or, List, [], ◌∷◌, length, map, find, filter_map, slice_index, refl, if◌then◌else◌}
use Rattle.std.specs.List.{list_all, list_any, cons_option, AllByRecursion}
use Rattle.std.specs.Option.{option_map_or}
use Rattle.std.proofs.Common.{◌∙◌, ap, sym, subst, arith, inl, inr, cond, true≢false, eq-eqb, eqb-true}
use Rattle.std.proofs.lemmas.Bool.{cases_Bool, and_parts, not-true, or_cases, ltb-true}
use Rattle.omf_body.specs.declared.field.Field.{Field}
use Rattle.omf_body.specs.declared.field.Field.TheVariants.{Low, High, Both}
use Rattle.omf_model.specs.Contents.{offsets_by}
use Rattle.omf_model.specs.declared.patching.Patch.{Patch}
use Rattle.omf_model.specs.Patches.{patches_at, word_in_bytes, patched, byte_with, with_patches, is_inside_bytes, are_inside, meets, are_apart}
use Rattle.omf_model.specs.PatchLaws.{patch_by, TwoWords, first_patch, second_patch, total_patch, AddsUp, TwoPassesAreOne}
use Rattle.omf_model.proofs.PatchingLemmas.{length-with_patches, with_patches_at, are_patched, first_has, lacks_where_other_has}
use Rattle.omf_model.proofs.PatchedTwice.{twice_here}

-- ---- options and what is found

cases_option : {A : Type 0} (o : Option A) → (o ≡ None) ⊎ ((x : A) × (o ≡ Some x))
cases_option None = inl refl
cases_option (Some x) = inr (x, refl)

some_is : {A : Type 0} (x y : A) → Some x ≡ Some y → x ≡ y
some_is x y e = cc

found_has : {A : Type 0} (P : A → Type 0) (test : A → Bool) (xs : List A) (x : A) → AllByRecursion P xs → find test xs ≡ Some x → P x
found_has P test [] x all is = absurd cc
found_has {A} P test (y ∷ ys) x all is =
    (elim (test y) as (λ b. cond b (Some y) (find test ys) ≡ Some x → P x) [
      | true ↦ λ here. subst P (some_is y x here) all.0
      | false ↦ λ later. found_has P test ys x all.1 later
    ]) is

found_passes : {A B : Type 0} (passes : B → Bool) (make : A → B) (test : A → Bool) (xs : List A) (x : A) → list_all passes (map make xs) ≡ true → find test xs ≡ Some x → passes (make x) ≡ true
found_passes passes make test [] x all is = absurd cc
found_passes passes make test (y ∷ ys) x all is =
    let parts = and_parts (passes (make y)) (list_all passes (map make ys)) all in
    (elim (test y) as (λ b. cond b (Some y) (find test ys) ≡ Some x → passes (make x) ≡ true) [
      | true ↦ λ here. subst (λ z. passes (make z) ≡ true) (some_is y x here) parts.0
      | false ↦ λ later. found_passes passes make test ys x parts.1 later
    ]) is

found_test : {A : Type 0} (test : A → Bool) (xs : List A) (x : A) → find test xs ≡ Some x → test x ≡ true
found_test test [] x is = absurd cc
found_test test (y ∷ ys) x is =
    (elim (test y) as (λ b. test y ≡ b → cond b (Some y) (find test ys) ≡ Some x → test x ≡ true) [
      | true ↦ λ e here. subst (λ z. test z ≡ true) (some_is y x here) e
      | false ↦ λ _ later. found_test test ys x later
    ]) refl is

map_or_map : {A B C : Type 0} (f : B → C) (g : A → B) (o : Option A) (d : C) → option_map_or f (option_map g o) d ≡ option_map_or (λ x. f (g x)) o d
map_or_map f g None d = refl
map_or_map f g (Some x) d = refl

-- ---- the reference that has a byte

abbrev has : ℕ → TwoWords → Bool
has i w = list_any (λ o. o == i) (offsets_by w.field w.at)

-- the references with one word each
abbrev with_word : (TwoWords → ℕ) → TwoWords → Patch
with_word word w = patch_by w.field w.at (word w)

found_with : (word : TwoWords → ℕ) (i : ℕ) (ws : List TwoWords) → find (patches_at i) (map (with_word word) ws) ≡ option_map (with_word word) (find (has i) ws)
found_with word i [] = refl
found_with word i (w ∷ ws) =
    elim (has i w) as (λ b. cond b (Some (with_word word w)) (find (patches_at i) (map (with_word word) ws)) ≡ option_map (with_word word) (cond b (Some w) (find (has i) ws)))
    [ true ↦ refl | false ↦ found_with word i ws ]

byte_by : (word : TwoWords → ℕ) (ws : List TwoWords) (bytes : List ℕ) (i : ℕ) →
    byte_with (map (with_word word) ws) bytes i ≡ option_map_or (λ (w : TwoWords). patched w.field bytes w.at (word w) i) (find (has i) ws) (slice_index bytes i)
byte_by word ws bytes i =
    ap (λ (o : Option Patch). option_map_or (λ (p : Patch). patched p.field bytes p.at p.word i) o (slice_index bytes i)) (found_with word i ws)
    ∙ map_or_map (λ (p : Patch). patched p.field bytes p.at p.word i) (with_word word) (find (has i) ws) (slice_index bytes i)

-- no reference has a byte of one from which it is apart
lacks : (p q : TwoWords) (i : ℕ) → not (meets (first_patch p) (first_patch q)) ≡ true → has i p ≡ true → has i q ≡ false
lacks p q i apart here =
    elim (cases_Bool (has i q)) [
      | inl e ↦ absurd (true≢false (sym here ∙ lacks_where_other_has q.field (first_patch p) q.at i (not-true (meets (first_patch p) (first_patch q)) apart) e))
      | inr e ↦ e
    ]

-- one that is increased a second time has its byte as before
none_later : (w : TwoWords) (ws : List TwoWords) (i : ℕ) → list_all (λ q. not (meets (first_patch w) q)) (map first_patch ws) ≡ true → has i w ≡ true →
    find (patches_at i) (filter_map second_patch ws) ≡ None
none_later w [] i apart here = refl
none_later w (q ∷ qs) i apart here =
    let parts = and_parts (not (meets (first_patch w) (first_patch q))) (list_all (λ r. not (meets (first_patch w) r)) (map first_patch qs)) apart in
    let rest : List Patch = filter_map second_patch qs in
    let later : find (patches_at i) rest ≡ None = none_later w qs i parts.1 here in
    elim q.second as (λ o. find (patches_at i) (cons_option (option_map (patch_by q.field q.at) o) rest) ≡ None) [
      | None ↦ later
      | Some v ↦ ap (λ (b : Bool). cond b (Some (patch_by q.field q.at v)) (find (patches_at i) rest)) (lacks w q i parts.0 here) ∙ later
    ]

found_second : (i : ℕ) (ws : List TwoWords) → are_apart (map first_patch ws) ≡ true → find (patches_at i) (filter_map second_patch ws) ≡ option_and_then second_patch (find (has i) ws)
found_second i [] apart = refl
found_second i (w ∷ ws) apart =
    let parts = and_parts (list_all (λ q. not (meets (first_patch w) q)) (map first_patch ws)) (are_apart (map first_patch ws)) apart in
    let rest : List Patch = filter_map second_patch ws in
    let later : find (patches_at i) rest ≡ option_and_then second_patch (find (has i) ws) = found_second i ws parts.1 in
    elim (cases_Bool (has i w)) [
      | inl e ↦
          (elim w.second as (λ o. find (patches_at i) (cons_option (option_map (patch_by w.field w.at) o) rest) ≡ option_map (patch_by w.field w.at) o) [
            | None ↦ none_later w ws i parts.0 e
            | Some v ↦ ap (λ (b : Bool). cond b (Some (patch_by w.field w.at v)) (find (patches_at i) rest)) e
          ])
          ∙ ap (λ (b : Bool). option_and_then second_patch (cond b (Some w) (find (has i) ws))) (sym e)
      | inr e ↦
          (elim w.second as (λ o. find (patches_at i) (cons_option (option_map (patch_by w.field w.at) o) rest) ≡ find (patches_at i) rest) [
            | None ↦ refl
            | Some v ↦ ap (λ (b : Bool). cond b (Some (patch_by w.field w.at v)) (find (patches_at i) rest)) e
          ])
          ∙ later
          ∙ ap (λ (b : Bool). option_and_then second_patch (cond b (Some w) (find (has i) ws))) (sym e)
    ]

-- a reference is found at each of its bytes
same_found : (i k : ℕ) (ws : List TwoWords) (w : TwoWords) → are_apart (map first_patch ws) ≡ true → find (has i) ws ≡ Some w → has k w ≡ true → find (has k) ws ≡ Some w
same_found i k [] w apart is here = absurd cc
same_found i k (q ∷ qs) w apart is here =
    let parts = and_parts (list_all (λ r. not (meets (first_patch q) r)) (map first_patch qs)) (are_apart (map first_patch qs)) apart in
    (elim (has i q) as (λ b. cond b (Some q) (find (has i) qs) ≡ Some w → find (has k) (q ∷ qs) ≡ Some w) [
      | true ↦ λ e.
          let same : q ≡ w = some_is q w e in
          ap (λ (b : Bool). cond b (Some q) (find (has k) qs)) (ap (has k) same ∙ here) ∙ e
      | false ↦ λ later.
          let apart_here : not (meets (first_patch q) (first_patch w)) ≡ true = found_passes (λ r. not (meets (first_patch q) r)) first_patch (has i) qs w parts.0 later in
          let other : has k q ≡ false = lacks_where_other_has w.field (first_patch q) w.at k (not-true (meets (first_patch q) (first_patch w)) apart_here) here in
          ap (λ (b : Bool). cond b (Some q) (find (has k) qs)) other ∙ same_found i k qs w parts.1 later here
    ]) is

-- ---- bytes and words

-- the bytes of a reference are among the bytes
among : (size k : ℕ) (os : List ℕ) → list_all (λ o. nat_lt o size) os ≡ true → list_any (λ o. o == k) os ≡ true → k < size
among size k [] inside here = absurd cc
among size k (o ∷ os) inside here =
    let parts = and_parts (nat_lt o size) (list_all (λ o. nat_lt o size) os) inside in
    elim (or_cases (o == k) (list_any (λ o. o == k) os) here) [
      | inl e ↦ subst (λ n. n < size) (eqb-true o k e) (ltb-true o size parts.0)
      | inr e ↦ among size k os parts.1 e
    ]

-- what is added to bytes goes by those bytes alone
agree : (field : Field) (xs ys : List ℕ) (at v i : ℕ) → ((k : ℕ) → list_any (λ o. o == k) (offsets_by field at) ≡ true → slice_index xs k ≡ slice_index ys k) →
    list_any (λ o. o == i) (offsets_by field at) ≡ true → patched field xs at v i ≡ patched field ys at v i
agree Low xs ys at v i same here = ap (λ (n : ℕ). (n + v % 256) % 256) (same i here)
agree High xs ys at v i same here = ap (λ (n : ℕ). (n + v / 256 % 256) % 256) (same i here)
agree Both xs ys at v i same here =
    let low : slice_index xs at ≡ slice_index ys at = same at (ap (λ (b : Bool). b || ((at + 1) == at || false)) (eq-eqb at at refl)) in
    let high : slice_index xs (at + 1) ≡ slice_index ys (at + 1) = same (at + 1) (last_has (at == (at + 1)) ((at + 1) == (at + 1)) (eq-eqb (at + 1) (at + 1) refl)) in
    ap (λ (w : ℕ). if i == at then (w + v) % 65536 % 256 else (w + v) % 65536 / 256 % 256)
    (ap (λ (n : ℕ). n + 256 * slice_index xs (at + 1)) low ∙ ap (λ (n : ℕ). slice_index ys at + 256 * n) high)
  where
    last_has : (a b : Bool) → b ≡ true → (a || (b || false)) ≡ true
    last_has true b e = refl
    last_has false true e = refl
    last_has false false e = absurd (cc)

-- and by the word modulo 65536
word_low : (a b : ℕ) → a % 65536 ≡ b % 65536 → a % 256 ≡ b % 256
word_low a b same = omega (arith, same)

word_high : (a b : ℕ) → a % 65536 ≡ b % 65536 → a / 256 % 256 ≡ b / 256 % 256
word_high a b same = omega (arith, same)

word_both : (w a b : ℕ) → a % 65536 ≡ b % 65536 → (w + a) % 65536 ≡ (w + b) % 65536
word_both w a b same = omega (arith, same)

same_word : (field : Field) (bytes : List ℕ) (at a b i : ℕ) → a % 65536 ≡ b % 65536 → patched field bytes at a i ≡ patched field bytes at b i
same_word Low bytes at a b i same = ap (λ (n : ℕ). (slice_index bytes i + n) % 256) (word_low a b same)
same_word High bytes at a b i same = ap (λ (n : ℕ). (slice_index bytes i + n) % 256) (word_high a b same)
same_word Both bytes at a b i same =
    ap (λ (n : ℕ). if i == at then n % 256 else n / 256 % 256) (word_both (word_in_bytes bytes at) a b same)

-- ---- both passes, at a byte

abbrev after_first : List TwoWords → List ℕ → List ℕ
after_first ws bytes = with_patches (map first_patch ws) bytes

first_at : (ws : List TwoWords) (bytes : List ℕ) (w : TwoWords) (i : ℕ) → i < length bytes → find (has i) ws ≡ Some w → slice_index (after_first ws bytes) i ≡ patched w.field bytes w.at w.first i
first_at ws bytes w i below is =
    with_patches_at (map first_patch ws) bytes i below ∙ byte_by (λ w. w.first) ws bytes i
    ∙ ap (λ (o : Option TwoWords). option_map_or (λ (w : TwoWords). patched w.field bytes w.at w.first i) o (slice_index bytes i)) is

total_at : (ws : List TwoWords) (bytes : List ℕ) (w : TwoWords) (i : ℕ) → find (has i) ws ≡ Some w → byte_with (map total_patch ws) bytes i ≡ patched w.field bytes w.at w.total i
total_at ws bytes w i is =
    byte_by (λ w. w.total) ws bytes i
    ∙ ap (λ (o : Option TwoWords). option_map_or (λ (w : TwoWords). patched w.field bytes w.at w.total i) o (slice_index bytes i)) is

once : (ws : List TwoWords) (bytes : List ℕ) (w : TwoWords) (i : ℕ) → i < length bytes → find (has i) ws ≡ Some w → AddsUp w → w.second ≡ None →
    slice_index (after_first ws bytes) i ≡ byte_with (map total_patch ws) bytes i
once ws bytes w i below is adds none =
    let sum : w.total % 65536 ≡ (w.first + 0) % 65536 = adds.sum ∙ ap (λ (o : Option ℕ). (w.first + unwrap_or o 0) % 65536) none in
    first_at ws bytes w i below is ∙ same_word w.field bytes w.at w.first w.total i (omega (arith, sum)) ∙ sym (total_at ws bytes w i is)

twice : (ws : List TwoWords) (bytes : List ℕ) (w : TwoWords) (i v : ℕ) → are_inside (length bytes) (map first_patch ws) ≡ true → are_apart (map first_patch ws) ≡ true → find (has i) ws ≡ Some w → AddsUp w → w.second ≡ Some v →
    patched w.field (after_first ws bytes) w.at v i ≡ byte_with (map total_patch ws) bytes i
twice ws bytes w i v inside apart is adds some =
    let p : Patch = first_patch w in
    let within : is_inside_bytes (length bytes) p ≡ true = found_passes (is_inside_bytes (length bytes)) first_patch (has i) ws w inside is in
    let here : has i w ≡ true = found_test (has i) ws w is in
    let alone : List ℕ = with_patches (p ∷ []) bytes in
    let same : (k : ℕ) → has k w ≡ true → slice_index (after_first ws bytes) k ≡ slice_index alone k = λ k at_k.
    let below : k < length bytes = among (length bytes) k (offsets_by w.field w.at) within at_k in
    first_at ws bytes w k below (same_found i k ws w apart is at_k) ∙ sym (with_patches_at (p ∷ []) bytes k below ∙ first_has p [] bytes k at_k) in
    let sum : w.total % 65536 ≡ (w.first + v) % 65536 = adds.sum ∙ ap (λ (o : Option ℕ). (w.first + unwrap_or o 0) % 65536) some in
    let even : w.field ≡ High → (w.first % 256 ≡ 0) ⊎ (v % 256 ≡ 0) = λ high. subst (λ (o : Option ℕ). (w.first % 256 ≡ 0) ⊎ (unwrap_or o 0 % 256 ≡ 0)) some (adds.even high) in
    agree w.field (after_first ws bytes) alone w.at v i same here
    ∙ twice_here w.field w.at w.first v bytes i within (among (length bytes) i (offsets_by w.field w.at) within here) here even
    ∙ same_word w.field bytes w.at ((w.first + v) % 65536) w.total i (omega (arith, sum))
    ∙ sym (total_at ws bytes w i is)

pub two_passes_are_one : TwoPassesAreOne
two_passes_are_one ws bytes inside apart adds =
    let after : List ℕ = after_first ws bytes in
    let seconds : List Patch = filter_map second_patch ws in
    let long : length after ≡ length bytes = length-with_patches (map first_patch ws) bytes in
    are_patched (map total_patch ws) bytes (with_patches seconds after) (length-with_patches seconds after ∙ long) (λ i below.
    let value : Option Patch → ℕ = λ o. option_map_or (λ (p : Patch). patched p.field after p.at p.word i) o (slice_index after i) in
    with_patches_at seconds after i (omega (arith, below, long)) ∙ ap value (found_second i ws apart) ∙
    elim (cases_option (find (has i) ws)) [
      | inl none ↦
          ap (λ (o : Option TwoWords). value (option_and_then second_patch o)) none
          ∙ with_patches_at (map first_patch ws) bytes i below ∙ byte_by (λ w. w.first) ws bytes i
          ∙ ap (λ (o : Option TwoWords). option_map_or (λ (w : TwoWords). patched w.field bytes w.at w.first i) o (slice_index bytes i)) none
          ∙ sym (byte_by (λ w. w.total) ws bytes i
          ∙ ap (λ (o : Option TwoWords). option_map_or (λ (w : TwoWords). patched w.field bytes w.at w.total i) o (slice_index bytes i)) none)
      | inr found ↦
          let w : TwoWords = found.0 in
          let words : AddsUp w = found_has AddsUp (has i) ws w adds found.1 in
          ap (λ (o : Option TwoWords). value (option_and_then second_patch o)) found.1
          ∙ elim (cases_option w.second) [
            | inl none ↦ ap (λ (o : Option ℕ). value (option_map (patch_by w.field w.at) o)) none ∙ once ws bytes w i below found.1 words none
            | inr some ↦ ap (λ (o : Option ℕ). value (option_map (patch_by w.field w.at) o)) some.1 ∙ twice ws bytes w i some.0 inside apart found.1 words some.1
          ]
    ])
