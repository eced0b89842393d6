-- Patches applied one after another.
use Rattle.std.specs.Prelude.{◌≡◌, ◌≢◌, ℕ, ◌+◌, ◌*◌, ◌/◌, ◌%◌, ◌<◌, ◌≤◌, ◌==◌, Bool, true, false, not, ◌&&◌, ◌||◌, nat_lt}
use Rattle.std.specs.Prelude.{List, [], ◌∷◌, Some, length, find, drop, slice_index, slice_set, IsTrue, refl, if◌then◌else◌}
use Rattle.std.specs.List.{list_all, list_any}
use Rattle.std.specs.Option.{option_map_or}
use Rattle.std.proofs.Common.{◌∙◌, ap, sym, subst, arith, inl, inr, cond, get_or, length-set, get_or-set_same, get_or-set_other, eqb-true, eq-eqb, true≢false, drop-cons, add-one}
use Rattle.std.proofs.lemmas.List.{get_or_past, drop_all}
use Rattle.std.proofs.lemmas.Bool.{cases_Bool, eqb-false}
use Rattle.std.proofs.lemmas.Bool.Decides.{nat_tests}
use Rattle.std.proofs.lemmas.List.FromFn.{length-map-range_with_len, get_or-map-range_with_len, fill_by_all}
use Rattle.omf_body.specs.declared.field.Field.{Field}
use Rattle.omf_body.specs.declared.field.Field.TheVariants.{Low, High, Both}
use Rattle.omf_model.specs.declared.patching.Patch.{Patch}
use Rattle.omf_model.specs.Contents.{offsets_by}
use Rattle.omf_model.specs.Patches.{patches_at, word_in_bytes, patched, byte_with, with_patches, is_inside_bytes, are_inside, meets, are_apart}

pub length-with_patches : (patches : List Patch) (bytes : List ℕ) → length (with_patches patches bytes) ≡ length bytes
length-with_patches patches bytes = length-map-range_with_len (byte_with patches bytes) 0 (length bytes)

pub with_patches_at : (patches : List Patch) (bytes : List ℕ) (i : ℕ) → i < length bytes → get_or (with_patches patches bytes) i 0 ≡ byte_with patches bytes i
with_patches_at patches bytes i h = get_or-map-range_with_len (byte_with patches bytes) 0 (length bytes) i i 0 h (omega arith)

-- bytes that are those with the patches, at each place
pub are_patched : (patches : List Patch) (bytes after : List ℕ) → length after ≡ length bytes → ((i : ℕ) → i < length bytes → get_or after i 0 ≡ byte_with patches bytes i) → after ≡ with_patches patches bytes
are_patched patches bytes after same at = fill_by_all (byte_with patches bytes) after (length bytes) 0 same at

-- the first patch has the byte, or not
pub first_has : (p : Patch) (ps : List Patch) (bytes : List ℕ) (i : ℕ) → patches_at i p ≡ true → byte_with (p ∷ ps) bytes i ≡ patched p.field bytes p.at p.word i
first_has p ps bytes i h = ap (λ (b : Bool). option_map_or (λ (q : Patch). patched q.field bytes q.at q.word i) (cond b (Some p) (find (patches_at i) ps)) (slice_index bytes i)) h

pub first_lacks : (p : Patch) (ps : List Patch) (bytes : List ℕ) (i : ℕ) → patches_at i p ≡ false → byte_with (p ∷ ps) bytes i ≡ byte_with ps bytes i
first_lacks p ps bytes i h = ap (λ (b : Bool). option_map_or (λ (q : Patch). patched q.field bytes q.at q.word i) (cond b (Some p) (find (patches_at i) ps)) (slice_index bytes i)) h

-- one byte of a patch
or_false : (b : Bool) → (b || false) ≡ b
or_false true = refl
or_false false = refl

has_one : (p : Patch) (i : ℕ) → offsets_by p.field p.at ≡ p.at ∷ [] → patches_at i p ≡ (p.at == i)
has_one p i one = ap (λ (l : List ℕ). list_any (λ o. o == i) l) one ∙ or_false (p.at == i)

pub one_byte : (p : Patch) (bytes : List ℕ) (v : ℕ) → offsets_by p.field p.at ≡ p.at ∷ [] → p.at < length bytes → v ≡ patched p.field bytes p.at p.word p.at → slice_set bytes p.at v ≡ with_patches (p ∷ []) bytes
one_byte p bytes v one inside is = are_patched (p ∷ []) bytes (slice_set bytes p.at v) (length-set bytes p.at v) (λ i h. elim (cases_Bool (p.at == i)) [
  | inl e ↦
      let here : get_or (slice_set bytes p.at v) p.at 0 ≡ patched p.field bytes p.at p.word p.at = get_or-set_same bytes p.at v 0 inside ∙ is in
      let same : p.at ≡ i = eqb-true p.at i e in
      subst (λ (n : ℕ). get_or (slice_set bytes p.at v) n 0 ≡ patched p.field bytes p.at p.word n) same here ∙ sym (first_has p [] bytes i (has_one p i one ∙ e))
  | inr e ↦
      let other : i ≢ p.at = λ s. eqb-false p.at i e (sym s) in
      get_or-set_other bytes p.at i v 0 other ∙ sym (first_lacks p [] bytes i (has_one p i one ∙ e))
])

-- both bytes of a patch
has_two : (p : Patch) (i : ℕ) → offsets_by p.field p.at ≡ p.at ∷ (p.at + 1) ∷ [] → patches_at i p ≡ (p.at == i || (p.at + 1) == i)
has_two p i two = ap (λ (l : List ℕ). list_any (λ o. o == i) l) two ∙ ap (λ (b : Bool). p.at == i || b) (or_false ((p.at + 1) == i))

pub two_bytes : (p : Patch) (bytes : List ℕ) (low high : ℕ) → offsets_by p.field p.at ≡ p.at ∷ (p.at + 1) ∷ [] → p.at + 1 < length bytes →
    low ≡ patched p.field bytes p.at p.word p.at → high ≡ patched p.field bytes p.at p.word (p.at + 1) → slice_set (slice_set bytes p.at low) (p.at + 1) high ≡ with_patches (p ∷ []) bytes
two_bytes p bytes low high two inside is_low is_high =
    let first : List ℕ = slice_set bytes p.at low in
    let after : List ℕ = slice_set first (p.at + 1) high in
    let long : length first ≡ length bytes = length-set bytes p.at low in
    let within : p.at < length bytes = omega arith in
    let within_first : p.at + 1 < length first = omega arith in
    are_patched (p ∷ []) bytes after (length-set first (p.at + 1) high ∙ long) (λ i h. elim (cases_Bool (p.at == i)) [
      | inl e ↦
          let apart : p.at ≢ p.at + 1 = omega arith in
          let here : get_or after p.at 0 ≡ patched p.field bytes p.at p.word p.at = get_or-set_other first (p.at + 1) p.at high 0 apart ∙ get_or-set_same bytes p.at low 0 within ∙ is_low in
          let same : p.at ≡ i = eqb-true p.at i e in
          subst (λ (n : ℕ). get_or after n 0 ≡ patched p.field bytes p.at p.word n) same here ∙ sym (first_has p [] bytes i (has_two p i two ∙ ap (λ (b : Bool). b || (p.at + 1) == i) e))
      | inr e ↦
          let none : patches_at i p ≡ ((p.at + 1) == i) = has_two p i two ∙ ap (λ (b : Bool). b || (p.at + 1) == i) e in
          elim (cases_Bool ((p.at + 1) == i)) [
            | inl f ↦
                let here : get_or after (p.at + 1) 0 ≡ patched p.field bytes p.at p.word (p.at + 1) = get_or-set_same first (p.at + 1) high 0 within_first ∙ is_high in
                let same : p.at + 1 ≡ i = eqb-true (p.at + 1) i f in
                subst (λ (n : ℕ). get_or after n 0 ≡ patched p.field bytes p.at p.word n) same here ∙ sym (first_has p [] bytes i (none ∙ f))
            | inr f ↦
                let other : i ≢ p.at + 1 = λ s. eqb-false (p.at + 1) i f (sym s) in
                let apart : i ≢ p.at = λ s. eqb-false p.at i e (sym s) in
                get_or-set_other first (p.at + 1) i high 0 other ∙ get_or-set_other bytes p.at i low 0 apart ∙ sym (first_lacks p [] bytes i (none ∙ f))
          ]
    ])

below_length : (n long : ℕ) (t : Bool) → (nat_lt n long && t) ≡ true → n < long
below_length n long t h = grind (arith, nat_tests, h)

pub second_below : (n long : ℕ) → (nat_lt n long && (nat_lt (n + 1) long && true)) ≡ true → n + 1 < long
second_below n long h = grind (arith, nat_tests, h)

-- one patch, by its field
pub low_applied : (p : Patch) (bytes : List ℕ) (v : ℕ) → p.field ≡ Low → IsTrue (is_inside_bytes (length bytes) p) → v ≡ (slice_index bytes p.at + p.word % 256) % 256 → slice_set bytes p.at v ≡ with_patches (p ∷ []) bytes
low_applied p bytes v is within value =
    let one : offsets_by p.field p.at ≡ p.at ∷ [] = ap (λ (f : Field). offsets_by f p.at) is in
    let inside : (nat_lt p.at (length bytes) && true) ≡ true = ap (list_all (λ o. nat_lt o (length bytes))) (sym one) ∙ within in
    one_byte p bytes v one (below_length p.at (length bytes) true inside) (value ∙ ap (λ (f : Field). patched f bytes p.at p.word p.at) (sym is))

pub high_applied : (p : Patch) (bytes : List ℕ) (v : ℕ) → p.field ≡ High → IsTrue (is_inside_bytes (length bytes) p) → v ≡ (slice_index bytes p.at + p.word / 256 % 256) % 256 → slice_set bytes p.at v ≡ with_patches (p ∷ []) bytes
high_applied p bytes v is within value =
    let one : offsets_by p.field p.at ≡ p.at ∷ [] = ap (λ (f : Field). offsets_by f p.at) is in
    let inside : (nat_lt p.at (length bytes) && true) ≡ true = ap (list_all (λ o. nat_lt o (length bytes))) (sym one) ∙ within in
    one_byte p bytes v one (below_length p.at (length bytes) true inside) (value ∙ ap (λ (f : Field). patched f bytes p.at p.word p.at) (sym is))

pub both_applied : (p : Patch) (bytes : List ℕ) (sum low high : ℕ) → p.field ≡ Both → IsTrue (is_inside_bytes (length bytes) p) → sum ≡ (slice_index bytes p.at + 256 * slice_index bytes (p.at + 1) + p.word) % 65536 → low ≡ sum % 256 → high ≡ sum / 256 % 256 →
    slice_set (slice_set bytes p.at low) (p.at + 1) high ≡ with_patches (p ∷ []) bytes
both_applied p bytes sum low high is within total is_low is_high =
    let two : offsets_by p.field p.at ≡ p.at ∷ (p.at + 1) ∷ [] = ap (λ (f : Field). offsets_by f p.at) is in
    let inside : (nat_lt p.at (length bytes) && (nat_lt (p.at + 1) (length bytes) && true)) ≡ true = ap (list_all (λ o. nat_lt o (length bytes))) (sym two) ∙ within in
    let at_low : (p.at == p.at) ≡ true = eq-eqb p.at p.at refl in
    let at_high : ((p.at + 1) == p.at) ≡ false = grind (arith, nat_tests) in
    two_bytes p bytes low high two (second_below p.at (length bytes) inside)
    (is_low ∙ ap (λ (n : ℕ). n % 256) total ∙ ap (λ (b : Bool). if b then (word_in_bytes bytes p.at + p.word) % 65536 % 256 else (word_in_bytes bytes p.at + p.word) % 65536 / 256 % 256) (sym at_low) ∙ ap (λ (f : Field). patched f bytes p.at p.word p.at) (sym is))
    (is_high ∙ ap (λ (n : ℕ). n / 256 % 256) total ∙ ap (λ (b : Bool). if b then (word_in_bytes bytes p.at + p.word) % 65536 % 256 else (word_in_bytes bytes p.at + p.word) % 65536 / 256 % 256) (sym at_high) ∙ ap (λ (f : Field). patched f bytes p.at p.word (p.at + 1)) (sym is))

-- a byte that a patch does not have stays
pub stays : (p : Patch) (bytes : List ℕ) (i : ℕ) → patches_at i p ≡ false → slice_index (with_patches (p ∷ []) bytes) i ≡ slice_index bytes i
stays p bytes i h = elim (cases_Bool (nat_lt i (length bytes))) [
  | inl e ↦ with_patches_at (p ∷ []) bytes i (grind (arith, nat_tests, e)) ∙ first_lacks p [] bytes i h
  | inr e ↦
      let past : length bytes ≤ i = grind (arith, nat_tests, e) in
      let past_new : length (with_patches (p ∷ []) bytes) ≤ i = omega (arith, length-with_patches (p ∷ []) bytes) in
      get_or_past (with_patches (p ∷ []) bytes) i 0 past_new ∙ sym (get_or_past bytes i 0 past)
]

both_true : (a b : Bool) → (a && b) ≡ true → (a ≡ true) × (b ≡ true)
both_true true b h = (refl, h)
both_true false b h = cc

not_true : (b : Bool) → not b ≡ true → b ≡ false
not_true true h = cc
not_true false h = refl

none_of_two : (a b : Bool) → (a || b) ≡ false → (a ≡ false) × (b ≡ false)
none_of_two true b h = cc
none_of_two false b h = (refl, h)

-- a patch lacks the bytes of one that it does not meet
pub lacks_where_other_has : (f : Field) (p : Patch) (at i : ℕ) → list_any (λ o. patches_at o p) (offsets_by f at) ≡ false → list_any (λ o. o == i) (offsets_by f at) ≡ true → patches_at i p ≡ false
lacks_where_other_has Low p at i apart has = subst (λ (n : ℕ). patches_at n p ≡ false) (eqb-true at i (sym (or_false (at == i)) ∙ has)) (none_of_two (patches_at at p) false apart).0
lacks_where_other_has High p at i apart has = subst (λ (n : ℕ). patches_at n p ≡ false) (eqb-true at i (sym (or_false (at == i)) ∙ has)) (none_of_two (patches_at at p) false apart).0
lacks_where_other_has Both p at i apart has =
    let first : (patches_at at p ≡ false) × ((patches_at (at + 1) p || false) ≡ false) = none_of_two (patches_at at p) (patches_at (at + 1) p || false) apart in
    elim (cases_Bool (at == i)) [
      | inl e ↦ subst (λ (n : ℕ). patches_at n p ≡ false) (eqb-true at i e) first.0
      | inr e ↦
          let later : ((at + 1) == i) ≡ true = sym (or_false ((at + 1) == i)) ∙ sym (ap (λ (b : Bool). b || ((at + 1) == i || false)) e) ∙ has in
          subst (λ (n : ℕ). patches_at n p ≡ false) (eqb-true (at + 1) i later) (none_of_two (patches_at (at + 1) p) false first.1).0
    ]

by_field : (f : Field) (p : Patch) (at word : ℕ) (bytes : List ℕ) (i : ℕ) → list_any (λ o. patches_at o p) (offsets_by f at) ≡ false → list_any (λ o. o == i) (offsets_by f at) ≡ true → patched f (with_patches (p ∷ []) bytes) at word i ≡ patched f bytes at word i
by_field Low p at word bytes i apart has = ap (λ (n : ℕ). (n + word % 256) % 256) (stays p bytes i (lacks_where_other_has Low p at i apart has))
by_field High p at word bytes i apart has = ap (λ (n : ℕ). (n + word / 256 % 256) % 256) (stays p bytes i (lacks_where_other_has High p at i apart has))
by_field Both p at word bytes i apart has =
    let first : (patches_at at p ≡ false) × ((patches_at (at + 1) p || false) ≡ false) = none_of_two (patches_at at p) (patches_at (at + 1) p || false) apart in
    let low : slice_index (with_patches (p ∷ []) bytes) at ≡ slice_index bytes at = stays p bytes at first.0 in
    let high : slice_index (with_patches (p ∷ []) bytes) (at + 1) ≡ slice_index bytes (at + 1) = stays p bytes (at + 1) (none_of_two (patches_at (at + 1) p) false first.1).0 in
    let words : word_in_bytes (with_patches (p ∷ []) bytes) at ≡ word_in_bytes bytes at = ap (λ (n : ℕ). n + 256 * slice_index (with_patches (p ∷ []) bytes) (at + 1)) low ∙ ap (λ (n : ℕ). slice_index bytes at + 256 * n) high in
    ap (λ (w : ℕ). if i == at then (w + word) % 65536 % 256 else (w + word) % 65536 / 256 % 256) words

-- what a patch makes of a byte, where another one that it shares no byte with was applied before
patched_after : (p q : Patch) (bytes : List ℕ) (i : ℕ) → meets p q ≡ false → patches_at i q ≡ true → patched q.field (with_patches (p ∷ []) bytes) q.at q.word i ≡ patched q.field bytes q.at q.word i
patched_after p q bytes i apart has = by_field q.field p q.at q.word bytes i apart has

-- the rest of the patches on these bytes is all patches on the first bytes
rest_after : (p : Patch) (ps : List Patch) (bytes : List ℕ) (i : ℕ) → list_all (λ q. not (meets p q)) ps ≡ true → patches_at i p ≡ false → byte_with ps (with_patches (p ∷ []) bytes) i ≡ byte_with ps bytes i
rest_after p [] bytes i apart lacks = stays p bytes i lacks
rest_after p (q ∷ qs) bytes i apart lacks =
    let parts : (not (meets p q) ≡ true) × (list_all (λ r. not (meets p r)) qs ≡ true) = both_true (not (meets p q)) (list_all (λ r. not (meets p r)) qs) apart in
    let disjoint : meets p q ≡ false = not_true (meets p q) parts.0 in
    elim (cases_Bool (patches_at i q)) [
      | inl e ↦ first_has q qs (with_patches (p ∷ []) bytes) i e ∙ patched_after p q bytes i disjoint e ∙ sym (first_has q qs bytes i e)
      | inr e ↦ first_lacks q qs (with_patches (p ∷ []) bytes) i e ∙ rest_after p qs bytes i parts.1 lacks ∙ sym (first_lacks q qs bytes i e)
    ]

-- no later patch has a byte of one that it does not meet
none_has : (p : Patch) (ps : List Patch) (bytes : List ℕ) (i : ℕ) → list_all (λ q. not (meets p q)) ps ≡ true → patches_at i p ≡ true → byte_with ps bytes i ≡ slice_index bytes i
none_has p [] bytes i apart has = refl
none_has p (q ∷ qs) bytes i apart has =
    let parts : (not (meets p q) ≡ true) × (list_all (λ r. not (meets p r)) qs ≡ true) = both_true (not (meets p q)) (list_all (λ r. not (meets p r)) qs) apart in
    let disjoint : meets p q ≡ false = not_true (meets p q) parts.0 in
    elim (cases_Bool (patches_at i q)) [
      | inl e ↦ absurd (true≢false (sym has ∙ lacks_where_other_has q.field p q.at i disjoint e))
      | inr e ↦ first_lacks q qs bytes i e ∙ none_has p qs bytes i parts.1 has
    ]

pub patches_more : (p : Patch) (ps : List Patch) (bytes : List ℕ) → list_all (λ q. not (meets p q)) ps ≡ true → with_patches ps (with_patches (p ∷ []) bytes) ≡ with_patches (p ∷ ps) bytes
patches_more p ps bytes apart =
    let once : List ℕ = with_patches (p ∷ []) bytes in
    let long : length once ≡ length bytes = length-with_patches (p ∷ []) bytes in
    are_patched (p ∷ ps) bytes (with_patches ps once) (length-with_patches ps once ∙ long) (λ i h.
    let inside : i < length once = omega arith in
    elim (cases_Bool (patches_at i p)) [
      | inl e ↦ with_patches_at ps once i inside ∙ none_has p ps once i apart e ∙ with_patches_at (p ∷ []) bytes i h ∙ first_has p [] bytes i e ∙ sym (first_has p ps bytes i e)
      | inr e ↦ with_patches_at ps once i inside ∙ rest_after p ps bytes i apart e ∙ sym (first_lacks p ps bytes i e)
    ])

-- the loop over patches: the next one, and the rest
pub next_patch : (ps : List Patch) (i : ℕ) (d : Patch) → i < length ps → drop i ps ≡ get_or ps i d ∷ drop (i + 1) ps
next_patch ps i d h = rw (add-one, drop-cons ps i d) refl

pub patches_step : (ps : List Patch) (i : ℕ) (d : Patch) (first bytes after : List ℕ) → i < length ps → with_patches (drop i ps) bytes ≡ with_patches ps first → IsTrue (are_apart (drop i ps)) → after ≡ with_patches (get_or ps i d ∷ []) bytes →
    (with_patches (drop (i + 1) ps) after ≡ with_patches ps first) × IsTrue (are_apart (drop (i + 1) ps))
patches_step ps i d first bytes after inside rest apart is =
    let p : Patch = get_or ps i d in
    let more : List Patch = drop (i + 1) ps in
    let here : drop i ps ≡ p ∷ more = next_patch ps i d inside in
    let parts : (list_all (λ q. not (meets p q)) more ≡ true) × (are_apart more ≡ true) = both_true (list_all (λ q. not (meets p q)) more) (are_apart more) (ap are_apart (sym here) ∙ apart) in
    (ap (with_patches more) is ∙ patches_more p more bytes parts.0 ∙ ap (λ (l : List Patch). with_patches l bytes) (sym here) ∙ rest, parts.1)

pub patches_inside : (ps : List Patch) (i : ℕ) (d : Patch) (size : ℕ) → i < length ps → IsTrue (are_inside size (drop i ps)) → IsTrue (is_inside_bytes size (get_or ps i d)) × IsTrue (are_inside size (drop (i + 1) ps))
patches_inside ps i d size inside all = both_true (is_inside_bytes size (get_or ps i d)) (are_inside size (drop (i + 1) ps)) (ap (are_inside size) (sym (next_patch ps i d inside)) ∙ all)

pub patches_done : (ps : List Patch) (i : ℕ) (first bytes : List ℕ) → length ps ≤ i → with_patches (drop i ps) bytes ≡ with_patches ps first → bytes ≡ with_patches ps first
patches_done ps i first bytes past rest = are_patched [] bytes bytes refl (λ k h. refl) ∙ ap (λ (l : List Patch). with_patches l bytes) (sym (drop_all i ps past)) ∙ rest
