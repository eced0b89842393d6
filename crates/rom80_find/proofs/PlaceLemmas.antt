-- The places before an address, and before the next one.
use Rattle.std.specs.Prelude.{◌≡◌, ℕ, zero, suc, ◌+◌, ◌*◌, ◌/◌, ◌%◌, ◌<◌, ◌≤◌, ◌==◌, ◌&&◌, ◌||◌, not, Bool, true, false, List, [], ◌∷◌, ◌++◌, length, filter, slice_index_or}
use Rattle.std.specs.Int.{bit_at}
use Rattle.std.specs.List.{list_all, list_any}
use Rattle.std.proofs.Common.{append-nil, refl, sym, ◌∙◌, ap, subst, arith, get_or, ◌⊎◌, inl, inr}
use Rattle.std.proofs.lemmas.Bool.{and_from, and_parts, eqb-true, eq-eqb, ne_eqb, or_cases, true≢false, cases_lt}
use Rattle.std.proofs.lemmas.Nat.Bits.{bit_at-zero}
use Rattle.std.proofs.lemmas.List.Recursion.{or_at}
use Rattle.std.proofs.lemmas.List.Folds.{list_any-append}
use Rattle.std.proofs.lemmas.List.Sorted.{IsPermutation-sym}
use Rattle.std.proofs.lemmas.List.Quantifiers.{all_pairs_push}
use Rattle.rom80_find.specs.Dump.{DumpValue}
use Rattle.rom80_pattern.specs.declared.code_byte.CodeByte.{CodeByte}
use Rattle.rom80_find.specs.Places.{LiesAt, place_if, ArePlaces, is_listed}
use Rattle.rom80_find.specs.declared.places.Places.{Places}
use Rattle.rom80_find.specs.Listed.{Lists, Shows}
use Rattle.rom80_pattern.specs.CodeBytes.{is_plain}
use Rattle.rom80_find.specs.Blocks.{AreFitted, IsFitted}
use Rattle.rom80_find.specs.Fixups.{AreFixupsOf, are_there}
use Rattle.rom80_find.specs.Marks.{AreSieved, bit_in, has_bit, passes}
use Rattle.rom80_find.proofs.CodeLieLemmas.{parts_lie}
use Rattle.rom80_find.proofs.GroupLemmas.{lies_permuted, there_permuted}
use Rattle.rom80_find.proofs.PassLemmas.{all_plain, lies_passes, lies_some, passes_there}

before_or_here : (at a : ℕ) → a < at + 1 → (a < at) ⊎ (at ≡ a)
before_or_here at a lt = elim (cases_lt a at) [ inl k ↦ inl k | inr k ↦ inr (omega arith) ]

only : (at a : ℕ) → is_listed (at ∷ []) a ≡ true → at ≡ a
only at a h = elim (or_cases (at == a) false h) [ inl e ↦ eqb-true at a e | inr e ↦ elim (true≢false (sym e)) [ ] ]

listed_at : (places : List ℕ) (k d : ℕ) → k < length places → is_listed places (get_or places k d) ≡ true
listed_at places k d lt =
    or_at (λ (xs : List ℕ). list_any (λ p. p == get_or places k d) xs) (λ (p : ℕ). p == get_or places k d) refl (λ _ _. refl) places k d lt (eq-eqb (get_or places k d) (get_or places k d) refl)

listed-append : (places more : List ℕ) (a : ℕ) → is_listed (places ++ more) a ≡ (is_listed places a || is_listed more a)
listed-append places more a = list_any-append (λ (p : ℕ). p == a) places more

or-right : (x y : Bool) → y ≡ true → (x || y) ≡ true
or-right true y e = refl
or-right false y e = e

or-left : (x y : Bool) → x ≡ true → (x || y) ≡ true
or-left x y e = ap (λ (t : Bool). t || y) e

module _ (dump : DumpValue) (code : List CodeByte) (at : ℕ) (places : List ℕ) (h : ArePlaces dump code at places) where
  -- the code doesn't lie there
  pub not_there : (LiesAt dump code at → ⊥) → ArePlaces dump code (at + 1) places
  not_there away = record {
    lies = λ a e. (omega (arith, (h.lies a e).0), (h.lies a e).1);
    all = λ a lt l. elim (before_or_here at a lt) [
      | inl k ↦ h.all a k l
      | inr e ↦ elim (away (subst (λ (x : ℕ). LiesAt dump code x) (sym e) l)) [ ]
    ];
    ascending = h.ascending;
  }

  -- it does
  pub there : LiesAt dump code at → ArePlaces dump code (at + 1) (places ++ at ∷ [])
  there lies = record {
    lies = λ a e. elim (or_cases (is_listed places a) (is_listed (at ∷ []) a) (sym (listed-append places (at ∷ []) a) ∙ e)) [
      | inl k ↦ (omega (arith, (h.lies a k).0), (h.lies a k).1)
      | inr k ↦ (omega (arith, only at a k), subst (λ (x : ℕ). LiesAt dump code x) (only at a k) lies)
    ];
    all = λ a lt l. listed-append places (at ∷ []) a ∙ (elim (before_or_here at a lt) [
      | inl k ↦ or-left (is_listed places a) (is_listed (at ∷ []) a) (h.all a k l)
      | inr e ↦ or-right (is_listed places a) (is_listed (at ∷ []) a) (or-left (at == a) false (eq-eqb at a e))
    ]);
    ascending = all_pairs_push (λ (p q : ℕ). p < q) places at h.ascending (λ k d lt. (h.lies (get_or places k d) (listed_at places k d lt)).0);
  }

-- one address, by the sieve's answer and what lies there of the bytes in fixups
module _ (dump : DumpValue) (code fixups : List CodeByte) (at : ℕ) (sorted : AreFixupsOf code fixups)
    (here : Bool) (sieved : here ≡ list_all (passes dump at) code) where
  pub sieved_away : here ≡ false → LiesAt dump code at → ⊥
  sieved_away e l = true≢false (sym (lies_passes dump code at l) ∙ (sym sieved ∙ e))

  fixups_lie : LiesAt dump code at → LiesAt dump fixups at
  fixups_lie l = lies_permuted dump (filter (λ b. not (is_plain b)) code) fixups at sorted.same (lies_some dump code at (λ b. not (is_plain b)) l)

  lies_here : here ≡ true → LiesAt dump fixups at → LiesAt dump code at
  lies_here e l =
      parts_lie dump code at (all_plain dump at code (sym sieved ∙ e))
      (lies_permuted dump fixups (filter (λ b. not (is_plain b)) code) at (IsPermutation-sym (filter (λ b. not (is_plain b)) code) fixups sorted.same) l)

  -- so the answer at it says whether it is the next place
  module _ (places : List ℕ) (h : ArePlaces dump code at places) where
    next : (lies : Bool) (new : List ℕ) → (lies ≡ true → here ≡ true) → (lies ≡ true → LiesAt dump fixups at)
        → (lies ≡ false → here ≡ true → LiesAt dump fixups at → ⊥) → new ≡ places ++ place_if lies at → ArePlaces dump code (at + 1) new
    next true new alive fit none is = subst (λ (l : List ℕ). ArePlaces dump code (at + 1) l) (sym is)
        (there dump code at places h (lies_here (alive refl) (fit refl)))
    next false new alive fit none is = subst (λ (l : List ℕ). ArePlaces dump code (at + 1) l) (sym (is ∙ append-nil places))
        (not_there dump code at places h (away here refl))
      where
        away : (t : Bool) → here ≡ t → LiesAt dump code at → ⊥
        away true e l = none refl e (fixups_lie l)
        away false e l = sieved_away e l

    -- by a mark
    next_place : (mark : ℕ) (new : List ℕ) → (here ≡ true → IsFitted dump fixups at 0 mark)
        → new ≡ places ++ place_if (here && mark == 0) at → ArePlaces dump code (at + 1) new
    next_place mark new fitted is = next (here && mark == 0) new
        (λ e. (and_parts here (mark == 0) e).0)
        (λ e. let parts = and_parts here (mark == 0) e in (fitted parts.0).yes (eqb-true mark 0 parts.1))
        (λ e on l. true≢false (sym (and_from here (mark == 0) on (eq-eqb mark 0 ((fitted on).no refl l))) ∙ e)) is

-- what follows of each list follows of the one that is listed
pub lists_as : (P Q : List ℕ → Type 0) (places : Places) → ((all : List ℕ) → P all → Q all) → Lists P places → Lists Q places
lists_as P Q places so h = record { all = h.all; are = so h.all h.are; shows = h.shows }

-- so of places of which the first are kept
pub next_listed : (dump : DumpValue) (code fixups : List CodeByte) (at : ℕ) → AreFixupsOf code fixups → (here : Bool)
    → here ≡ list_all (passes dump at) code → (old new : Places) → Lists (ArePlaces dump code at) old → (mark : ℕ)
    → (here ≡ true → IsFitted dump fixups at 0 mark) → (lies : Bool) → lies ≡ (here && mark == 0)
    → ((all : List ℕ) → Shows old all → Shows new (all ++ place_if lies at)) → Lists (ArePlaces dump code (at + 1)) new
next_listed dump code fixups at sorted here sieved old new h mark fitted lies is added = record {
  all = h.all ++ place_if lies at;
  are = next_place dump code fixups at sorted here sieved h.all h.are mark (h.all ++ place_if lies at) fitted
      (ap (λ (t : Bool). h.all ++ place_if t at) is);
  shows = added h.all h.shows;
}

-- a word of which no address is left
pub none_in_word : (dump : DumpValue) (code fixups : List CodeByte) (first : ℕ) (wrong places : List ℕ)
    → AreFitted dump code fixups first 64 (has_bit 0) wrong → ArePlaces dump code first places → ArePlaces dump code (first + 64) places
none_in_word dump code fixups first wrong places fitted h = none_before 64 (omega arith)
  where
    no_bit : (i : ℕ) → has_bit 0 i ≡ false
    no_bit i = ne_eqb (bit_at 0 i) 1 (λ e. omega (arith, bit_at-zero i, e))

    plus_zero : (n : ℕ) → n ≡ n + 0
    plus_zero n = omega arith

    none_before : (k : ℕ) → k ≤ 64 → ArePlaces dump code (first + k) places
    none_before zero le = subst (λ (n : ℕ). ArePlaces dump code n places) (plus_zero first) h
    none_before (suc k) le =
        let more : first + k + 1 ≡ first + suc k = omega arith in
        subst (λ (n : ℕ). ArePlaces dump code n places) more
        (not_there dump code (first + k) places (none_before k (omega (arith, le)))
        (sieved_away dump code fixups (first + k) fitted.sorted (has_bit 0 k) (fitted.passed k (omega (arith, le))) (no_bit k)))

-- a word of a block
pub word_fitted : (dump : DumpValue) (code fixups : List CodeByte) (alive wrong part : List ℕ) (block w word : ℕ) → w < 64
    → AreFitted dump code fixups (4096 * block) 4096 (λ k. bit_in alive (4096 * block + k)) wrong
    → word ≡ slice_index_or alive (64 * block + w) 0
    → ((i : ℕ) → i < 64 → slice_index_or part i 0 ≡ slice_index_or wrong (64 * w + i) 0)
    → AreFitted dump code fixups (4096 * block + 64 * w) 64 (has_bit word) part
word_fitted dump code fixups alive wrong part block w word lt h is same = record {
  sorted = h.sorted;
  passed = λ i li.
      bit i li ∙ (h.passed (64 * w + i) (omega (arith, li, lt))
      ∙ ap (λ (a : ℕ). list_all (passes dump a) code) (further i));
  fitted = λ i li on.
      subst (λ (a : ℕ). IsFitted dump fixups a 0 (slice_index_or part i 0)) (further i)
      (subst (λ (m : ℕ). IsFitted dump fixups (4096 * block + (64 * w + i)) 0 m) (sym (same i li))
      (h.fitted (64 * w + i) (omega (arith, li, lt)) (sym (bit i li) ∙ on)));
}
  where
    further : (i : ℕ) → 4096 * block + (64 * w + i) ≡ 4096 * block + 64 * w + i
    further i = omega arith

    bit : (i : ℕ) → i < 64 → has_bit word i ≡ bit_in alive (4096 * block + (64 * w + i))
    bit i li =
        let at : (4096 * block + (64 * w + i)) / 64 ≡ 64 * block + w = omega (arith, li) in
        let number : (4096 * block + (64 * w + i)) % 64 ≡ i = omega (arith, li) in
        ap (λ (n : ℕ). has_bit n i) (is ∙ ap (λ (k : ℕ). slice_index_or alive k 0) (sym at))
        ∙ ap (λ (k : ℕ). has_bit (slice_index_or alive ((4096 * block + (64 * w + i)) / 64) 0) k) (sym number)

-- a block, by the sieve and the marks
pub block_fitted : (dump : DumpValue) (code fixups : List CodeByte) (alive wrong : List ℕ) (block : ℕ) → block < 16 → AreSieved dump code alive
    → AreFixupsOf code fixups
    → ((k : ℕ) → k < 4096 → bit_in alive (4096 * block + k) ≡ true → are_there dump (4096 * block + k) fixups ≡ true
    → IsFitted dump fixups (4096 * block + k) 0 (slice_index_or wrong k 0))
    → AreFitted dump code fixups (4096 * block) 4096 (λ k. bit_in alive (4096 * block + k)) wrong
block_fitted dump code fixups alive wrong block lt sieved sorted fitted = record {
  sorted = sorted;
  passed = λ i li. sieved.each (4096 * block + i) (omega (arith, lt, li));
  fitted = λ i li on. fitted i li on
      (there_permuted dump (filter (λ b. not (is_plain b)) code) fixups (4096 * block + i) sorted.same
      (passes_there dump (4096 * block + i) code (sym (sieved.each (4096 * block + i) (omega (arith, lt, li))) ∙ on)));
}

-- no place before the first address
pub no_places : (dump : DumpValue) (code : List CodeByte) → ArePlaces dump code 0 []
no_places dump code = record {
  lies = λ a e. elim (true≢false (sym e)) [ ];
  all = λ a lt l. elim lt [ ];
  ascending = λ i j d less lt. elim lt [ ];
}
