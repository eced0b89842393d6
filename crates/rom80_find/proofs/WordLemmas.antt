-- The values that have one candidate are those that can have one word only.
use Rattle.std.specs.Prelude.{◌≡◌, ℕ, zero, suc, ◌+◌, ◌-◌, ◌%◌, ◌<◌, ◌≤◌, ◌==◌, ◌&&◌, if◌then◌else◌, nat_le, nat_lt, Bool, true, false, List, length, slice_index_or}
use Rattle.std.proofs.Common.{refl, sym, ◌∙◌, ap, arith}
use Rattle.std.proofs.lemmas.Bool.{and_parts, and_from, eqb-true, eq-eqb, ne_eqb, leb-true, le-leb, true≢false, lt-ltb, ltb-true}
use Rattle.rom80_find.specs.Dump.{DumpValue}
use Rattle.rom80_pattern.specs.declared.code_byte.CodeByte.{CodeByte}
use Rattle.rom80_find.specs.declared.candidates.Candidates.{Candidates}
use Rattle.rom80_find.specs.declared.candidates.Candidates.TheVariants.{Any, Low, Window}
use Rattle.rom80_find.specs.declared.words.Word.{Word}
use Rattle.rom80_find.specs.Candidates.{is_candidate}
use Rattle.rom80_find.specs.Places.{LiesWith, LiesAt, IsOnly, AreBelow, Describes, allows}
use Rattle.rom80_find.specs.Words.{has_word, AreOnlyWords, is_single, AreSingle}
use Rattle.rom80_find.proofs.CodeLieLemmas.{lies_allowed, allowed_lies}

-- a single candidate is the only word that can be one
single_only : (c : Candidates) (word x : ℕ) → x < 65536 → is_single c word ≡ true → is_candidate c x ≡ true → x ≡ word
single_only Any word x lt s h = elim (true≢false (sym s)) [ ]
single_only (Low low) word x lt s h = elim (true≢false (sym s)) [ ]
single_only (Window first more) word x lt s h =
    let parts = and_parts (more == 0) (first % 65536 == word) s in
    let none : more ≡ 0 = eqb-true _ _ parts.0 in
    let is : first % 65536 ≡ word = eqb-true _ _ parts.1 in
    let k : (x + 65536 - first % 65536) % 65536 ≤ more = leb-true _ _ h in
    omega arith

single-below : (c : Candidates) (word : ℕ) → is_single c word ≡ true → word < 65536
single-below Any word s = elim (true≢false (sym s)) [ ]
single-below (Low low) word s = elim (true≢false (sym s)) [ ]
single-below (Window first more) word s =
    let is : first % 65536 ≡ word = eqb-true _ _ (and_parts (more == 0) (first % 65536 == word) s).1 in
    omega arith

-- and if all candidates are one word, it is single
only_single : (c : Candidates) (word : ℕ) → ((x : ℕ) → x < 65536 → is_candidate c x ≡ true → x ≡ word) → is_single c word ≡ true
only_single Any word h =
    let one : 0 ≡ word = h 0 (omega arith) refl in
    let other : 1 ≡ word = h 1 (omega arith) refl in
    elim (clash one other) [ ]
  where
    clash : 0 ≡ word → 1 ≡ word → ⊥
    clash a b = omega arith
only_single (Low low) word h =
    let one : low % 256 ≡ word = h (low % 256) (omega arith) (eq-eqb _ _ (omega arith)) in
    let other : low % 256 + 256 ≡ word = h (low % 256 + 256) (omega arith) (eq-eqb _ _ (omega arith)) in
    elim (clash one other) [ ]
  where
    clash : low % 256 ≡ word → low % 256 + 256 ≡ word → ⊥
    clash a b = omega arith
only_single (Window first zero) word h =
    let one : first % 65536 ≡ word = h (first % 65536) (omega arith) (le-leb ((first % 65536 + 65536 - first % 65536) % 65536) 0 (omega arith)) in
    and_from (0 == 0) (first % 65536 == word) refl (eq-eqb _ _ one)
only_single (Window first (suc more)) word h =
    let one : first % 65536 ≡ word = h (first % 65536) (omega arith) (le-leb ((first % 65536 + 65536 - first % 65536) % 65536) (suc more) (omega arith)) in
    let other : (first + 1) % 65536 ≡ word = h ((first + 1) % 65536) (omega arith) (le-leb (((first + 1) % 65536 + 65536 - first % 65536) % 65536) (suc more) (omega arith)) in
    elim (clash one other) [ ]
  where
    clash : first % 65536 ≡ word → (first + 1) % 65536 ≡ word → ⊥
    clash a b = omega arith

-- another word that a value may have
module _ (dump : DumpValue) (code : List CodeByte) (address count : ℕ) (lt : address < 65536) (below : AreBelow count code)
    (value : ℕ → ℕ) (h : LiesWith dump code address value) (number word : ℕ) (two : 2 ≤ number) (w : word < 65536) where
  abbrev changed : ℕ → ℕ
  changed n = if n == number then word else value n

  changed_lies : allows dump code address number word ≡ true → LiesWith dump code address changed
  changed_lies may = allowed_lies dump code address count changed below
      (at_other 0 (omega arith) ∙ h.absolute) (at_other 1 (omega arith) ∙ h.here)
      (λ n below. one n (n == number) refl)
    where
      at_other : (n : ℕ) → n < number → changed n ≡ value n
      at_other n l = ap (λ (t : Bool). if t then word else value n) (ne_eqb n number (λ e. omega arith))

      one : (n : ℕ) (t : Bool) → (n == number) ≡ t → allows dump code address n (changed n % 65536) ≡ true
      one n true e =
          let is : n ≡ number = eqb-true _ _ e in
          let same : changed n % 65536 ≡ word = ap (λ (t : Bool). (if t then word else value n) % 65536) e ∙ omega arith in
          ap (λ (x : ℕ). allows dump code address n x) same ∙ (ap (λ (x : ℕ). allows dump code address x word) is ∙ may)
      one n false e =
          ap (λ (t : Bool). allows dump code address n ((if t then word else value n) % 65536)) e ∙ lies_allowed dump code address value lt h n

  changed-at : changed number ≡ word
  changed-at = ap (λ (t : Bool). if t then word else value number) (eq-eqb number number refl)

  pub other_word : allows dump code address number word ≡ true → (only : ℕ) → IsOnly dump code address number only → word ≡ only
  other_word may only is =
      let k : changed number % 65536 ≡ only = is changed (changed_lies may) in
      let l : changed number ≡ word = changed-at in
      omega arith

-- the single ones of a table are the only words
pub only_words : (dump : DumpValue) (code : List CodeByte) (address count : ℕ) (table : List Candidates) (words : List Word) → address < 65536
    → AreBelow count code → length table ≡ count → Describes dump code address table → LiesAt dump code address
    → AreSingle table count words → AreOnlyWords dump code address count words
only_words dump code address count table words lt below whole h lies single = record {
  lies = lies;
  within = λ number word e. let parts = and_parts (nat_le 2 number) (nat_lt number count && is_single (slice_index_or table number Any) word) (sym (single.each number word) ∙ e) in
      (leb-true 2 number parts.0, ltb-true number count (and_parts (nat_lt number count) (is_single (slice_index_or table number Any) word) parts.1).0);
  each = λ number word two less. (
    (λ e. let s = is-single number word e in (
      single-below (slice_index_or table number Any) word s,
      λ value with. single_only (slice_index_or table number Any) word (value number % 65536) (omega arith) s
          (h.each number (value number % 65536) (omega arith) (omega arith) ∙ lies_allowed dump code address value lt with number),
    )),
    (λ p. single.each number word ∙ and_from _ _ (le-leb 2 number two) (and_from _ _ (lt-ltb number count less)
        (only_single (slice_index_or table number Any) word (λ x lx cand.
        other_word dump code address count lt below lies.value lies.lies number x two lx
        (sym (h.each number x (omega arith) lx) ∙ cand) word p.1)))),
  );
}
  where
    is-single : (number word : ℕ) → has_word words number word ≡ true → is_single (slice_index_or table number Any) word ≡ true
    is-single number word e =
        (and_parts (nat_lt number count) (is_single (slice_index_or table number Any) word)
        (and_parts (nat_le 2 number) (nat_lt number count && is_single (slice_index_or table number Any) word) (sym (single.each number word) ∙ e)).1).1
