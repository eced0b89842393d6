-- The rows of a dump's bytes.
use Rattle.std.specs.Prelude.{◌≡◌, ◌≢◌, ℕ, ◌+◌, ◌*◌, ◌/◌, ◌%◌, ◌<◌, ◌≤◌, ◌==◌, ◌&&◌, ◌||◌, nat_lt, Bool, true, false, Option, Some, None, List, length, slice_index_or}
use Rattle.std.specs.Option.{option_map_or}
use Rattle.std.proofs.Common.{refl, sym, ◌∙◌, ap, arith, inl, inr}
use Rattle.std.proofs.lemmas.Bool.{cases_lt, eqb-true, eq-eqb, ne_eqb, lt-ltb, le-ltb}
use Rattle.std.specs.Int.{bit_at}
use Rattle.std.proofs.lemmas.Nat.Bits.{bit_at-zero}
use Rattle.rom80_find.specs.Dump.{DumpValue, dump_byte}
use Rattle.rom80_find.specs.Marks.{AreMarks, IsRow, bit_in, has_bit, has_row, is_in_row, is_mark}
use Rattle.rom80_find.proofs.SolveLemmas.{iff_bool}

or-none : (x : Bool) → (x || false) ≡ x
or-none true = refl
or-none false = refl

-- bits of other addresses
other_mark : (found : Option ℕ) (at row k : ℕ) → at < 131072 → k < 131072 → k ≢ at → is_mark found at (row * 131072 + k) ≡ false
other_mark None at row k la lk ne = refl
other_mark (Some byte) at row k la lk ne =
    ap (λ (t : Bool). (t || row * 131072 + k == 33554432 + at) && nat_lt byte 256) (ne_eqb (row * 131072 + k) (byte * 131072 + at) (λ e. omega arith))
    ∙ ap (λ (t : Bool). t && nat_lt byte 256) (ne_eqb (row * 131072 + k) (33554432 + at) (λ e. omega arith))

-- and those of this one
same_row : (row byte at : ℕ) → (row * 131072 + at == byte * 131072 + at) ≡ (row == byte)
same_row row byte at = iff_bool _ _
    (λ e. let is = eqb-true (row * 131072 + at) (byte * 131072 + at) e in eq-eqb row byte (omega (arith, is)))
    (λ e. let is = eqb-true row byte e in eq-eqb (row * 131072 + at) (byte * 131072 + at) (omega (arith, is)))

last_row : (row at : ℕ) → (row * 131072 + at == 33554432 + at) ≡ (row == 256)
last_row row at = iff_bool _ _
    (λ e. let is = eqb-true (row * 131072 + at) (33554432 + at) e in eq-eqb row 256 (omega (arith, is)))
    (λ e. let is = eqb-true row 256 e in eq-eqb (row * 131072 + at) (33554432 + at) (omega (arith, is)))

this_mark : (found : Option ℕ) (at row : ℕ) → is_mark found at (row * 131072 + at) ≡ option_map_or (is_in_row row) found false
this_mark None at row = refl
this_mark (Some byte) at row =
    ap (λ (t : Bool). (t || row * 131072 + at == 33554432 + at) && nat_lt byte 256) (same_row row byte at)
    ∙ ap (λ (t : Bool). (row == byte || t) && nat_lt byte 256) (last_row row at)

pub marked_more : (dump : DumpValue) (at : ℕ) (marks new : List ℕ) (found : Option ℕ) → at < 131072 → found ≡ dump_byte dump (at % 65536)
    → AreMarks dump at marks → length new ≡ length marks → ((k : ℕ) → bit_in new k ≡ (bit_in marks k || is_mark found at k))
    → AreMarks dump (at + 1) new
marked_more dump at marks new found lt is h same step = record {
  whole = same ∙ h.whole;
  each = λ row k lr lk. step (row * 131072 + k) ∙ (ap (λ (t : Bool). t || is_mark found at (row * 131072 + k)) (h.each row k lr lk) ∙ (elim (cases_lt k at) [
    | inl less ↦
        ap (λ (t : Bool). (nat_lt k at && has_row dump row (k % 65536)) || t) (other_mark found at row k lt lk (omega arith))
        ∙ (or-none (nat_lt k at && has_row dump row (k % 65536)) ∙ ap (λ (t : Bool). t && has_row dump row (k % 65536)) (lt-ltb k at less ∙ sym (lt-ltb k (at + 1) (omega arith))))
    | inr le ↦ elim (cases_lt at k) [
      | inl more ↦
          ap (λ (t : Bool). (nat_lt k at && has_row dump row (k % 65536)) || t) (other_mark found at row k lt lk (omega arith))
          ∙ (or-none (nat_lt k at && has_row dump row (k % 65536)) ∙ ap (λ (t : Bool). t && has_row dump row (k % 65536)) (le-ltb k at le ∙ sym (le-ltb k (at + 1) (omega arith))))
      | inr back ↦ here row k (omega arith) le
    ]
  ]));
}
  where
    here : (row k : ℕ) → k ≡ at → at ≤ k
        → ((nat_lt k at && has_row dump row (k % 65536)) || is_mark found at (row * 131072 + k)) ≡ (nat_lt k (at + 1) && has_row dump row (k % 65536))
    here row k e le =
        ap (λ (t : Bool). (t && has_row dump row (k % 65536)) || is_mark found at (row * 131072 + k)) (le-ltb k at le)
        ∙ (ap (λ (n : ℕ). is_mark found at (row * 131072 + n)) e
        ∙ (this_mark found at row
        ∙ (ap (λ (o : Option ℕ). option_map_or (is_in_row row) o false) is
        ∙ (ap (λ (n : ℕ). has_row dump row (n % 65536)) (sym e)
        ∙ sym (ap (λ (t : Bool). t && has_row dump row (k % 65536)) (lt-ltb k (at + 1) (omega arith)))))))

pub no_marks : (dump : DumpValue) (marks : List ℕ) → length marks ≡ 526336 → ((k : ℕ) → slice_index_or marks k 0 ≡ 0) → AreMarks dump 0 marks
no_marks dump marks whole none = record {
  whole = whole;
  each = λ row at lr la. ap (λ (x : ℕ). has_bit x ((row * 131072 + at) % 64)) (none ((row * 131072 + at) / 64))
      ∙ (zero_bit ((row * 131072 + at) % 64) ∙ sym (ap (λ (t : Bool). t && has_row dump row (at % 65536)) (le-ltb at 0 (omega arith))));
}
  where
    zero_bit : (i : ℕ) → has_bit 0 i ≡ false
    zero_bit i = ne_eqb _ 1 (λ e. absurd i e)
      where
        absurd : (i : ℕ) → bit_at 0 i ≡ 1 → ⊥
        absurd i e = omega (arith, bit_at-zero i, e)

-- a row of them
pub row_of_marks : (dump : DumpValue) (marks part : List ℕ) (row : ℕ) → row < 257 → AreMarks dump 131072 marks → length part ≡ 2048
    → ((k : ℕ) → k < 2048 → slice_index_or part k 0 ≡ slice_index_or marks (row * 2048 + k) 0) → IsRow dump row part
row_of_marks dump marks part row lr h whole same = record {
  whole = whole;
  each = λ at la.
      let word : (row * 131072 + at) / 64 ≡ row * 2048 + at / 64 = omega arith in
      let bit : (row * 131072 + at) % 64 ≡ at % 64 = omega arith in
      ap (λ (x : ℕ). has_bit x (at % 64)) (same (at / 64) (omega arith) ∙ ap (λ (n : ℕ). slice_index_or marks n 0) (sym word))
      ∙ (ap (λ (i : ℕ). has_bit (slice_index_or marks ((row * 131072 + at) / 64) 0) i) (sym bit)
      ∙ (h.each row at lr la ∙ ap (λ (t : Bool). t && has_row dump row (at % 65536)) (lt-ltb at 131072 la)));
}
