-- Tables that are filled one entry after another.
use Rattle.std.specs.Prelude.{◌≡◌, ℕ, zero, suc, ◌+◌, ◌%◌, ◌<◌, ◌≤◌, Some, List, [], ◌∷◌, ◌++◌, ◌-◌, length, drop, slice_index_or, slice_range}
use Rattle.std.proofs.Common.{refl, sym, ◌∙◌, ap, subst, arith, set, get_or-set_same, get_or-set_other, inl, inr}
use Rattle.std.proofs.lemmas.Bool.{cases_lt}
use Rattle.std.proofs.lemmas.List.{get_or-drop, get_or-take, length_push}
use Rattle.rom80_find.specs.Blocks.{AreBytes, AreFound}
use Rattle.rom80_find.specs.Dump.{DumpValue, dump_byte}

-- one more entry with what it is to have
pub done_more : (P : ℕ → ℕ → Type 0) (xs : List ℕ) (at v : ℕ) → at < length xs → P at v
    → ((k : ℕ) → k < at → P k (slice_index_or xs k 0)) → (k : ℕ) → k < at + 1 → P k (slice_index_or (set xs at v) k 0)
done_more P xs at v lt here done k lk = elim (cases_lt k at) [
  | inl less ↦ subst (λ (n : ℕ). P k n) (sym (get_or-set_other xs at k v 0 (λ e. omega (arith, e, less)))) (done k less)
  | inr from ↦
      let same : at ≡ k = omega (arith, lk, from) in
      subst (λ (n : ℕ). P k n) (sym (ap (λ (j : ℕ). slice_index_or (set xs at v) j 0) (sym same) ∙ get_or-set_same xs at v 0 lt))
      (subst (λ (j : ℕ). P j v) same here)
]

-- the others are as they were
pub rest_more : (first xs : List ℕ) (at v : ℕ) → ((k : ℕ) → at ≤ k → slice_index_or xs k 0 ≡ slice_index_or first k 0)
    → (k : ℕ) → at + 1 ≤ k → slice_index_or (set xs at v) k 0 ≡ slice_index_or first k 0
rest_more first xs at v rest k le = get_or-set_other xs at k v 0 (λ e. omega (arith, e, le)) ∙ rest k (omega (arith, le))

-- ---- a list that grows

front : (xs : List ℕ) (y k : ℕ) → k < length xs → slice_index_or (xs ++ y ∷ []) k 0 ≡ slice_index_or xs k 0
front [] y k lt = elim lt [ ]
front (x ∷ xs) y zero lt = refl
front (x ∷ xs) y (suc k) lt = front xs y k (omega (arith, lt))

end : (xs : List ℕ) (y : ℕ) → slice_index_or (xs ++ y ∷ []) (length xs) 0 ≡ y
end [] y = refl
end (x ∷ xs) y = end xs y

-- one more byte of a dump
pub bytes_more : (dump : DumpValue) (at : ℕ) (bytes new : List ℕ) (byte : ℕ) → ((b : ℕ) → dump_byte dump (at % 65536) ≡ Some b → byte ≡ b)
    → new ≡ bytes ++ byte ∷ [] → AreBytes dump at bytes → AreBytes dump (at + 1) new
bytes_more dump at bytes new byte here is h = subst (λ (l : List ℕ). AreBytes dump (at + 1) l) (sym is) (record {
  whole = length_push bytes byte ∙ ap (λ (n : ℕ). n + 1) h.whole;
  each = λ k b lt e. elim (cases_lt k at) [
    | inl less ↦ front bytes byte k (omega (arith, less, h.whole)) ∙ h.each k b less e
    | inr from ↦
        let same : k ≡ length bytes = omega (arith, lt, from, h.whole) in
        let now : k ≡ at = omega (arith, lt, from) in
        ap (λ (j : ℕ). slice_index_or (bytes ++ byte ∷ []) j 0) same ∙ (end bytes byte
        ∙ here b (ap (λ (j : ℕ). dump_byte dump (j % 65536)) (sym now) ∙ e))
  ];
})

-- the bytes from one on
pub part_at : {A : Type 0} (bytes : List A) (first n k : ℕ) (d : A) → k < n → slice_index_or (slice_range bytes first (first + n)) k d ≡ slice_index_or bytes (first + k) d
part_at bytes first n k d lt = get_or-take (first + n - first) (drop first bytes) k d (omega (arith, lt)) ∙ get_or-drop first bytes k d

pub found_from : (dump : DumpValue) (bytes found : List ℕ) (first : ℕ) → first + 4096 ≤ 131072 → length (slice_range bytes first (first + 4096)) ≡ 4096
    → found ≡ slice_range bytes first (first + 4096) → AreBytes dump 131072 bytes → AreFound dump first found
found_from dump bytes found first le long is h = record {
  whole = ap (λ (l : List ℕ). length l) is ∙ long;
  each = λ k b lt e.
      ap (λ (l : List ℕ). slice_index_or l k 0) is ∙ (part_at bytes first 4096 k 0 lt ∙ h.each (first + k) b (omega (arith, le, lt)) e);
}
