-- Variables stay inside their spans.
use Rattle.verify80_states.proofs.Names.{◌≡◌, ◌⊎◌, ◌≢◌, ◌<◌, ◌&&◌, ℕ, Bool, true, List, [], ◌∷◌, Option, None, Some, length, slice_get, slice_index, slice_set}
use Rattle.verify80_states.proofs.Names.{list_all, subst, sym, ap, ◌∙◌, arith, inl, inr, nat_tests, shr_le, get_or-set_same, length-set, Areas, in_data, byte_in}
use Rattle.verify80_states.proofs.Names.{stored, Within, ByteWithin, Variable, HoldsSet, takes, StoredByte, and_parts, AllPass-from_list_all, cases_eq}
use Rattle.verify80_states.proofs.{ByteLemmas.one_of, MemoryLemmas.Ground, MemoryLemmas.one_stored, StoredLemmas.AreStored, StoredLemmas.stack_stored}

-- no variable is named by an empty set
pub none_named : (variables : List Variable) (memory : List ℕ) → HoldsSet variables 0 memory
none_named variables memory v named = absurd (let none = shr_le 0 named.number in let is = named.named in grind (arith, nat_tests))

-- a byte is stored
taken_within : (v : Variable) (s : StoredByte) (x : ℕ) → takes v (Some s) ≡ true → Within s.at v.at → ByteWithin s.bytes x → ByteWithin v.bytes x
taken_within v s x takes there inside = record {
  above = let low = there.above in let high = there.below in let from = inside.above in grind (arith, nat_tests);
  below = let low = there.above in let high = there.below in let to = inside.below in grind (arith, nat_tests);
}

module _ (v : Variable) where
  stored_within : (s : StoredByte) (m : List ℕ) (b x : ℕ) → length m ≡ 65536 → b < 65536 → takes v (Some s) ≡ true → Within s.at b → ByteWithin s.bytes x → ByteWithin v.bytes (byte_in m v.at) →
      ByteWithin v.bytes (byte_in (stored m ((b, x) ∷ [])) v.at)
  stored_within s m b x whole small steady there inside before = by (cases_eq v.at b) where
    by : (v.at ≡ b) ⊎ (v.at ≢ b) → ByteWithin v.bytes (byte_in (stored m ((b, x) ∷ [])) v.at)
    by (inl same) =
        subst (λ n. ByteWithin v.bytes n) (sym (ap (λ n. slice_index (stored m ((b, x) ∷ [])) n) same ∙ get_or-set_same m b x 0 (omega (arith, small, whole))))
        (taken_within v s x steady (subst (λ n. Within s.at n) (sym same) there) inside)
    by (inr apart) = subst (λ n. ByteWithin v.bytes n) (sym (one_stored m v.at b x apart)) before

  pub variable_kept : (regions : Areas) (ground : Ground regions) (b c : Option StoredByte) (bytes : List (ℕ × ℕ)) (m : List ℕ) → AreStored regions b c bytes → length m ≡ 65536 → in_data regions v.at ≡ true → (takes v b && takes v c) ≡ true →
      ByteWithin v.bytes (byte_in m v.at) → ByteWithin v.bytes (byte_in (stored m bytes) v.at)
  variable_kept regions ground None None bytes m are whole here steady before = subst (λ n. ByteWithin v.bytes n) (sym (stack_stored regions bytes m v.at are (ground.data_or_stack v.at here))) before
  variable_kept regions ground (Some b) None (x ∷ []) m are whole here steady before = stored_within b m x.0 x.1 whole are.small (and_parts (takes v (Some b)) true steady).0 are.there are.is before
  variable_kept regions ground (Some b) (Some c) (x ∷ y ∷ []) m are whole here steady before =
      let each = and_parts (takes v (Some b)) (takes v (Some c)) steady in
      stored_within c (slice_set m x.0 x.1) y.0 y.1 (length-set m x.0 x.1 ∙ whole) are.1.small each.1 are.1.there are.1.is (stored_within b m x.0 x.1 whole are.0.small each.0 are.0.there are.0.is before)
  variable_kept regions ground b c bytes m are whole here steady before = absurd are

-- what is tested of each of a list is so of one
pub tested_of : {A : Type 0} (p : A → Bool) (xs : List A) (k : ℕ) (x : A) → list_all p xs ≡ true → slice_get xs k ≡ Some x → p x ≡ true
tested_of p xs k x each there = one_of (λ y. p y ≡ true) xs k x (AllPass-from_list_all p xs each) there
