-- What is kept of pairs of stacks that met.
use Rattle.std.specs.Prelude.{◌≡◌, ◌<◌, ℕ, Bool, true, false, cond, List, Option, Some, length, refl}
use Rattle.std.specs.Map.{lookup}
use Rattle.std.proofs.Common.{sym, ap, ◌∙◌, subst}
use Rattle.std.proofs.lemmas.Option.{same_Some, none-some}
use Rattle.indexmap.specs.IndexMap.{IndexMap, get, Updates, IsEmpty, IsUnchanged}
use Rattle.frames80.specs.declared.word.Word.{Word}
use Rattle.frames80.specs.Calls.{words_met}
use Rattle.frames80_interned.specs.declared.pair.Pair.{Pair}
use Rattle.frames80_interned.specs.declared.link.Link.{Link}
use Rattle.frames80_interned.specs.Stacks.{words_at, stacks_of, pair_eq, IsMet, IsStack, AreMet, StacksStay}
use Rattle.frames80_interned.proofs.PairEquality.{pair_same}
use Rattle.frames80_interned.proofs.StackLemmas.{words_at-stays, within-stays}

IsMet-stays : (old new : List (List Word)) → StacksStay old new → (pair : Pair) (number : ℕ) → pair.one < length old → pair.other < length old → IsMet old pair number → IsMet new pair number
IsMet-stays old new stays pair number one other h = record {
  there = within-stays old new stays number h.there;
  is = words_at-stays old new stays number h.there ∙ h.is ∙ sym (λ i. words_met (first i) (second i));
  unchanged = λ same. h.unchanged (sym (λ i. words_met (first i) (second i)) ∙ same ∙ first);
}
  where
    first : words_at new pair.one ≡ words_at old pair.one
    first = words_at-stays old new stays pair.one one

    second : words_at new pair.other ≡ words_at old pair.other
    second = words_at-stays old new stays pair.other other

-- what is answered of two stacks is so of the stacks that there are then
pub met-answered : (old new : List (List Word)) → StacksStay old new → (pair : Pair) (number : ℕ) → pair.one < length old → pair.other < length old
    → IsStack new number (words_met (words_at old pair.one) (words_at old pair.other)) → (words_met (words_at old pair.one) (words_at old pair.other) ≡ words_at old pair.one → number ≡ pair.one) → IsMet new pair number
met-answered old new stays pair number one other met unchanged = record {
  there = met.there;
  is = met.is ∙ sym (λ i. words_met (first i) (second i));
  unchanged = λ same. unchanged (sym (λ i. words_met (first i) (second i)) ∙ same ∙ first);
}
  where
    first : words_at new pair.one ≡ words_at old pair.one
    first = words_at-stays old new stays pair.one one

    second : words_at new pair.other ≡ words_at old pair.other
    second = words_at-stays old new stays pair.other other

-- more stacks leave it as it is
pub AreMet-stays : (old new : List (List Word)) → StacksStay old new → (interned : Pair → Option ℕ) → AreMet old interned → AreMet new interned
AreMet-stays old new stays interned h = record {
  one = λ pair number e. within-stays old new stays pair.one (h.one pair number e);
  other = λ pair number e. within-stays old new stays pair.other (h.other pair number e);
  met = λ pair number e. IsMet-stays old new stays pair number (h.one pair number e) (h.other pair number e) (h.met pair number e);
}

pub AreMet-inserted : (old new : List Link) (stacks : List (List Word)) → stacks_of old ≡ stacks → StacksStay stacks (stacks_of new) → (interned : Pair → Option ℕ) → AreMet (stacks_of old) interned → AreMet (stacks_of new) interned
AreMet-inserted old new stacks view_is stays interned h = AreMet-stays stacks (stacks_of new) stays interned (subst (λ (s : List (List Word)). AreMet s interned) view_is h)

module _ (stacks : List (List Word)) {S : Type 0} where
  -- an empty map keeps none
  pub AreMet-empty : (met : IndexMap Pair ℕ S) → IsEmpty met → AreMet stacks (get pair_eq met)
  AreMet-empty met empty = record { one = λ pair number e. none pair number e; other = λ pair number e. none pair number e; met = λ pair number e. none pair number e }
    where
      none : {X : Type 0} (pair : Pair) (number : ℕ) → get pair_eq met pair ≡ Some number → X
      none pair number e = absurd (none-some number (sym (ap (λ (entries : List (Pair × ℕ)). lookup (pair_eq pair) entries) empty) ∙ e))

  -- and one more that met is kept
  pub AreMet-interned : (old new : IndexMap Pair ℕ S) (pair : Pair) (number : ℕ) → pair.one < length stacks → pair.other < length stacks → IsMet stacks pair number → Updates pair_eq old new pair (Some number)
      → AreMet stacks (get pair_eq old) → AreMet stacks (get pair_eq new)
  AreMet-interned old new pair number one other met updates h = record {
    one = λ q n e. (all q n e).0;
    other = λ q n e. (all q n e).1;
    met = λ q n e. (all q n e).2;
  }
    where
      All : Pair → ℕ → Type 0
      All q n = (q.one < length stacks) × (q.other < length stacks) × IsMet stacks q n

      all : (q : Pair) (n : ℕ) → get pair_eq new q ≡ Some n → All q n
      all q n e = by (pair_eq pair q) refl
        where
          by : (b : Bool) → pair_eq pair q ≡ b → All q n
          by true is =
              let same : pair ≡ q = pair_same pair q is in
              let found : number ≡ n = same_Some number n (sym (ap (λ (b : Bool). cond b (Some number) (get pair_eq old q)) is) ∙ sym (updates.0 q) ∙ e) in
              subst (λ (m : ℕ). All q m) found (subst (λ (p : Pair). All p number) same (one, other, met))
          by false is =
              let was : get pair_eq old q ≡ Some n = sym (ap (λ (b : Bool). cond b (Some number) (get pair_eq old q)) is) ∙ sym (updates.0 q) ∙ e in
              (h.one q n was, h.other q n was, h.met q n was)

  -- what didn't change keeps what it kept
  pub AreMet-unchanged : (old new : IndexMap Pair ℕ S) → IsUnchanged old new → AreMet stacks (get pair_eq old) → AreMet stacks (get pair_eq new)
  AreMet-unchanged old new same h = subst (λ (entries : List (Pair × ℕ)). AreMet stacks (λ pair. lookup (pair_eq pair) entries)) (sym same) h
