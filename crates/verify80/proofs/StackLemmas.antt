-- The words of the stack by their place from the bottom, and the stack pointer over a given number of words.
use Rattle.std.specs.Prelude.{◌≡◌, ◌≢◌, ℕ, zero, suc, ◌+◌, ◌-◌, ◌*◌, ◌%◌, ◌<◌, ◌≤◌, Bool, true, false, not, List, [], ◌∷◌, Some, None, All, length, slice_index, slice_index_or, slice_set, refl}
use Rattle.std.proofs.Common.{◌∙◌, ap, sym, subst, arith, get_or-set_other, cond}
use Rattle.std.proofs.lemmas.List.{get_or-set_same, length-set}
use Rattle.std.proofs.lemmas.Bool.Decides.{nat_tests}
use Rattle.decode80.specs.Fetch.{ahead, behind}
use Rattle.image80.specs.declared.range.Range.{Range}
use Rattle.image80.specs.Range.{in_range}
use Rattle.machine80.specs.Cpu.{word}
use Rattle.machine80.specs.Effects.{word_in, pushed_bytes, popped_bytes, stored, push_bytes}
use Rattle.machine80.specs.Step.{first_outside}
use Rattle.machine80.specs.World.{IsJustBelow}

-- the stack pointer over a given number of words of a stack that ends there
abbrev pub pointer : (last words : ℕ) → ℕ
pointer last words = (last - 2 * words) % 65536

-- the word at a place, counted from the bottom
abbrev pub stack_word : List ℕ → (last place : ℕ) → ℕ
stack_word memory last place = word (slice_index memory (last - (2 * place + 1))) (slice_index memory (last - (2 * place + 2)))

-- the bytes of the word on top
pub popped_low : (last n : ℕ) → 2 * n + 2 ≤ last → last ≤ 65536 → pointer last (n + 1) ≡ last - (2 * n + 2)
popped_low last n low high = omega arith

pub popped_high : (last n : ℕ) → 2 * n + 2 ≤ last → last ≤ 65536 → ahead (pointer last (n + 1)) 1 ≡ last - (2 * n + 1)
unfolding ahead
popped_high last n low high = omega arith

pub after_pop : (last n : ℕ) → 2 * n + 2 ≤ last → last ≤ 65536 → ahead (pointer last (n + 1)) 2 ≡ pointer last n
unfolding ahead
after_pop last n low high = omega arith

-- the bytes above the word on top
pub pushed_high : (last n : ℕ) → 2 * n + 2 ≤ last → last ≤ 65536 → behind (pointer last n) 1 ≡ last - (2 * n + 1)
unfolding behind
pushed_high last n low high = omega arith

pub pushed_low : (last n : ℕ) → 2 * n + 2 ≤ last → last ≤ 65536 → behind (pointer last n) 2 ≡ last - (2 * n + 2)
unfolding behind
pushed_low last n low high = omega arith

pub after_push : (last n : ℕ) → 2 * n + 2 ≤ last → last ≤ 65536 → behind (pointer last n) 2 ≡ pointer last (n + 1)
unfolding behind
after_push last n low high = omega arith

pub word_on_top : (memory : List ℕ) (last n : ℕ) → 2 * n + 2 ≤ last → last ≤ 65536 → word_in memory (pointer last (n + 1)) ≡ stack_word memory last n
word_on_top memory last n low high =
    ap (λ a. word (slice_index memory a) (slice_index memory (pointer last (n + 1)))) (popped_high last n low high)
    ∙ ap (λ a. word (slice_index memory (last - (2 * n + 1))) (slice_index memory a)) (popped_low last n low high)

-- a property of two items
all_two : (P : ℕ → Type 0) (x y : ℕ) → P x → P y → All P (x ∷ y ∷ [])
all_two P x y one other = go where
  go : (k d : ℕ) → k < length (x ∷ y ∷ []) → P (slice_index_or (x ∷ y ∷ []) k d)
  go zero d inside = one
  go (suc zero) d inside = other
  go (suc (suc k)) d inside = absurd (omega arith)

below_high : (first size most n : ℕ) → first + size ≤ 65536 → 2 * n + 2 ≤ most → most ≤ size → IsJustBelow ((first + size) % 65536) most ((first + size) - (2 * n + 1))
below_high first size most n «end» low high = (2 * n, (omega arith, omega arith))

below_low : (first size most n : ℕ) → first + size ≤ 65536 → 2 * n + 2 ≤ most → most ≤ size → IsJustBelow ((first + size) % 65536) most ((first + size) - (2 * n + 2))
below_low first size most n «end» low high = (2 * n + 1, (omega arith, omega arith))

pub inside : (range : Range) (a : ℕ) → range.first ≤ a → a < range.first + range.length → in_range range a ≡ true
inside range a low high = grind (arith, nat_tests, low, high)

none_outside_two : (f : ℕ → Bool) (x y : ℕ) → f x ≡ true → f y ≡ true → first_outside f (x ∷ y ∷ []) ≡ None
none_outside_two f x y one other = by (f x) (f y) one other
  where
    by : (p q : Bool) → p ≡ true → q ≡ true → cond (not p) (Some x) (cond (not q) (Some y) None) ≡ None
    by true true one other = refl
    by true false one other = cc
    by false q one other = cc

-- what is pushed over n words, and what is popped of n + 1, lies in the stack and just below its top
pub record Touches (stack : Range) (most : ℕ) (bytes : List ℕ) : Type 0 where
  pub below : All (IsJustBelow ((stack.first + stack.length) % 65536) most) bytes
  pub inside : first_outside (in_range stack) bytes ≡ None

pub touches_none : (stack : Range) (most : ℕ) → Touches stack most []
touches_none stack most = record { below = λ k d inside. absurd (omega arith); inside = refl }

touches_word : (stack : Range) (most n a b : ℕ) → stack.first + stack.length ≤ 65536 → 2 * n + 2 ≤ most → most ≤ stack.length →
    a ≡ (stack.first + stack.length) - (2 * n + 1) → b ≡ (stack.first + stack.length) - (2 * n + 2) → Touches stack most (a ∷ b ∷ [])
touches_word stack most n a b «end» low high one other = record {
  below = all_two (IsJustBelow ((stack.first + stack.length) % 65536) most) a b
      (subst (IsJustBelow ((stack.first + stack.length) % 65536) most) (sym one) (below_high stack.first stack.length most n «end» low high))
      (subst (IsJustBelow ((stack.first + stack.length) % 65536) most) (sym other) (below_low stack.first stack.length most n «end» low high));
  inside = none_outside_two (in_range stack) a b (inside stack a (omega arith) (omega arith)) (inside stack b (omega arith) (omega arith));
}

touches_turned : (stack : Range) (most n a b : ℕ) → stack.first + stack.length ≤ 65536 → 2 * n + 2 ≤ most → most ≤ stack.length →
    a ≡ (stack.first + stack.length) - (2 * n + 1) → b ≡ (stack.first + stack.length) - (2 * n + 2) → Touches stack most (b ∷ a ∷ [])
touches_turned stack most n a b «end» low high one other = record {
  below = all_two (IsJustBelow ((stack.first + stack.length) % 65536) most) b a
      (subst (IsJustBelow ((stack.first + stack.length) % 65536) most) (sym other) (below_low stack.first stack.length most n «end» low high))
      (subst (IsJustBelow ((stack.first + stack.length) % 65536) most) (sym one) (below_high stack.first stack.length most n «end» low high));
  inside = none_outside_two (in_range stack) b a (inside stack b (omega arith) (omega arith)) (inside stack a (omega arith) (omega arith));
}

pub touches_pushed : (stack : Range) (most n sp : ℕ) → stack.first + stack.length ≤ 65536 → 2 * n + 2 ≤ most → most ≤ stack.length →
    sp ≡ pointer (stack.first + stack.length) n → Touches stack most (pushed_bytes sp)
touches_pushed stack most n sp «end» low high is =
    touches_word stack most n (behind sp 1) (behind sp 2) «end» low high
    (ap (λ s. behind s 1) is ∙ pushed_high (stack.first + stack.length) n (omega arith) «end»)
    (ap (λ s. behind s 2) is ∙ pushed_low (stack.first + stack.length) n (omega arith) «end»)

pub touches_popped : (stack : Range) (most n sp : ℕ) → stack.first + stack.length ≤ 65536 → 2 * n + 2 ≤ most → most ≤ stack.length →
    sp ≡ pointer (stack.first + stack.length) (n + 1) → Touches stack most (popped_bytes sp)
touches_popped stack most n sp «end» low high is =
    touches_turned stack most n (ahead sp 1) sp «end» low high
    (ap (λ s. ahead s 1) is ∙ popped_high (stack.first + stack.length) n (omega arith) «end»)
    (is ∙ popped_low (stack.first + stack.length) n (omega arith) «end»)

-- two memories have the same words below a place
pub record SameWords (last below : ℕ) (memory memory' : List ℕ) : Type 0 where
  pub same : (place : ℕ) → place < below → stack_word memory' last place ≡ stack_word memory last place

-- a memory after a word was written at a place: that word stands there, the words below it and all other bytes are as before
pub record Written (last place high low : ℕ) (memory memory' : List ℕ) : Type 0 where
  pub there : stack_word memory' last place ≡ word high low
  pub below : SameWords last place memory memory'
  pub others : (a : ℕ) → a ≢ last - (2 * place + 1) → a ≢ last - (2 * place + 2) → slice_index memory' a ≡ slice_index memory a
  pub size : length memory' ≡ length memory

others_two : (m : List ℕ) (a b c x y : ℕ) → a ≢ b → a ≢ c → slice_index (stored m ((b, x) ∷ (c, y) ∷ [])) a ≡ slice_index m a
others_two m a b c x y h k = get_or-set_other (slice_set m b x) c a y 0 k ∙ get_or-set_other m b a x 0 h

written : (memory memory' : List ℕ) (last place high low : ℕ) → 2 * place + 2 ≤ last → slice_index memory' (last - (2 * place + 1)) ≡ high → slice_index memory' (last - (2 * place + 2)) ≡ low →
    ((a : ℕ) → a ≢ last - (2 * place + 1) → a ≢ last - (2 * place + 2) → slice_index memory' a ≡ slice_index memory a) → length memory' ≡ length memory → Written last place high low memory memory'
written memory memory' last place high low room one other rest size = record {
  there = ap (λ h. word h (slice_index memory' (last - (2 * place + 2)))) one ∙ ap (word high) other;
  below = record {
    same = λ k less.
        ap (λ h. word h (slice_index memory' (last - (2 * k + 2)))) (rest (last - (2 * k + 1)) (λ e. absurd (omega (arith, e, less, room))) (λ e. absurd (omega (arith, e, less, room))))
        ∙ ap (word (slice_index memory (last - (2 * k + 1)))) (rest (last - (2 * k + 2)) (λ e. absurd (omega (arith, e, less, room))) (λ e. absurd (omega (arith, e, less, room))));
  };
  others = rest;
  size = size;
}

pub word_pushed : (memory : List ℕ) (last place sp high low : ℕ) → 2 * place + 2 ≤ last → last ≤ 65536 → length memory ≡ 65536 → sp ≡ pointer last place →
    Written last place high low memory (stored memory (push_bytes sp high low))
word_pushed memory last place sp high low room top size is =
    let one : behind sp 1 ≡ last - (2 * place + 1) = ap (λ s. behind s 1) is ∙ pushed_high last place room top in
    let other : behind sp 2 ≡ last - (2 * place + 2) = ap (λ s. behind s 2) is ∙ pushed_low last place room top in
    subst (λ a. Written last place high low memory (stored memory ((a, high) ∷ (behind sp 2, low) ∷ []))) (sym one)
    (subst (λ b. Written last place high low memory (stored memory ((last - (2 * place + 1), high) ∷ (b, low) ∷ []))) (sym other)
    (written memory (stored memory ((last - (2 * place + 1), high) ∷ (last - (2 * place + 2), low) ∷ [])) last place high low room
    (get_or-set_other (slice_set memory (last - (2 * place + 1)) high) (last - (2 * place + 2)) (last - (2 * place + 1)) low 0 (λ e. absurd (omega (arith, e, room)))
    ∙ get_or-set_same memory (last - (2 * place + 1)) high 0 (omega (arith, size, room, top)))
    (get_or-set_same (slice_set memory (last - (2 * place + 1)) high) (last - (2 * place + 2)) low 0
    (let n = length-set memory (last - (2 * place + 1)) high in omega (arith, n, size, room, top)))
    (λ a x y. others_two memory a (last - (2 * place + 1)) (last - (2 * place + 2)) high low x y)
    (length-set (slice_set memory (last - (2 * place + 1)) high) (last - (2 * place + 2)) low ∙ length-set memory (last - (2 * place + 1)) high)))

-- a word that takes the place of the one on top
pub word_swapped : (memory : List ℕ) (last place sp high low : ℕ) → 2 * place + 2 ≤ last → last ≤ 65536 → length memory ≡ 65536 → sp ≡ pointer last (place + 1) →
    Written last place high low memory (stored memory ((sp, low) ∷ (ahead sp 1, high) ∷ []))
word_swapped memory last place sp high low room top size is =
    let one : ahead sp 1 ≡ last - (2 * place + 1) = ap (λ s. ahead s 1) is ∙ popped_high last place room top in
    let other : sp ≡ last - (2 * place + 2) = is ∙ popped_low last place room top in
    subst (λ a. Written last place high low memory (stored memory ((sp, low) ∷ (a, high) ∷ []))) (sym one)
    (subst (λ b. Written last place high low memory (stored memory ((b, low) ∷ (last - (2 * place + 1), high) ∷ []))) (sym other)
    (written memory (stored memory ((last - (2 * place + 2), low) ∷ (last - (2 * place + 1), high) ∷ [])) last place high low room
    (get_or-set_same (slice_set memory (last - (2 * place + 2)) low) (last - (2 * place + 1)) high 0
    (let n = length-set memory (last - (2 * place + 2)) low in omega (arith, n, size, room, top)))
    (get_or-set_other (slice_set memory (last - (2 * place + 2)) low) (last - (2 * place + 1)) (last - (2 * place + 2)) high 0 (λ e. absurd (omega (arith, e, room)))
    ∙ get_or-set_same memory (last - (2 * place + 2)) low 0 (omega (arith, size, room, top)))
    (λ a x y. others_two memory a (last - (2 * place + 2)) (last - (2 * place + 1)) low high y x)
    (length-set (slice_set memory (last - (2 * place + 2)) low) (last - (2 * place + 1)) high ∙ length-set memory (last - (2 * place + 2)) low)))
