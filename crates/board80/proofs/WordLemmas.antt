-- Words between spaces, and counts.
use Rattle.std.proofs.Common.{◌≡◌, ℕ, zero, suc, ◌+◌, ◌<◌, ◌^◌, true, false, cond, List, [], ◌∷◌, ◌++◌, length, get_or, take, drop, refl, ap, sym, subst, ◌∙◌, arith}
use Rattle.std.specs.Prelude.{◌==◌, All, not}
use Rattle.std.specs.Fmt.{decimal}
use Rattle.std.specs.List.{position_or_len}
use Rattle.std.specs.Str.Parse.{AllDigits, digits_value}
use Rattle.std.proofs.lemmas.Bool.{eqb-true, eq-eqb, false_from_ne_true}
use Rattle.std.proofs.lemmas.Fmt.{decimal_is_IsNumeral}
use Rattle.std.proofs.lemmas.List.Elements.{All-nil, All-cons, All-head, All-tail}
use Rattle.std.proofs.lemmas.Str.Parse.{digit_from_value}
use Rattle.board80.specs.BoardText.{times_text}
use Rattle.board80.specs.Reading.{IsAtEnd, IsWord}

-- bytes of which none is this one
abbrev pub Lacks : ℕ → List ℕ → Type 0
Lacks bad bytes = All (λ byte. (byte == bad) ≡ false) bytes

digits_lack : (bad : ℕ) (digits : List ℕ) → bad < 48 → AllDigits 10 digits → Lacks bad digits
digits_lack bad [] low digits = All-nil (λ byte. (byte == bad) ≡ false)
digits_lack bad (d ∷ ds) low digits =
    let digit = digit_from_value d digits.0 in
    All-cons (λ byte. (byte == bad) ≡ false) d ds
    (false_from_ne_true (d == bad) (λ yes. let same : d ≡ bad = eqb-true d bad yes in omega (arith, digit.0)))
    (digits_lack bad ds low digits.1)

pub times_lack : (bad times : ℕ) → bad < 42 → times < 2 ^ 64 → Lacks bad (times_text times)
times_lack bad times low fits =
    elim (times == 1) as (λ b. Lacks bad (cond b [] (42 ∷ decimal times))) [
      | true ↦ All-nil (λ byte. (byte == bad) ≡ false)
      | false ↦ All-cons (λ byte. (byte == bad) ≡ false) 42 (decimal times)
          (false_from_ne_true (42 == bad) (λ yes. let same : 42 ≡ bad = eqb-true 42 bad yes in omega arith))
          (digits_lack bad (decimal times) (omega arith) (decimal_is_IsNumeral times fits).0.1)
    ]

-- the number that a text of times says
abbrev number_of : List ℕ → ℕ
number_of [] = 1
number_of (star ∷ digits) = digits_value 10 digits

number_is : (times : ℕ) → times < 2 ^ 64 → number_of (times_text times) ≡ times
number_is times fits =
    (elim (times == 1) as (λ b. (times == 1) ≡ b → number_of (cond b [] (42 ∷ decimal times)) ≡ times)
    [ true ↦ λ one. sym (eqb-true times 1 one) | false ↦ λ more. (decimal_is_IsNumeral times fits).1 ]) refl

pub times_same : (t u : ℕ) → t < 2 ^ 64 → u < 2 ^ 64 → times_text t ≡ times_text u → t ≡ u
times_same t u t_fits u_fits same = sym (number_is t t_fits) ∙ ap number_of same ∙ number_is u u_fits

-- no word begins with what is at the end of one
at_end_no_word : (w : ℕ) (ws xs ys : List ℕ) → IsWord (w ∷ ws) → IsAtEnd xs → xs ≡ w ∷ ys → ⊥
at_end_no_word w ws [] ys word at_end same = cc
at_end_no_word w ws (x ∷ xs) ys word at_end same =
    let is : w ≡ 32 = (let head : x ≡ w = cc in sym head ∙ at_end) in
    let no : (w == 32) ≡ false = All-head (λ byte. (byte == 32) ≡ false) w ws word in
    let yes : (w == 32) ≡ true = eq-eqb w 32 is in
    let both : true ≡ false = sym yes ∙ no in cc

-- a text is one word and what comes at its end
pub word_first : (v w xs ys : List ℕ) → IsWord v → IsWord w → IsAtEnd xs → IsAtEnd ys → v ++ xs ≡ w ++ ys → (v ≡ w) × (xs ≡ ys)
word_first [] [] xs ys v_word w_word xs_end ys_end same = (refl, same)
word_first [] (w ∷ ws) xs ys v_word w_word xs_end ys_end same = absurd (at_end_no_word w ws xs (ws ++ ys) w_word xs_end same)
word_first (v ∷ vs) [] xs ys v_word w_word xs_end ys_end same = absurd (at_end_no_word v vs ys (vs ++ xs) v_word ys_end (sym same))
word_first (v ∷ vs) (w ∷ ws) xs ys v_word w_word xs_end ys_end same =
    let rest = word_first vs ws xs ys (All-tail (λ byte. (byte == 32) ≡ false) v vs v_word) (All-tail (λ byte. (byte == 32) ≡ false) w ws w_word) xs_end ys_end (ap (λ t. drop 1 t) same) in
    let head : v ≡ w = ap (λ t. get_or t 0 0) same in
    (ap (λ x. x ∷ vs) head ∙ ap (λ t. w ∷ t) rest.0, rest.1)

-- the times at the beginning of a text
pub times_first : (t u : ℕ) (xs ys : List ℕ) → t < 2 ^ 64 → u < 2 ^ 64 → IsAtEnd xs → IsAtEnd ys → times_text t ++ xs ≡ times_text u ++ ys → (t ≡ u) × (xs ≡ ys)
times_first t u xs ys t_fits u_fits xs_end ys_end same =
    let cut = word_first (times_text t) (times_text u) xs ys (times_lack 32 t (omega arith) t_fits) (times_lack 32 u (omega arith) u_fits) xs_end ys_end same in
    (times_same t u t_fits u_fits cut.0, cut.1)

one_more : (n : ℕ) → 1 + n ≡ suc n
one_more n = omega arith

-- a cut at the first space
before_is_word : (text : List ℕ) → IsWord (take (position_or_len (λ byte. byte == 32) text) text)
before_is_word [] = All-nil (λ byte. (byte == 32) ≡ false)
before_is_word (b ∷ bs) =
    (elim (b == 32) as (λ t. (b == 32) ≡ t → IsWord (take (cond (not t) (1 + position_or_len (λ byte. byte == 32) bs) 0) (b ∷ bs))) [
      | true ↦ λ _. All-nil (λ byte. (byte == 32) ≡ false)
      | false ↦ λ no. subst (λ k. IsWord (take k (b ∷ bs))) (sym (one_more (position_or_len (λ byte. byte == 32) bs)))
          (All-cons (λ byte. (byte == 32) ≡ false) b (take (position_or_len (λ byte. byte == 32) bs) bs) no (before_is_word bs))
    ]) refl

after_at_end : (text : List ℕ) → IsAtEnd (drop (position_or_len (λ byte. byte == 32) text) text)
after_at_end [] = tt
after_at_end (b ∷ bs) =
    (elim (b == 32) as (λ t. (b == 32) ≡ t → IsAtEnd (drop (cond (not t) (1 + position_or_len (λ byte. byte == 32) bs) 0) (b ∷ bs))) [
      | true ↦ λ yes. eqb-true b 32 yes
      | false ↦ λ no. subst (λ k. IsAtEnd (drop k (b ∷ bs))) (sym (one_more (position_or_len (λ byte. byte == 32) bs))) (after_at_end bs)
    ]) refl

-- the place of the first space
pub space_at : (text : List ℕ) (i : ℕ) → i < length text → get_or text i 0 ≡ 32 → ((k : ℕ) → k < i → (get_or text k 0 == 32) ≡ false) → i ≡ position_or_len (λ byte. byte == 32) text
space_at [] i inside is before = absurd (omega arith)
space_at (b ∷ bs) zero inside is before = sym (ap (λ t. cond (not t) (1 + position_or_len (λ byte. byte == 32) bs) 0) (eq-eqb b 32 is))
space_at (b ∷ bs) (suc i) inside is before =
    let rest : i ≡ position_or_len (λ byte. byte == 32) bs = space_at bs i (omega arith) is (λ k below. before (suc k) (omega arith)) in
    let first : cond (not (b == 32)) (1 + position_or_len (λ byte. byte == 32) bs) 0 ≡ 1 + position_or_len (λ byte. byte == 32) bs = ap (λ t. cond (not t) (1 + position_or_len (λ byte. byte == 32) bs) 0) (before 0 (omega arith)) in
    let more : suc i ≡ 1 + position_or_len (λ byte. byte == 32) bs = omega arith in
    more ∙ sym first

pub no_space : (text : List ℕ) → ((k : ℕ) → k < length text → (get_or text k 0 == 32) ≡ false) → length text ≡ position_or_len (λ byte. byte == 32) text
no_space [] before = refl
no_space (b ∷ bs) before =
    let rest : length bs ≡ position_or_len (λ byte. byte == 32) bs = no_space bs (λ k below. before (suc k) (omega arith)) in
    let first : cond (not (b == 32)) (1 + position_or_len (λ byte. byte == 32) bs) 0 ≡ 1 + position_or_len (λ byte. byte == 32) bs = ap (λ t. cond (not t) (1 + position_or_len (λ byte. byte == 32) bs) 0) (before 0 (omega arith)) in
    let more : length (b ∷ bs) ≡ 1 + position_or_len (λ byte. byte == 32) bs = omega arith in
    more ∙ sym first

pub word_is : (text word : List ℕ) → word ≡ take (position_or_len (λ byte. byte == 32) text) text → IsWord word
word_is text word is = subst IsWord (sym is) (before_is_word text)

pub rest_is : (text rest : List ℕ) → rest ≡ drop (position_or_len (λ byte. byte == 32) text) text → IsAtEnd rest
rest_is text rest is = subst IsAtEnd (sym is) (after_at_end text)

-- a star is no count, and not what comes at the end
pub star_no_times : (times : ℕ) (more : List ℕ) → times < 2 ^ 64 → IsAtEnd more → times_text times ++ more ≡ 42 ∷ [] → ⊥
star_no_times times more fits at_end same =
    (elim (times == 1) as (λ b. cond b [] (42 ∷ decimal times) ++ more ≡ 42 ∷ [] → ⊥) [
      | true ↦ λ is. at_end_no_word 42 [] more [] (All-cons (λ byte. (byte == 32) ≡ false) 42 [] refl (All-nil (λ byte. (byte == 32) ≡ false))) at_end is
      | false ↦ λ is. no_digits (decimal times) more (decimal_is_IsNumeral times fits).0.0 (ap (λ t. drop 1 t) is)
    ]) same
  where
    no_digits : (digits more : List ℕ) → 0 < length digits → digits ++ more ≡ [] → ⊥
    no_digits [] more some is = absurd (omega arith)
    no_digits (d ∷ ds) more some is = cc
