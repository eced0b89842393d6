-- Cases with the same pairs of an address and a target are the same.
use Rattle.std.proofs.Common.{◌≡◌, ℕ, zero, suc, ◌<◌, ◌==◌, ◌||◌, ◌&&◌, Bool, true, false, List, [], ◌∷◌, length, get_or, refl, ap, sym, ◌∙◌, arith}
use Rattle.std.specs.Prelude.{All, AllPairs}
use Rattle.std.proofs.lemmas.Bool.{eq-eqb}
use Rattle.std.proofs.lemmas.Bool.Decides.{nat_tests}
use Rattle.std.proofs.lemmas.List.Elements.{All-head, All-tail}
use Rattle.image80.specs.Case.{DeclaredCase, IsCase, AreByAddress, is_target, has_target}
use Rattle.image80.proofs.CaseLemmas.{by_address-tail, differ}

same_number : (a b : ℕ) → (a < b → ⊥) → (b < a → ⊥) → a ≡ b
same_number a b not_less not_more = omega arith

-- numbers that ascend
abbrev Ascends : List ℕ → Type 0
Ascends xs = AllPairs (λ a b. a < b) xs

ascends-tail : (x : ℕ) (xs : List ℕ) → Ascends (x ∷ xs) → Ascends xs
ascends-tail x xs up i j d order inside = up (suc i) (suc j) d (omega arith) (omega arith)

-- a number below all others is none of them
no_target : (t : ℕ) (xs : List ℕ) → ((k d : ℕ) → k < length xs → t < get_or xs k d) → is_target xs t ≡ false
no_target t [] above = refl
no_target t (x ∷ xs) above =
    let here : t < x = above 0 x (omega arith) in
    ap (λ b. b || is_target xs t) (differ x t (λ same. omega arith)) ∙ no_target t xs (λ k d inside. above (suc k) d (omega arith))

first_is_target : (x : ℕ) (xs : List ℕ) → is_target (x ∷ xs) x ≡ true
first_is_target x xs = ap (λ b. b || is_target xs x) (eq-eqb x x refl)

-- a number below the first of ascending ones is none of them
below_first : (x t : ℕ) (xs : List ℕ) → Ascends (x ∷ xs) → t < x → is_target (x ∷ xs) t ≡ false
below_first x t xs up below = no_target t (x ∷ xs) higher
  where
    higher : (k d : ℕ) → k < length (x ∷ xs) → t < get_or (x ∷ xs) k d
    higher zero d inside = below
    higher (suc k) d inside = let later : x < get_or xs k d = up 0 (suc k) d (omega arith) inside in omega arith

-- ascending numbers of one set are the same
pub same_targets : (xs ys : List ℕ) → Ascends xs → Ascends ys → ((t : ℕ) → is_target xs t ≡ is_target ys t) → xs ≡ ys
same_targets [] [] xs_up ys_up same = refl
same_targets [] (y ∷ ys) xs_up ys_up same = let both : false ≡ true = same y ∙ first_is_target y ys in cc
same_targets (x ∷ xs) [] xs_up ys_up same = let both : true ≡ false = sym (first_is_target x xs) ∙ same x in cc
same_targets (x ∷ xs) (y ∷ ys) xs_up ys_up same =
    let first : x ≡ y = same_number x y
    (λ below. let both : true ≡ false = sym (first_is_target x xs) ∙ same x ∙ below_first y x ys ys_up below in cc)
    (λ below. let both : true ≡ false = sym (first_is_target y ys) ∙ sym (same y) ∙ below_first x y xs xs_up below in cc) in
    ap (λ z. z ∷ xs) first ∙ ap (λ zs. y ∷ zs) (same_targets xs ys (ascends-tail x xs xs_up) (ascends-tail y ys ys_up) (rest first))
  where
    above_x : (k d : ℕ) → k < length xs → x < get_or xs k d
    above_x k d inside = xs_up 0 (suc k) d (omega arith) (omega arith)

    above_y : (k d : ℕ) → k < length ys → y < get_or ys k d
    above_y k d inside = ys_up 0 (suc k) d (omega arith) (omega arith)

    at_first : (x' y' t : ℕ) → x' ≡ y' → (b c : Bool) → (y' ≡ t → b ≡ false) → (y' ≡ t → c ≡ false) → ((x' == t) || b) ≡ ((y' == t) || c) → b ≡ c
    at_first x' y' t one b c b_not c_not both =
        (elim (y' == t) as (λ e. (y' == t) ≡ e → (e || b) ≡ (e || c) → b ≡ c) [
          | true ↦ λ is _. b_not (grind (arith, nat_tests)) ∙ sym (c_not (grind (arith, nat_tests)))
          | false ↦ λ _ rest'. rest'
        ]) refl (ap (λ z. (z == t) || b) (sym one) ∙ both)

    rest : x ≡ y → (t : ℕ) → is_target xs t ≡ is_target ys t
    rest first t = at_first x y t first (is_target xs t) (is_target ys t)
        (λ is. no_target t xs (λ k d inside. let up : x < get_or xs k d = above_x k d inside in omega arith))
        (λ is. no_target t ys (λ k d inside. let up : y < get_or ys k d = above_y k d inside in omega arith))
        (same t)

-- an address below all others has no target
no_pair : (address target : ℕ) (cs : List DeclaredCase) → ((k : ℕ) (d : DeclaredCase) → k < length cs → address < (get_or cs k d).at) → has_target cs address target ≡ false
no_pair address target [] above = refl
no_pair address target (c ∷ cs) above =
    let here : address < c.at = above 0 c (omega arith) in
    ap (λ b. (b && is_target c.targets target) || has_target cs address target) (differ c.at address (λ same. omega arith))
    ∙ no_pair address target cs (λ k d inside. above (suc k) d (omega arith))

above_first : (c : DeclaredCase) (cs : List DeclaredCase) → AreByAddress (c ∷ cs) → (k : ℕ) (d : DeclaredCase) → k < length cs → c.at < (get_or cs k d).at
above_first c cs up k d inside = up 0 (suc k) d (omega arith) (omega arith)

pair_below : (c : DeclaredCase) (cs : List DeclaredCase) (address target : ℕ) → AreByAddress (c ∷ cs) → address < c.at → has_target (c ∷ cs) address target ≡ false
pair_below c cs address target up below = no_pair address target (c ∷ cs) higher
  where
    higher : (k : ℕ) (d : DeclaredCase) → k < length (c ∷ cs) → address < (get_or (c ∷ cs) k d).at
    higher zero d inside = below
    higher (suc k) d inside = let later : c.at < (get_or cs k d).at = above_first c cs up k d (omega arith) in omega arith

-- the targets of the first case
pair_here : (c : DeclaredCase) (cs : List DeclaredCase) (target : ℕ) → AreByAddress (c ∷ cs) → has_target (c ∷ cs) c.at target ≡ is_target c.targets target
pair_here c cs target up =
    ap (λ b. (b && is_target c.targets target) || has_target cs c.at target) (eq-eqb c.at c.at refl)
    ∙ ap (λ b. is_target c.targets target || b) (no_pair c.at target cs (above_first c cs up)) ∙ or_false (is_target c.targets target)
  where
    or_false : (b : Bool) → (b || false) ≡ b
    or_false true = refl
    or_false false = refl

-- a target of a list that is not empty
pub a_target : (ts : List ℕ) → 0 < length ts → (t : ℕ) × (is_target ts t ≡ true)
a_target [] some = absurd (omega arith)
a_target (t ∷ ts) some = (t, first_is_target t ts)

-- the first address of one is not below that of the other
not_below : (c : DeclaredCase) (cs : List DeclaredCase) (e : DeclaredCase) (es : List DeclaredCase) → AreByAddress (c ∷ cs) → AreByAddress (e ∷ es) → 0 < length c.targets →
    ((a t : ℕ) → has_target (c ∷ cs) a t ≡ has_target (e ∷ es) a t) → c.at < e.at → ⊥
not_below c cs e es c_up e_up some same below =
    let one = a_target c.targets some in
    let both : true ≡ false = sym one.1 ∙ sym (pair_here c cs one.0 c_up) ∙ same c.at one.0 ∙ pair_below e es c.at one.0 e_up below in
    cc

-- cases by address with the same pairs are the same
pub same_cases : (cs es : List DeclaredCase) → AreByAddress cs → AreByAddress es → All IsCase cs → All IsCase es →
    ((a t : ℕ) → has_target cs a t ≡ has_target es a t) → cs ≡ es
same_cases [] [] c_up e_up c_rules e_rules same = refl
same_cases [] (e ∷ es) c_up e_up c_rules e_rules same =
    let rules : IsCase e = All-head IsCase e es e_rules in
    let one = a_target e.targets rules.some in
    let both : false ≡ true = same e.at one.0 ∙ pair_here e es one.0 e_up ∙ one.1 in cc
same_cases (c ∷ cs) [] c_up e_up c_rules e_rules same =
    let rules : IsCase c = All-head IsCase c cs c_rules in
    let one = a_target c.targets rules.some in
    let both : true ≡ false = sym one.1 ∙ sym (pair_here c cs one.0 c_up) ∙ same c.at one.0 in cc
same_cases (c ∷ cs) (e ∷ es) c_up e_up c_rules e_rules same =
    let c_rule : IsCase c = All-head IsCase c cs c_rules in
    let e_rule : IsCase e = All-head IsCase e es e_rules in
    let at : c.at ≡ e.at = same_number c.at e.at (not_below c cs e es c_up e_up c_rule.some same) (not_below e es c cs e_up c_up e_rule.some (λ a t. sym (same a t))) in
    let targets : c.targets ≡ e.targets = same_targets c.targets e.targets c_rule.ascending e_rule.ascending
    (λ t. sym (pair_here c cs t c_up) ∙ same c.at t ∙ ap (λ a. has_target (e ∷ es) a t) at ∙ pair_here e es t e_up) in
    let make : ℕ → List ℕ → DeclaredCase = λ a ts. record { at = a; targets = ts } in
    let one : c ≡ e = ap (λ a. make a c.targets) at ∙ ap (λ ts. make e.at ts) targets in
    ap (λ x. x ∷ cs) one ∙ ap (λ xs. e ∷ xs) (same_cases cs es (by_address-tail c cs c_up) (by_address-tail e es e_up) (All-tail IsCase c cs c_rules) (All-tail IsCase e es e_rules) (rest at one))
  where
    at_first : (a : ℕ) (c' e' : DeclaredCase) (t : ℕ) (p q : Bool) → c' ≡ e' → (e'.at ≡ a → p ≡ false) → (e'.at ≡ a → q ≡ false) →
        ((c'.at == a && is_target c'.targets t) || p) ≡ ((e'.at == a && is_target e'.targets t) || q) → p ≡ q
    at_first a c' e' t p q one p_not q_not both =
        (elim (e'.at == a) as (λ b. (e'.at == a) ≡ b → ((b && is_target e'.targets t) || p) ≡ ((b && is_target e'.targets t) || q) → p ≡ q) [
          | true ↦ λ is _. p_not (grind (arith, nat_tests)) ∙ sym (q_not (grind (arith, nat_tests)))
          | false ↦ λ _ rest'. rest'
        ]) refl (ap (λ (k : DeclaredCase). (k.at == a && is_target k.targets t) || p) (sym one) ∙ both)

    rest : c.at ≡ e.at → c ≡ e → (a t : ℕ) → has_target cs a t ≡ has_target es a t
    rest at one a t = at_first a c e t (has_target cs a t) (has_target es a t) one
        (λ is. no_pair a t cs (λ k d inside. let up : c.at < (get_or cs k d).at = above_first c cs c_up k d inside in omega arith))
        (λ is. no_pair a t es (λ k d inside. let up : e.at < (get_or es k d).at = above_first e es e_up k d inside in omega arith))
        (same a t)
