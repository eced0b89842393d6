-- Tests of each item after those before it, and the first item of what is left.
use Rattle.std.proofs.Common.{◌≡◌, ◌<◌, ◌+◌, ℕ, Bool, true, List, [], ◌∷◌, ◌++◌, length, drop, get_or, refl, sym, ap, ◌∙◌, subst, append_assoc}
use Rattle.std.proofs.lemmas.Bool.{and_parts, and_from}
use Rattle.std.proofs.lemmas.List.{append-nil, drop_more}
use Rattle.omf_model.specs.Rules.{each_after}

pub each_after_both : {A : Type 0} (test : List A → A → Bool) (before xs ys : List A) → each_after test before xs ≡ true
    → each_after test (before ++ xs) ys ≡ true → each_after test before (xs ++ ys) ≡ true
each_after_both {A} test before [] ys a b = subst (λ (z : List A). each_after test z ys ≡ true) (append-nil before) b
each_after_both {A} test before (x ∷ xs) ys a b =
    let parts = and_parts (test before x) (each_after test (before ++ x ∷ []) xs) a in
    and_from (test before x) (each_after test (before ++ x ∷ []) (xs ++ ys)) parts.0
    (each_after_both test (before ++ x ∷ []) xs ys parts.1
    (subst (λ (z : List A). each_after test z ys ≡ true) (sym (append_assoc before (x ∷ []) xs)) b))

pub each_after_parts : {A : Type 0} (test : List A → A → Bool) (before xs ys : List A) → each_after test before (xs ++ ys) ≡ true
    → (each_after test before xs ≡ true) × (each_after test (before ++ xs) ys ≡ true)
each_after_parts {A} test before [] ys e = (refl, rw append-nil e)
each_after_parts {A} test before (x ∷ xs) ys e =
    let p = and_parts (test before x) (each_after test (before ++ x ∷ []) (xs ++ ys)) e in
    let q = each_after_parts test (before ++ x ∷ []) xs ys p.1 in
    (rw p.0 q.0, subst (λ (z : List A). each_after test z ys ≡ true) (append_assoc before (x ∷ []) xs) q.1)

pub each_after_push : {A : Type 0} (test : List A → A → Bool) (before xs : List A) (y : A) → each_after test before xs ≡ true
    → test (before ++ xs) y ≡ true → each_after test before (xs ++ y ∷ []) ≡ true
each_after_push test before xs y all one =
    each_after_both test before xs (y ∷ []) all (and_from (test (before ++ xs) y) true one refl)

-- the first item of what is left
pub first_left : {A : Type 0} (xs : List A) (i : ℕ) (x : A) → i < length xs → x ≡ get_or xs i x → drop i xs ≡ x ∷ drop (i + 1) xs
first_left {A} xs i x within is = drop_more xs i x within ∙ ap (λ (y : A). y ∷ drop (i + 1) xs) (sym is)
