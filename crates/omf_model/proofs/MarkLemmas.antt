-- Marks of bytes.
use Rattle.std.proofs.Common.{◌≡◌, ℕ, ◌+◌, ◌<◌, Bool, true, ◌&&◌, List, [], ◌∷◌, ◌++◌, length, sym, ◌∙◌, ap, get_or, take, drop}
use Rattle.std.proofs.lemmas.Bool.{and_from}
use Rattle.std.proofs.lemmas.List.{drop_more, take_more, get_or_default}
use Rattle.std.specs.Prelude.{not}
use Rattle.omf_model.specs.declared.fixup.Fixup.{Fixup}
use Rattle.omf_model.specs.declared.symbols.Common.{Common}
use Rattle.omf_model.specs.Contents.{is_inside, shares_a_byte}
use Rattle.omf_model.specs.Rules.{each_after, is_fitting, has_target}

-- the test of the next item after those before it, and of the others after that one
pub next_tested : {A : Type 0} (test : List A → A → Bool) (xs : List A) (i : ℕ) (x : A) (whole : Bool)
    → each_after test (take i xs) (drop i xs) ≡ whole → i < length xs → x ≡ get_or xs i x
    → (test (take i xs) x && each_after test (take (i + 1) xs) (drop (i + 1) xs)) ≡ whole
next_tested {A} test xs i x whole so_far within is =
    let left : drop i xs ≡ x ∷ drop (i + 1) xs = drop_more xs i x within ∙ ap (λ (y : A). y ∷ drop (i + 1) xs) (sym is) in
    let seen : take (i + 1) xs ≡ take i xs ++ x ∷ [] = take_more xs i x within ∙ ap (λ (y : A). take i xs ++ y ∷ []) (sym is) in
    ap (λ (l : List A). test (take i xs) x && each_after test l (drop (i + 1) xs)) seen
    ∙ (ap (λ (l : List A). each_after test (take i xs) l) (sym left) ∙ so_far)

-- a reference that fits: what is left passes as all does
pub fits_next : (commons : List Common) (externals first size : ℕ) (xs : List Fixup) (i : ℕ) (d : Fixup) (whole : Bool)
    → each_after (is_fitting commons externals first size) (take i xs) (drop i xs) ≡ whole
    → i < length xs
    → is_inside first size (get_or xs i d) ≡ true
    → true ≡ not (shares_a_byte (take i xs) (get_or xs i d))
    → has_target commons externals (get_or xs i d).target ≡ true
    → each_after (is_fitting commons externals first size) (take (i + 1) xs) (drop (i + 1) xs) ≡ whole
fits_next commons externals first size xs i d whole so_far within inside free there =
    let f = get_or xs i d in
    let rest = each_after (is_fitting commons externals first size) (take (i + 1) xs) (drop (i + 1) xs) in
    let fits : is_fitting commons externals first size (take i xs) f ≡ true =
    and_from (is_inside first size f && not (shares_a_byte (take i xs) f)) (has_target commons externals f.target)
    (and_from (is_inside first size f) (not (shares_a_byte (take i xs) f)) inside (sym free)) there in
    ap (λ (b : Bool). b && rest) (sym fits)
    ∙ next_tested (is_fitting commons externals first size) xs i f whole so_far within (get_or_default xs i d f within)
