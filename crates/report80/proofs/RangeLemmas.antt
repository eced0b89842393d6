-- Texts of numbers, one after another.
use Rattle.std.proofs.Common.{◌≡◌, ℕ, zero, suc, ◌+◌, List, [], ◌∷◌, ◌++◌, ap, ◌∙◌, arith, append-nil, append_assoc, refl}
use Rattle.std.specs.Prelude.{Result, Ok, Err, OnOk}
use Rattle.std.specs.List.{flat_map, range_with_len}
use Rattle.std.proofs.lemmas.List.Concat.{flat_map-append}
use Rattle.omf_model.specs.declared.symbols.Public.{Public}
use Rattle.report80.specs.PageText.{name_line, names_below}

range-more : (a n : ℕ) → range_with_len a (suc n) ≡ range_with_len a n ++ (a + n) ∷ []
range-more a zero = let same : a ≡ a + 0 = omega arith in ap (λ (x : ℕ). x ∷ []) same
range-more a (suc n) = let same : a + 1 + n ≡ a + suc n = omega arith in ap (λ (xs : List ℕ). a ∷ xs) (range-more (a + 1) n ∙ ap (λ (x : ℕ). range_with_len (a + 1) n ++ x ∷ []) same)

-- the text of one number more
pub flat_more : (f : ℕ → List ℕ) (n : ℕ) → flat_map f (range_with_len 0 (n + 1)) ≡ flat_map f (range_with_len 0 n) ++ f n
flat_more f n =
    let one : n + 1 ≡ suc n = omega arith in
    let zeros : 0 + n ≡ n = omega arith in
    let more : range_with_len 0 (n + 1) ≡ range_with_len 0 n ++ n ∷ [] = ap (range_with_len 0) one ∙ range-more 0 n ∙ ap (λ (x : ℕ). range_with_len 0 n ++ x ∷ []) zeros in
    ap (flat_map f) more ∙ flat_map-append f (range_with_len 0 n) (n ∷ []) ∙ ap (λ (l : List ℕ). flat_map f (range_with_len 0 n) ++ l) (append-nil (f n))

-- the names below no address, and below one more
pub no_names : (publics : List Public) → [] ≡ names_below publics 0
unfolding names_below
no_names publics = refl

pub more_names : (publics : List Public) (n : ℕ) → names_below publics (n + 1) ≡ names_below publics n ++ name_line publics n
unfolding names_below
more_names publics n = flat_more (name_line publics) n

-- what a text that is appended is, by another name
pub rewritten : {T E : Type 0} (r : Result T E) (all a b : List ℕ) → a ≡ b → OnOk r (all ≡ a) → OnOk r (all ≡ b)
rewritten (Ok x) all a b e h = h ∙ e
rewritten (Err y) all a b e h = tt

-- a text behind a heading
pub behind_heading : (old heading text first : List ℕ) → first ≡ (old ++ heading) ++ 10 ∷ [] → first ++ text ≡ old ++ (heading ++ (10 ∷ [] ++ text))
behind_heading old heading text first e =
    ap (λ (l : List ℕ). l ++ text) e ∙ append_assoc (old ++ heading) (10 ∷ []) text ∙ append_assoc old heading (10 ∷ [] ++ text)
