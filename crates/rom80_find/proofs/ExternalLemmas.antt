-- Names of externals, and the words beside them.
use Rattle.std.specs.Prelude.{◌≡◌, ℕ, zero, suc, ◌+◌, ◌<◌, nat_eq, ◌&&◌, cond, Bool, true, Some, List, [], ◌∷◌, length, map, find, take}
use Rattle.std.specs.List.{enumerate_from}
use Rattle.std.specs.Option.{option_map_or}
use Rattle.std.specs.Cmp.Lexicographic.{pointwise}
use Rattle.std.proofs.Common.{refl, sym, ◌∙◌, ap, arith, inl, inr}
use Rattle.std.proofs.lemmas.Bool.{and_parts, eqb-true, eq-eqb, true≢false, cases_Bool}
use Rattle.omf_model.specs.Place.{word_of}
use Rattle.omf_model.specs.ImageByte.{name_at}
use Rattle.rom80_pattern.specs.Modules.{first_with}

pub name_is : (a b : List ℕ) → pointwise nat_eq a b ≡ true → a ≡ b
name_is [] [] e = refl
name_is [] (y ∷ ys) e = elim (true≢false (sym e)) [ ]
name_is (x ∷ xs) [] e = elim (true≢false (sym e)) [ ]
name_is (x ∷ xs) (y ∷ ys) e =
    let parts = and_parts (nat_eq x y) (pointwise nat_eq xs ys) e in
    ap (λ (n : ℕ). n ∷ xs) (eqb-true x y parts.0) ∙ ap (λ (l : List ℕ). y ∷ l) (name_is xs ys parts.1)

same_name : (name : List ℕ) → pointwise nat_eq name name ≡ true
same_name [] = refl
same_name (b ∷ bs) = ap (λ (t : Bool). t && pointwise nat_eq bs bs) (eq-eqb b b refl) ∙ same_name bs

abbrev first_of : List (List ℕ) → ℕ → ℕ
first_of ns index = first_with (take index ns) (name_at ns index)

-- the first external of a name has that name
pub first_name : (ns : List (List ℕ)) (index : ℕ) → index < length ns → name_at ns (first_of ns index) ≡ name_at ns index
first_name [] index lt = elim lt [ ]
first_name (n ∷ ns) zero lt = refl
first_name (n ∷ ns) (suc i) lt = elim (cases_Bool (pointwise nat_eq n (name_at ns i))) [
  | inl e ↦ ap (λ (t : Bool). name_at (n ∷ ns) (cond t 0 (suc (first_of ns i)))) e ∙ name_is n (name_at ns i) e
  | inr e ↦ ap (λ (t : Bool). name_at (n ∷ ns) (cond t 0 (suc (first_of ns i)))) e ∙ first_name ns i (omega arith)
]

-- words beside the names of externals, by their indices
abbrev pub words_from : (value : ℕ → ℕ) (start : ℕ) → List (List ℕ) → List (List ℕ × ℕ)
words_from value start ns = map (λ e. (e.1, value (256 + e.0))) (enumerate_from start ns)

pub word_beside : (value : ℕ → ℕ) (start : ℕ) (ns : List (List ℕ)) (index : ℕ) → index < length ns
    → word_of (words_from value start ns) (name_at ns index) ≡ value (256 + (start + first_of ns index))
word_beside value start [] index lt = elim lt [ ]
word_beside value start (n ∷ ns) zero lt =
    ap (λ (t : Bool). option_map_or (λ w. w.1) (cond t (Some (n, value (256 + start))) (find (λ w. pointwise nat_eq w.0 n) (words_from value (start + 1) ns))) 0) (same_name n)
    ∙ ap (λ (k : ℕ). value (256 + k)) plus_none
  where
    plus_none : start ≡ start + 0
    plus_none = omega arith
word_beside value start (n ∷ ns) (suc i) lt = elim (cases_Bool (pointwise nat_eq n (name_at ns i))) [
  | inl e ↦
      ap (λ (t : Bool). option_map_or (λ w. w.1) (cond t (Some (n, value (256 + start))) (find (λ w. pointwise nat_eq w.0 (name_at ns i)) (words_from value (start + 1) ns))) 0) e
      ∙ ap (λ (k : ℕ). value (256 + k)) plus_none
      ∙ sym (ap (λ (t : Bool). value (256 + (start + cond t 0 (suc (first_of ns i))))) e)
  | inr e ↦
      ap (λ (t : Bool). option_map_or (λ w. w.1) (cond t (Some (n, value (256 + start))) (find (λ w. pointwise nat_eq w.0 (name_at ns i)) (words_from value (start + 1) ns))) 0) e
      ∙ word_beside value (start + 1) ns i (omega arith)
      ∙ ap (λ (k : ℕ). value (256 + k)) one_more
      ∙ sym (ap (λ (t : Bool). value (256 + (start + cond t 0 (suc (first_of ns i))))) e)
]
  where
    plus_none : start ≡ start + 0
    plus_none = omega arith

    one_more : start + 1 + first_of ns i ≡ start + suc (first_of ns i)
    one_more = omega arith
