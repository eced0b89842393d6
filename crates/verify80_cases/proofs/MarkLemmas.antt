-- Tables with a mark for each address.
use Rattle.std.proofs.Common.{◌≡◌, ◌<◌, ◌+◌, inl, inr, ℕ, Bool, false, List, [], ◌∷◌, ◌++◌, length, get_or, sym, ◌∙◌, ap, arith}
use Rattle.std.proofs.lemmas.Bool.{cases_eq}
use Rattle.std.proofs.lemmas.List.{get_or_append_left, length-append}
use Rattle.std.proofs.Math.Seq.{get_or-append_seam}
use Rattle.verify80_cases.specs.Marks.{AreMarks}

-- one mark more
pub marks_more : (test : ℕ → Bool) (limit : ℕ) (marks : List Bool) (mark : Bool) → AreMarks test limit marks → mark ≡ test limit → AreMarks test (limit + 1) (marks ++ mark ∷ [])
marks_more test limit marks mark are is = record {
  size = length-append marks (mark ∷ []) ∙ ap (λ n. n + 1) are.size;
  exact = λ address below. elim (cases_eq address (length marks)) [
    | inl e ↦ ap (λ n. get_or (marks ++ mark ∷ []) n false) e ∙ get_or-append_seam marks mark [] false ∙ is ∙ ap test (sym are.size ∙ sym e)
    | inr other ↦
        let less : address < length marks = omega (arith, below, are.size, other) in
        get_or_append_left marks (mark ∷ []) false address less ∙ are.exact address (omega (arith, less, are.size))
  ];
}
