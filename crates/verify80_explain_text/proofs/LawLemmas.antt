-- The runs of a way are all of its points, in longest runs.
use Rattle.std.proofs.Common.{◌≡◌, ◌≢◌, Bool, true, false, List, [], ◌∷◌, refl, ap, sym, subst, ◌∙◌, true≢false}
use Rattle.std.specs.List.{AllByRecursion}
use Rattle.frames80.specs.StackFrame.{StackFrame}
use Rattle.verify80_walks.specs.declared.point.Point.{Point}
use Rattle.verify80_explain_text.specs.Explained.{has_other_frame, runs_of, with_point}
use Rattle.verify80_explain_text.specs.Laws.{joined, AreLongestRuns, EndsBefore}
use Rattle.verify80_explain_text.proofs.RunLemmas.{joins, own_frame, same_frame, stays}

joined_with : (p : Point) (runs : List (List Point)) → joined (with_point p runs) ≡ p ∷ joined runs
joined_with p [] = refl
joined_with p ([] ∷ runs) = refl
joined_with p ((q ∷ run) ∷ runs) = by (has_other_frame p.frame q) refl
  where
    by : (b : Bool) → has_other_frame p.frame q ≡ b → joined (with_point p ((q ∷ run) ∷ runs)) ≡ p ∷ joined ((q ∷ run) ∷ runs)
    by true other = ap joined (stays p q run runs other)
    by false same = ap joined (joins p q run runs same)

pub whole : (way : List Point) → joined (runs_of way) ≡ way
whole [] = refl
whole (p ∷ way) = joined_with p (runs_of way) ∙ ap (λ (rest : List Point). p ∷ rest) (whole way)

differ : (p q : Point) → has_other_frame p.frame q ≡ true → p.frame ≢ q.frame
differ p q other same =
    true≢false (sym other ∙ subst (λ (f : StackFrame). has_other_frame f q ≡ false) (sym same) (own_frame q))

ends_too : (p q : Point) (run : List Point) (runs : List (List Point)) → p.frame ≡ q.frame → EndsBefore (q ∷ run) runs → EndsBefore (p ∷ q ∷ run) runs
ends_too p q run [] same ends = tt
ends_too p q run ([] ∷ runs) same ends = tt
ends_too p q run ((next ∷ others) ∷ runs) same ends = λ e. ends (sym same ∙ e)

longest_with : (p : Point) (runs : List (List Point)) → AreLongestRuns runs → AreLongestRuns (with_point p runs)
longest_with p [] longest = (tt, tt, tt)
longest_with p ([] ∷ runs) longest = absurd longest.0
longest_with p ((q ∷ run) ∷ runs) longest = by (has_other_frame p.frame q) refl
  where
    by : (b : Bool) → has_other_frame p.frame q ≡ b → AreLongestRuns (with_point p ((q ∷ run) ∷ runs))
    by true other = subst AreLongestRuns (sym (stays p q run runs other)) (tt, differ p q other, longest)
    by false same =
        let one : p.frame ≡ q.frame = same_frame p.frame q same in
        let all : AllByRecursion (λ other. other.frame ≡ p.frame) run =
        subst (λ (f : StackFrame). AllByRecursion (λ (other : Point). other.frame ≡ f) run) (sym one) longest.0 in
        subst AreLongestRuns (sym (joins p q run runs same)) ((sym one, all), ends_too p q run runs one longest.1, longest.2)

pub longest : (way : List Point) → AreLongestRuns (runs_of way)
longest [] = tt
longest (p ∷ way) = longest_with p (runs_of way) (longest way)
