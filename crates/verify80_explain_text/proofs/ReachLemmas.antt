-- What is printed of points, one after another.
use Rattle.std.specs.Prelude.{◌≡◌, ℕ, suc, ◌-◌, ◌<◌, ◌≤◌, List, [], ◌∷◌, ◌++◌, Option, Some, length, take, drop}
use Rattle.std.proofs.Common.{◌∙◌, ap, sym, arith, append_assoc, append-nil, get_or}
use Rattle.std.proofs.lemmas.List.{take_all}
use Rattle.image80.specs.Image.{Located}
use Rattle.omf_model.specs.declared.symbols.Public.{Public}
use Rattle.frames80.specs.declared.procedure.Procedure.{Procedure}
use Rattle.verify80_explain.specs.declared.reaching.ReachedPoint.{ReachedPoint}
use Rattle.verify80_explain_text.specs.Reaching.{headed_lines, heading, lines_by, point_lines}

-- a text behind which the lines of some points are left has one point less to print behind those of the first one
pub lines_next : (line : Option Procedure → ReachedPoint → List ℕ) (before last : Option Procedure) (rest : List ReachedPoint) (d : ReachedPoint) (old new whole : List ℕ) →
    1 ≤ length rest → old ++ lines_by line before rest ≡ whole → new ≡ old ++ line before (get_or rest 0 d) → last ≡ Some (get_or rest 0 d).standing.procedure →
    new ++ lines_by line last (take (length rest - 1) (drop 1 rest)) ≡ whole
lines_next line before last [] d old new whole some so_far made is = absurd (omega (arith, some))
lines_next line before last (point ∷ after) d old new whole some so_far made is =
    let others : List ℕ = lines_by line (Some point.standing.procedure) after in
    let all : length after ≤ suc (length after) - 1 = omega arith in
    ap (λ (l : List ReachedPoint). new ++ lines_by line last l) (take_all (suc (length after) - 1) after all)
    ∙ ap (λ (p : Option Procedure). new ++ lines_by line p after) is
    ∙ ap (λ (l : List ℕ). l ++ others) made
    ∙ append_assoc old (line before point) others
    ∙ so_far

pub lines_end : (line : Option Procedure → ReachedPoint → List ℕ) (before : Option Procedure) (rest : List ReachedPoint) (shown whole : List ℕ) →
    length rest < 1 → shown ++ lines_by line before rest ≡ whole → shown ≡ whole
lines_end line before [] shown whole none so_far = sym (append-nil shown) ∙ so_far
lines_end line before (point ∷ rest) shown whole none so_far = absurd (omega (arith, none))

-- the same of points whose lines stand below those of their procedures
pub headed_next : (image : Located) (publics : List Public) (before last : Option Procedure) (rest : List ReachedPoint) (d : ReachedPoint) (old mid new whole : List ℕ) →
    1 ≤ length rest → old ++ lines_by (headed_lines image publics) before rest ≡ whole → mid ≡ old ++ heading image publics before (get_or rest 0 d).standing.procedure →
    new ≡ mid ++ point_lines image publics (get_or rest 0 d) → last ≡ Some (get_or rest 0 d).standing.procedure →
    new ++ lines_by (headed_lines image publics) last (take (length rest - 1) (drop 1 rest)) ≡ whole
headed_next image publics before last rest d old mid new whole some so_far first second is =
    lines_next (headed_lines image publics) before last rest d old new whole some so_far
    (second ∙ ap (λ (l : List ℕ). l ++ point_lines image publics (get_or rest 0 d)) first
    ∙ append_assoc old (heading image publics before (get_or rest 0 d).standing.procedure) (point_lines image publics (get_or rest 0 d)))
    is
