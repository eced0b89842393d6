-- What holds of every way's lines, over the definitions alone.
use Rattle.std.specs.Prelude.{◌≡◌, ◌≢◌, List, [], ◌∷◌, ◌++◌}
use Rattle.std.specs.List.{AllByRecursion}
use Rattle.verify80_walks.specs.declared.point.Point.{Point}
use Rattle.verify80_explain_text.specs.Explained.{runs_of}

-- one after another, the points of runs
abbrev pub joined : List (List Point) → List Point
joined [] = []
joined (run ∷ runs) = run ++ joined runs

-- a run: points, at least one, that all have one frame
abbrev pub IsRun : List Point → Type 0
IsRun [] = ⊥
IsRun (point ∷ run) = AllByRecursion (λ other. other.frame ≡ point.frame) run

-- the first point behind a run has another frame than its first one
abbrev pub EndsBefore : List Point → List (List Point) → Type 0
EndsBefore (point ∷ run) ((next ∷ others) ∷ runs) = point.frame ≢ next.frame
EndsBefore run runs = Unit {0}

-- runs, each as long as it can be
abbrev pub AreLongestRuns : List (List Point) → Type 0
AreLongestRuns [] = Unit {0}
AreLongestRuns (run ∷ runs) = IsRun run × EndsBefore run runs × AreLongestRuns runs

-- The runs of a way are all of its points, in order, in longest runs of points with one frame.
abbrev pub RunsAreTheWay : Type 0
RunsAreTheWay = (way : List Point) → (joined (runs_of way) ≡ way) × AreLongestRuns (runs_of way)
