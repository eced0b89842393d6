-- What the functions of the reader of regions texts promise one another.
-- (The texts are this project's own.)
use Rattle.std.specs.Prelude.{◌≡◌, ℕ, Bool, false, ◌==◌, ◌||◌, List, All, slice_index}
use Rattle.image80.specs.declared.entry.Entry.{Entry}
use Rattle.image80.specs.declared.entry.Entry.TheVariants.{Stack, Case}
use Rattle.image80.specs.Case.{DeclaredCase, IsCase, AreByAddress, is_target, has_target}
use Rattle.image80.specs.RegionsText.{repeats, is_repeated}

-- whether there is a stack line, and for each address a mark, 1 if it has a case line
pub record SeenLines : Type 0 where
  pub stack : Bool
  pub marks : List ℕ

-- whether a line repeats one of the lines that were seen
abbrev pub is_seen : SeenLines → Entry → Bool
is_seen seen (Stack range) = seen.stack
is_seen seen (Case case) = slice_index seen.marks case.at == 1
is_seen seen _ = false

-- these lines were seen, and no others
abbrev pub HasSeen : SeenLines → List Entry → Type 0
HasSeen seen entries = (entry : Entry) → is_seen seen entry ≡ is_repeated entries entry

-- one more line was seen
abbrev pub SeesToo : SeenLines → Entry → SeenLines → Type 0
SeesToo before entry after = (other : Entry) → is_seen after other ≡ (is_seen before other || repeats entry other)

-- the case of a line: the same address, and the same set of targets
pub record IsCaseOf (line case : DeclaredCase) : Type 0 where
  pub at : case.at ≡ line.at
  pub targets : (target : ℕ) → is_target case.targets target ≡ is_target line.targets target
  pub rules : IsCase case

-- the cases of lines: by address, and the same set of pairs
pub record AreCasesOf (lines cases : List DeclaredCase) : Type 0 where
  pub by_address : AreByAddress cases
  pub each : All IsCase cases
  pub pairs : (address target : ℕ) → has_target cases address target ≡ has_target lines address target
