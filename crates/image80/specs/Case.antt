-- The addresses that a PCHL may go to.
-- (8080 Assembly Language Programming Manual, PCHL: the program counter becomes the word in H and L. That a program
-- declares which words these are is this project's own.)
use Rattle.std.specs.Prelude.{ℕ, ◌<◌, ◌==◌, ◌&&◌, Bool, List, length, All, AllPairs}
use Rattle.std.specs.List.{list_any}

-- the address of a PCHL and its targets
pub record DeclaredCase : Type 0 where
  pub at : ℕ
  pub targets : List ℕ

-- the rules of a case: its address and its targets are words, and there is at least one target; they ascend, each once
pub record IsCase (case : DeclaredCase) : Type 0 where
  pub word : case.at < 65536
  pub some : 0 < length case.targets
  pub words : All (λ target. target < 65536) case.targets
  pub ascending : AllPairs (λ a b. a < b) case.targets

-- cases by address: the address of each is below that of every later one
abbrev pub AreByAddress : List DeclaredCase → Type 0
AreByAddress cases = AllPairs (λ a b. a.at < b.at) cases

-- whether the target is one of the targets, a set of addresses
abbrev pub is_target : List ℕ → ℕ → Bool
is_target targets target = list_any (λ t. t == target) targets

-- whether a case of the address has the target, a set of pairs
abbrev pub has_target : List DeclaredCase → ℕ → ℕ → Bool
has_target cases address target = list_any (λ case. case.at == address && is_target case.targets target) cases
