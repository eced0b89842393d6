-- Faults of quiet ranges: without data there is no answer.
use Rattle.plm80_programs.proofs.Names.{◌≡◌, All, List, Range, subst, sym}
use Rattle.std.specs.Prelude.{Option, None, Some}
use Rattle.image80.specs.Regions.{Areas}
use Rattle.board80.specs.declared.line.Line.{Line}
use Rattle.plm80_boards.specs.Quiet.{IsQuietIn}
use Rattle.plm80_programs.specs.Printed.{AreNamedData, IsAllData}
use Rattle.plm80_programs.proofs.RamLemmas.{all_data}

-- quiet ranges that aren't data are those that are named: a board's are
pub not_data : (board : Option (List Line)) (regions : Areas) (named quiet : List Range) → IsQuietIn board regions named quiet
    → (All (IsAllData regions) quiet → ⊥) → AreNamedData board regions named → ⊥
not_data None regions named quiet is none are = none (subst (λ (ranges : List Range). All (IsAllData regions) ranges) (sym is) are)
not_data (Some board) regions named quiet is none are = none (all_data regions quiet is.0.are_data)

-- the same, as an answer has them
pub named_data : (board : Option (List Line)) (regions : Areas) (named quiet : List Range) → IsQuietIn board regions named quiet
    → All (IsAllData regions) quiet → AreNamedData board regions named
named_data None regions named quiet is are = subst (λ (ranges : List Range). All (IsAllData regions) ranges) is are
named_data (Some board) regions named quiet is are = tt
