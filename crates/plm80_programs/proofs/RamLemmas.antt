-- Quiet RAM of a board.
use Rattle.plm80_programs.proofs.Names.{◌≡◌, All, List, Located, Range, subst}
use Rattle.std.specs.Prelude.{Option, []}
use Rattle.std.proofs.lemmas.List.Folds.{list_any_at}
use Rattle.image80.specs.{Range.in_range, Regions.Areas}
use Rattle.board80.specs.declared.line.Line.{Line}
use Rattle.plm80_boards.specs.Quiet.{AreInRam, AreWithin, IsQuietIn}
use Rattle.plm80_programs.specs.Printed.{IsAllData}

-- ranges within data are data
pub all_data : (regions : Areas) (quiet : List Range) → AreWithin quiet regions.data_ranges → All (IsAllData regions) quiet
all_data regions quiet within k d below at at_below inside =
    within at (list_any_at (λ (range : Range). in_range range at) quiet k d below inside)

-- the same image, seen as a value
pub same_quiet : (board : Option (List Line)) (named quiet : List Range) (inside value : Located) → inside ≡ value
    → IsQuietIn board inside.regions named quiet → IsQuietIn board value.regions named quiet
same_quiet board named quiet inside value same is = subst (λ (i : Located). IsQuietIn board i.regions named quiet) same is

pub same_ram : (board : List Line) (quiet : List Range) (inside value : Located) → inside ≡ value
    → AreInRam board inside.regions quiet → AreInRam board value.regions quiet
same_ram board quiet inside value same is = subst (λ (i : Located). AreInRam board i.regions quiet) same is

pub none_in_ram : (board : List Line) (regions : Areas) → AreInRam board regions []
none_in_ram board regions = record { ram = λ at inside. absurd cc; are_data = λ at inside. absurd cc }
