-- The regions that are suggested for an image. (This project's own.)
use Rattle.std.specs.Prelude.{◌≡◌, ◌≢◌, ℕ, ◌&&◌, ◌||◌, ◌==◌, Bool, not, List, ◌++◌, IsPermutation, Option, length, nat_le, if◌then◌else◌}
use Rattle.image80.specs.declared.range.Range.{Range}
use Rattle.image80.specs.Case.{AreByAddress, DeclaredCase}
use Rattle.image80.specs.Image.{Located}
use Rattle.image80.specs.Range.{in_range, in_ranges}
use Rattle.image80.specs.Regions.{Areas, AreRegions}
use Rattle.verify80_flow.specs.declared.report.ProcRow.{ProcRow}
use Rattle.verify80_flow.specs.declared.refusal.Refusal.{Refusal}
use Rattle.verify80_flow.specs.declared.refusal.Refusal.TheVariants.{Memory}
use Rattle.verify80_flow.specs.Accepted.{IsMeasured}
use Rattle.verify80_flow.specs.Faults.{HoldsAnyway}
use Rattle.verify80.specs.Looking.{code_of}
use Rattle.verify80_cases.specs.Reach.{AreReached}
use Rattle.verify80_cases.specs.Suggested.{AreSuggested}
use Rattle.verify80_cases.specs.declared.search.Note.{Note}
use Rattle.verify80_suggest.specs.declared.known.Known.{Known}
use Rattle.verify80_suggest.specs.declared.setters.Setter.{Setter}
use Rattle.verify80_suggest.specs.Bytes.{has_byte, may_be_code}
use Rattle.verify80_cases.specs.Covered.{is_covered}
use Rattle.verify80_suggest.specs.Names.{AreNamed, AreSetters}
use Rattle.verify80_cases.specs.Marks.{AreMarks, marked}
use Rattle.verify80_suggest.specs.Ranges.{Covers}
use Rattle.verify80_suggest.specs.Stack.{IsStack}
use Rattle.verify80_suggest.specs.Tables.{AreTables, is_code}

-- what is found of an image, address by address: whether it has a byte there, whether the program may reach it, whether it is to be
-- code, and whether an instruction to which the program may come names it; and the first two of these that set SP
pub record Found : Type 0 where
  pub bytes : List Bool
  pub reached : List Bool
  pub code : List Bool
  pub named : List Bool
  pub first : Option Setter
  pub second : Option Setter

-- code are the instructions that are reached from the start and from further entries, and the tables outside the ranges of RAM
pub record IsFound (image : Located) (entries : List ℕ) (ram : List Range) (found : Found) : Type 0 where
  pub bytes : AreMarks (has_byte image.chunks) 65536 found.bytes
  pub reached : AreReached image entries found.reached
  pub covered : List Bool
  pub are_covered : AreMarks (is_covered image found.reached) 65536 covered
  pub tables : List Bool
  pub are_tables : AreTables image found.reached covered tables
  pub code : AreMarks (is_code covered tables ram) 65536 found.code
  pub named : AreNamed image found.reached found.named
  pub setters : AreSetters image found.reached found.first found.second

-- each table has a mark for each address
pub record AreMarkTables (found : Found) : Type 0 where
  pub bytes : length found.bytes ≡ 65536
  pub reached : length found.reached ≡ 65536
  pub code : length found.code ≡ 65536
  pub named : length found.named ≡ 65536

-- whether an address isn't free for the stack: the image has a byte there, an instruction names it, or it is code
abbrev pub is_taken : Found → ℕ → Bool
is_taken found address = (marked found.bytes address || marked found.named address) || marked found.code address

-- whether an address is data: it is named and the image has no byte there, or, if ranges of RAM are given, it is in one of them; and
-- it is neither code nor stack
abbrev pub is_data : Found → (ram : List Range) → (stack : Range) → ℕ → Bool
is_data found ram stack address =
    (if length ram == 0 then marked found.named address && not (marked found.bytes address) else in_ranges ram address)
    && (not (marked found.code address) && not (in_range stack address))

-- regions with a stack of a given number of bytes, if there are as many
pub record IsArranged (found : Found) (given : List DeclaredCase) (ram : List Range) (wanted : ℕ) (areas : Areas) : Type 0 where
  pub code : Covers (marked found.code) areas.code
  pub stack : IsStack (is_taken found) found.first wanted areas.stack
  pub data_ranges : Covers (is_data found ram areas.stack) areas.data_ranges
  pub cases : areas.cases ≡ given
  pub rules : AreRegions areas

-- how many bytes of stack are wanted: as many as an image uses that is refused for nothing but its stack, and sixteen at least
pub data IsWanted (image : Located) (wanted : ℕ) : Type 0 where
  measured : (rows : List ProcRow) (bytes : ℕ) → IsMeasured (code_of image) rows bytes →
      wanted ≡ (if nat_le bytes 16 then 16 else bytes) → IsWanted image wanted
  refused : (refusal : Refusal) → refusal ≢ Memory → HoldsAnyway (code_of image) refusal → wanted ≡ 16 → IsWanted image wanted

abbrev pub with_regions : Located → Areas → Located
with_regions image areas = record image { regions = areas }

-- the regions that are suggested: those of what is found of the image with all bytes as code that may be code, and with the cases
-- that are known and those that its tables suggest
pub record IsSuggestion (image : Located) (known : Known) (first second : Option Setter) (tableless : List ℕ) (notes : List Note) (new : Located) : Type 0 where
  pub base : Areas
  pub is_base : Covers (may_be_code image.chunks known.rom.now) base.code
  pub base_cases : base.cases ≡ known.cases.now
  pub tabled : List DeclaredCase
  pub suggested : AreSuggested (with_regions image base) known.entries.now tabled tableless notes
  pub cases : List DeclaredCase
  pub joined : IsPermutation (known.cases.now ++ tabled) cases
  pub by_address : AreByAddress cases
  pub found : Found
  pub is_found : IsFound (with_regions image (record base { cases = cases })) known.entries.now known.ram.now found
  pub is_first : first ≡ found.first
  pub is_second : second ≡ found.second
  pub least : Areas
  pub is_least : IsArranged found cases known.ram.now 16 least
  pub wanted : ℕ
  pub is_wanted : IsWanted (with_regions image least) wanted
  pub arranged : IsArranged found cases known.ram.now wanted new.regions
  pub same : new ≡ with_regions image new.regions
