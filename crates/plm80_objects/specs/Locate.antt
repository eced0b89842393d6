-- What `locate` writes of a program: its image, and its regions.
-- (ISIS-II User's Guide, LOCATE. That the regions have a file of their own is this project's.)
use Rattle.std.specs.Prelude.{◌≡◌, ℕ, ◌==◌, Bool, true, false, ◌||◌, not, if◌then◌else◌, Option, None, Some, List, [], ◌∷◌, length}
use Rattle.omf_model.specs.Modules.{ModuleValue}
use Rattle.omf_module.specs.Writing.{file_bytes}
use Rattle.image80.specs.{declared.range.Range.Range, Image.Located, RegionsText.regions_text}
use Rattle.image80_file.specs.ImageFile.{image_bytes, named_module}
use Rattle.place80.specs.Locating.{ArrangesSegments, located_chunks, program_start}
use Rattle.place80.specs.Restart.{ArrangesWithRestart, RestartsAt, restart_fault}
use Rattle.place80.specs.{declared.options.Options.Options, declared.place_fault.PlaceFault.PlaceFault}
use Rattle.place80.specs.{Layout.layout_of, PlaceFault.locate_fault}
use Rattle.place80_text.specs.Board.{first_unmapped, places_of}
use Rattle.place80_text.specs.{declared.board.Unmapped.Unmapped, ImagePublics.publics_at}
use Rattle.plm80_console.specs.Answer.{AnswerValue, writes_both}

-- why a program can't be located, with a restart or without
abbrev pub fault_of : (restart : Bool) → Options → ModuleValue → Option PlaceFault
fault_of true options m = restart_fault options m
fault_of false options m = locate_fault options m

-- whether the memory of a board is named: one of its ranges
abbrev pub names_board : (rom ram : List Range) → Bool
names_board rom ram = not (length rom == 0) || not (length ram == 0)

-- the first address at which a board that is named has no memory for a program
abbrev pub unmapped_of : (rom ram : List Range) → (restart : Bool) → Options → ModuleValue → Option Unmapped
unmapped_of rom ram restart options m =
    if names_board rom ram then first_unmapped rom ram (places_of m (layout_of options m) restart) else None

-- the image that LOCATE makes of a program
pub record IsLocated (options : Options) (m : ModuleValue) (image : Located) : Type 0 where
  pub name : image.name ≡ m.name
  pub chunks : image.chunks ≡ located_chunks options m
  pub regions : ArrangesSegments (layout_of options m) image.regions
  pub start : Some image.start ≡ program_start options m

-- the same with a jump to its start at address 0
pub record IsLocatedWithRestart (options : Options) (m : ModuleValue) (image : Located) : Type 0 where
  pub name : image.name ≡ m.name
  pub restart : RestartsAt options m image.chunks
  pub regions : ArrangesWithRestart (layout_of options m) image.regions
  pub start : image.start ≡ 0

abbrev pub IsImageOf : (restart : Bool) → Options → ModuleValue → Located → Type 0
IsImageOf true options m image = IsLocatedWithRestart options m image
IsImageOf false options m image = IsLocated options m image

-- the object file of the image, with the program's publics at their addresses or without any
abbrev pub image_file : (publics : Bool) → Options → ModuleValue → Located → List ℕ
image_file true options m image = file_bytes (named_module image (publics_at (layout_of options m) m.publics) ∷ [])
image_file false options m image = image_bytes image

-- the image goes to its path, and the text of its regions to theirs
pub record WritesProgram (image_path regions_path : List ℕ) (restart publics : Bool) (options : Options) (m : ModuleValue)
    (answer : AnswerValue) : Type 0 where
  pub image : Located
  pub is : IsImageOf restart options m image
  pub answer_is : answer ≡ writes_both (record { path = image_path; bytes = image_file publics options m image })
      (record { path = regions_path; bytes = regions_text image.regions })
