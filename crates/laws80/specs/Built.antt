-- What the image of a linked and located program is, by the modules that went in.
-- (ISIS-II User's Guide: LINK, then LOCATE.)
use Rattle.std.specs.Prelude.{◌≡◌, ℕ, Some, None, option_map, slice_get, List}
use Rattle.omf_model.specs.Modules.{ModuleValue}
use Rattle.omf_model.specs.Place.{Bases}
use Rattle.omf_model.specs.ImageByte.{image_byte}
use Rattle.link80_select.specs.declared.chosen.Chosen.{Chosen}
use Rattle.link80.specs.declared.fault.LinkFault.{LinkFault}
use Rattle.link80.specs.declared.fault.LinkFault.TheVariants as linking
use Rattle.link80.specs.Linked.{linked, starts}
use Rattle.link80.specs.LinkFault.{link_fault}
use Rattle.link80.specs.LinkLaws.{start_of}
use Rattle.link80.specs.Selection.{IsSelection, modules_with, CannotBeLinked}
use Rattle.image80.specs.Image.{Located, byte_at}
use Rattle.place80.specs.declared.options.Options.{Options}
use Rattle.place80.specs.declared.placed_segments.Placed.{Placed}
use Rattle.place80.specs.declared.place_fault.PlaceFault.{PlaceFault}
use Rattle.place80.specs.declared.place_fault.PlaceFault.TheVariants as locating
use Rattle.place80.specs.Layout.{layout_of, program_bases}
use Rattle.place80.specs.Locating.{ArrangesSegments, located_chunks}
use Rattle.place80.specs.PlaceFault.{locate_fault, start_place}
use Rattle.laws80.specs.declared.fault.BuildFault.{BuildFault}
use Rattle.laws80.specs.declared.fault.BuildFault.TheVariants.{Link, Place, Memory}

-- the linked segments at their places, and the bases that these give
abbrev pub linked_layout : Options → List ℕ → List ModuleValue → List Placed
linked_layout options name modules = layout_of options (linked name modules)

abbrev pub linked_bases : Options → List ℕ → List ModuleValue → Bases
linked_bases options name modules = program_bases options (linked name modules)

-- The image has the program's name. It holds at every address the byte that the modules define under these bases: no linked
-- module occurs there. Its regions are those of the linked segments. It starts at the linked module's start, which is the place of
-- the start of the main program among the modules.
pub record HoldsModules (options : Options) (name : List ℕ) (modules : List ModuleValue) (image : Located) : Type 0 where
  pub own_name : image.name ≡ name
  pub bytes : (address : ℕ) → byte_at image.chunks address ≡ image_byte (linked_bases options name modules) modules address
  pub regions : ArrangesSegments (linked_layout options name modules) image.regions
  pub begin : Some image.start
      ≡ option_map (start_place (linked_bases options name modules) (linked name modules)) (slice_get (starts modules) 0)
  pub main : Some image.start ≡ start_of (linked_bases options name modules) modules

-- The image has a chunk for each content of the modules, in their order, with the bytes that it has where it is placed.
abbrev pub HasTheirContents : (options : Options) (name : List ℕ) (modules : List ModuleValue) (image : Located) → Type 0
HasTheirContents options name modules image = image.chunks ≡ located_chunks options (linked name modules)

-- nothing forbids to link the modules, nor to locate what they are linked into
pub record HasNoFault (options : Options) (name : List ℕ) (modules : List ModuleValue) : Type 0 where
  pub in_link : link_fault modules ≡ None
  pub in_place : locate_fault options (linked name modules) ≡ None

-- what the roots need can't be linked with them, or can, and the linked module can't be located; and this is the first cause
pub data CannotBeBuilt (options : Options) (name : List ℕ) (roots : List ModuleValue)
    (libraries : List (List ModuleValue)) : BuildFault → Type 0 where
  by_link : (fault : LinkFault) → CannotBeLinked roots libraries fault → CannotBeBuilt options name roots libraries (Link fault)
  by_place : (taken : List Chosen) (fault : PlaceFault)
      → IsSelection roots libraries taken
      → link_fault (modules_with roots libraries taken) ≡ None
      → locate_fault options (linked name (modules_with roots libraries taken)) ≡ Some fault
      → CannotBeBuilt options name roots libraries (Place fault)

-- the number of a fault
abbrev pub build_fault_code : BuildFault → ℕ
build_fault_code (Link fault) = 1
build_fault_code (Place fault) = 2
build_fault_code Memory = 3

-- the fault that one of LINK is, and one of LOCATE
abbrev pub from_link : LinkFault → BuildFault
from_link linking.Memory = Memory
from_link (linking.DuplicatePublic name) = Link (linking.DuplicatePublic name)
from_link (linking.SegmentTooLong id) = Link (linking.SegmentTooLong id)
from_link linking.TwoMains = Link linking.TwoMains
from_link linking.HighNotPaged = Link linking.HighNotPaged
from_link linking.TooManyCommons = Link linking.TooManyCommons
from_link linking.TooManyExternals = Link linking.TooManyExternals

abbrev pub from_place : PlaceFault → BuildFault
from_place locating.Memory = Memory
from_place (locating.Unresolved name) = Place (locating.Unresolved name)
from_place locating.NoStart = Place locating.NoStart
from_place (locating.OutsideMemory id) = Place (locating.OutsideMemory id)
from_place (locating.Overlap one other) = Place (locating.Overlap one other)
from_place locating.HighNotPaged = Place locating.HighNotPaged
from_place locating.StartNotCode = Place locating.StartNotCode
