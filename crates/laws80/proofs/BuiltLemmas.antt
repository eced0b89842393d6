-- What `locate` says of a linked module, said of the modules that it was linked of.
use Rattle.std.proofs.Common.{rules, refl, ◌≢◌, ◌≡◌, ℕ, false, Some, None, List, [], ◌∷◌, subst, ◌∙◌}
use Rattle.std.specs.Prelude.{option_map}
use Rattle.std.specs.List.{AllByRecursion}
use Rattle.omf_model.specs.Modules.{ModuleValue}
use Rattle.omf_model.specs.Rules.{IsModule}
use Rattle.omf_model.specs.HighReferences.{any_loses_low_byte}
use Rattle.omf_model.specs.ImageByte.{image_byte}
use Rattle.link80.specs.Linked.{linked}
use Rattle.link80.specs.LinkFault.{link_fault}
use Rattle.link80.specs.LinkLaws.{LinkedBytesAreTheModules, LinkedStartIsTheModules}
use Rattle.image80.specs.Image.{Located, byte_at}
use Rattle.image80.specs.Regions.{Arranges}
use Rattle.place80.specs.declared.options.Options.{Options}
use Rattle.place80.specs.Layout.{layout_of, program_bases}
use Rattle.place80.specs.Locating.{located_code, located_stack, located_data}
use Rattle.place80.specs.PlaceFault.{start_place}
use Rattle.link80.specs.declared.fault.LinkFault.{LinkFault}
use Rattle.link80.specs.declared.fault.LinkFault.TheVariants as linking
use Rattle.place80.specs.declared.place_fault.PlaceFault.{PlaceFault}
use Rattle.place80.specs.declared.place_fault.PlaceFault.TheVariants as locating
use Rattle.laws80.specs.declared.fault.BuildFault.TheVariants.{Link, Place, Memory}
use Rattle.laws80.specs.Built.{HoldsModules, linked_bases, from_link, from_place}

-- what `locate` says of its answer
pub record IsLocated (options : Options) (image : Located) (program : ModuleValue) : Type 0 where
  pub own_name : image.name ≡ program.name
  pub memory : (address : ℕ) → byte_at image.chunks address ≡ image_byte (program_bases options program) (program ∷ []) address
  pub high : any_loses_low_byte (program_bases options program) (program ∷ []) ≡ false
  pub regions : let segments = layout_of options program in
      Arranges (located_code segments) (located_stack segments) (located_data segments) image.regions
  pub begin : Some image.start ≡ option_map (start_place (program_bases options program) program) program.start

pub holds_modules : LinkedBytesAreTheModules
    → LinkedStartIsTheModules
    → (options : Options) (name : List ℕ) (modules : List ModuleValue) (program : ModuleValue) (image : Located)
    → AllByRecursion IsModule modules → link_fault modules ≡ None → program ≡ linked name modules
    → IsLocated options image program
    → HoldsModules options name modules image
holds_modules keeps keeps_start options name modules program image sound none is told =
    let located : IsLocated options image (linked name modules) = subst (IsLocated options image) is told in
    record {
      own_name = located.own_name;
      bytes = λ address. located.memory address
          ∙ keeps name modules (linked_bases options name modules) sound none located.high address;
      regions = located.regions;
      begin = located.begin;
      main = located.begin ∙ keeps_start name modules (linked_bases options name modules) sound none;
    }

-- ---- faults

pub from_link_is : (fault : LinkFault) → from_link fault ≢ Memory → (fault ≢ linking.Memory) × (from_link fault ≡ Link fault)
from_link_is linking.Memory ne = absurd (ne refl)
from_link_is (linking.DuplicatePublic name) ne = search rules
from_link_is (linking.SegmentTooLong id) ne = search rules
from_link_is linking.TwoMains ne = search rules
from_link_is linking.HighNotPaged ne = search rules
from_link_is linking.TooManyCommons ne = search rules
from_link_is linking.TooManyExternals ne = search rules

pub from_place_is : (fault : PlaceFault) → from_place fault ≢ Memory → (fault ≢ locating.Memory) × (from_place fault ≡ Place fault)
from_place_is locating.Memory ne = absurd (ne refl)
from_place_is (locating.Unresolved name) ne = search rules
from_place_is locating.NoStart ne = search rules
from_place_is (locating.OutsideMemory id) ne = search rules
from_place_is (locating.Overlap one other) ne = search rules
from_place_is locating.HighNotPaged ne = search rules
from_place_is locating.StartNotCode ne = search rules

pub link_is_own : (fault : LinkFault) → (from_link fault ≢ Link linking.Memory) × (from_link fault ≢ Place locating.Memory)
link_is_own linking.Memory = search rules
link_is_own (linking.DuplicatePublic name) = search rules
link_is_own (linking.SegmentTooLong id) = search rules
link_is_own linking.TwoMains = search rules
link_is_own linking.HighNotPaged = search rules
link_is_own linking.TooManyCommons = search rules
link_is_own linking.TooManyExternals = search rules

pub place_is_own : (fault : PlaceFault) → (from_place fault ≢ Link linking.Memory) × (from_place fault ≢ Place locating.Memory)
place_is_own locating.Memory = search rules
place_is_own (locating.Unresolved name) = search rules
place_is_own locating.NoStart = search rules
place_is_own (locating.OutsideMemory id) = search rules
place_is_own (locating.Overlap one other) = search rules
place_is_own locating.HighNotPaged = search rules
place_is_own locating.StartNotCode = search rules
