-- A library whose last bytes are still to come, as far as it is read. (It says no more than the definitions of a library and of
-- its whole modules.)
use Rattle.std.specs.Prelude.{◌≡◌, ◌≢◌, ℕ, ◌+◌, ◌-◌, ◌<◌, ◌≤◌, Bool, false, true, List, [], ◌++◌, length, All, Some}
use Rattle.omf_core.specs.declared.kind.RecordKind.TheVariants as kind
use Rattle.omf_core.specs.Kind.{kind_byte}
use Rattle.omf_core.specs.Lasting.{Lasting}
use Rattle.omf_core.specs.declared.fault.RecordFault.TheVariants.{Truncated}
use Rattle.omf_core.specs.Record.{SpellsRecord}
use Rattle.omf_core.specs.Records.{RecordValue}
use Rattle.omf_model.specs.Modules.{ModuleValue}
use Rattle.omf_module.specs.declared.pieces.UnfinishedModule.{UnfinishedModule}
use Rattle.omf_module.specs.declared.fault.Cause.TheVariants as cause
use Rattle.omf_module.specs.Pieces.{IsCutOff, ReadsModule}
use Rattle.omf_module.specs.Uses.{fault_by}
use Rattle.omf_library.specs.declared.fault.LibraryFault.{LibraryFault}
use Rattle.omf_library.specs.declared.fault.LibraryFault.TheVariants.{Module as InModule}
use Rattle.omf_library.specs.declared.unfinished.Progress.{Progress}
use Rattle.omf_library.specs.declared.unfinished.Progress.TheVariants.{Header, Modules, Index, Ended}
use Rattle.omf_library.specs.declared.unfinished.Standing.{Standing}
use Rattle.omf_library.specs.declared.unfinished.Standing.TheVariants.{CutOff, ModuleHeader, Other}
use Rattle.omf_library.specs.declared.unfinished.UnfinishedLibrary.{UnfinishedLibrary}
use Rattle.omf_library.specs.LibraryFeed.{OpenLibrary}
use Rattle.omf_library.specs.Spelled.{is_index_kind, is_indexed, SpellsLibrary, FaultsLibraryHeader, FaultsAt, fault_of_record}

-- modules stand after a header, and another is read as far as it goes
pub record ReadsModules (bytes : List ℕ) (said : ℕ) (modules : List ModuleValue) (next : UnfinishedModule) : Type 0 where
  pub so_far : OpenLibrary bytes said next.begin next.begin modules []
  pub next_module : ReadsModule bytes next.begin next.here next.commons.items

-- modules stand after a header, and one index record after them at least
pub record ReadsIndexed (bytes : List ℕ) (said at : ℕ) (modules : List ModuleValue) : Type 0 where
  pub index : ℕ
  pub records : List RecordValue
  pub so_far : OpenLibrary bytes said index at modules records
  pub some : is_indexed records ≡ true

-- the modules of a library that is read so far, and the module that follows them
abbrev pub ReadsTo : List ℕ → List ModuleValue → UnfinishedModule → Progress → Type 0
ReadsTo bytes modules next Header = modules ≡ []
ReadsTo bytes modules next (Modules said) = ReadsModules bytes said modules next
ReadsTo bytes modules next (Index said at) = ReadsIndexed bytes said at modules
ReadsTo bytes modules next Ended = SpellsLibrary bytes modules

abbrev pub ReadsLibrary : List ℕ → UnfinishedLibrary → Type 0
ReadsLibrary bytes library = ReadsTo bytes library.modules.items library.next library.progress

-- the record that comes next is cut off
abbrev pub WaitsTo : List ℕ → UnfinishedModule → Progress → Type 0
WaitsTo bytes next Header = IsCutOff bytes 0
WaitsTo bytes next (Modules said) = IsCutOff bytes next.here
WaitsTo bytes next (Index said at) = IsCutOff bytes at
WaitsTo bytes next Ended = Unit {0}

abbrev pub WaitsLibrary : List ℕ → UnfinishedLibrary → Type 0
WaitsLibrary bytes library = WaitsTo bytes library.next library.progress

-- how much there is to read at most
abbrev pub left_after : List ℕ → UnfinishedModule → Progress → ℕ
left_after bytes next Header = length bytes + 2
left_after bytes next (Modules said) = length bytes - next.begin + 1
left_after bytes next (Index said at) = length bytes - at + 1
left_after bytes next Ended = 0

-- one item more is read, and less is left
pub record ReadsFurther (bytes : List ℕ) (left : ℕ) (modules : List ModuleValue) (next : UnfinishedModule)
    (progress : Progress) : Type 0 where
  pub reads : ReadsTo bytes modules next progress
  pub further : left_after bytes next progress < left

-- at least an item more is read than at an earlier place
abbrev pub ReadsOn : List ℕ → UnfinishedModule → Progress → List ModuleValue → UnfinishedModule → Progress → Type 0
ReadsOn bytes was before modules next progress = ReadsFurther bytes (left_after bytes was before) modules next progress

-- what is read is all that can be read of these bytes
pub record ReadsAll (bytes : List ℕ) (modules : List ModuleValue) (next : UnfinishedModule) (progress : Progress) : Type 0 where
  pub reads : ReadsTo bytes modules next progress
  pub waits : WaitsTo bytes next progress

-- the list is the old one and some modules more
pub record Extends (old new : List ModuleValue) : Type 0 where
  pub added : List ModuleValue
  pub is : new ≡ old ++ added

-- a record that is no module header stands at a place
pub record OtherRecord (bytes : List ℕ) (at after byte : ℕ) : Type 0 where
  pub body : List ℕ
  pub spelled : SpellsRecord bytes at after byte body
  pub other : byte ≢ kind_byte kind.ModuleHeader

pub record HeaderStands (bytes : List ℕ) (at : ℕ) : Type 0 where
  pub next : ℕ
  pub body : List ℕ
  pub spelled : SpellsRecord bytes at next (kind_byte kind.ModuleHeader) body

-- what stands where a module may begin
abbrev pub StandsAt : List ℕ → UnfinishedModule → Standing → Type 0
StandsAt bytes next CutOff = IsCutOff bytes next.here
StandsAt bytes next ModuleHeader = HeaderStands bytes next.begin
StandsAt bytes next (Other kind after) = OtherRecord bytes next.begin after kind

-- a record stands at a place
abbrev pub RecordStands : List ℕ → ℕ → ℕ × ℕ → Type 0
RecordStands bytes at r = (body : List ℕ) × SpellsRecord bytes at r.1 r.0 body

-- the faults that stay: of the header, and of what stands at a place
abbrev pub LastingHeaderFault : List ℕ → LibraryFault → Type 0
LastingHeaderFault = Lasting FaultsLibraryHeader

abbrev pub LastingFaultAt : List ℕ → ℕ → LibraryFault → Type 0
LastingFaultAt bytes at fault = (said found : ℕ) (indexed : Bool) (more : List ℕ) → All (λ byte. byte < 256) more
    → FaultsAt (bytes ++ more) at said found indexed fault

-- how far a record that is no module header leads: to the place after an index record, or to the end of the library
abbrev pub LeadsTo : ℕ → ℕ → ℕ → ℕ → Progress → Type 0
LeadsTo said after found kind Header = ⊥
LeadsTo said after found kind (Modules n) = ⊥
LeadsTo said after found kind (Index n at) = (is_index_kind kind ≡ true) × (n ≡ said) × (at ≡ after)
LeadsTo said after found byte Ended = (byte ≡ kind_byte kind.EndOfFile) × (said ≡ found)

-- or that it is none of these
pub record LeadsNowhere (at said found kind : ℕ) (fault : LibraryFault) : Type 0 where
  pub other : is_index_kind kind ≡ false
  pub faults : fault_of_record at said found kind ≡ Some fault

abbrev pub truncated_at : ℕ → LibraryFault
truncated_at at = InModule (fault_by at (cause.Record (Truncated at)))

-- the fault of bytes that end at a place or inside the record there: `none` if no byte stands there
pub record FaultsWhereCut (bytes : List ℕ) (at : ℕ) (none fault : LibraryFault) : Type 0 where
  pub no_byte : length bytes ≤ at → fault ≡ none
  pub no_record : at < length bytes → fault ≡ truncated_at at

-- inside a module no byte stands where its next record should
abbrev pub no_end_in_module : ℕ → LibraryFault
no_end_in_module at = InModule (fault_by at cause.NoEnd)
