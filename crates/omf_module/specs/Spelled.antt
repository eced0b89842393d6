-- How bytes spell modules and object files, and why they spell none: the first fault.
-- (8080 Object Module Formats, module and object file. The faults and their order are this project's own.)
use Rattle.std.specs.Prelude.{◌≡◌, ◌≢◌, ℕ, ◌≤◌, ◌<◌, not, ◌==◌, ◌&&◌, Bool, Some, None, List, [], ◌∷◌, ◌++◌, length, drop, Result, Ok, Err, if◌then◌else◌, IsTrue}
use Rattle.omf_core.specs.declared.fault.RecordFault.{RecordFault}
use Rattle.omf_core.specs.declared.kind.RecordKind.TheVariants as kind
use Rattle.omf_core.specs.Kind.{kind_byte}
use Rattle.omf_core.specs.Record.{SpellsRecord, fault_at}
use Rattle.omf_core.specs.SegmentId.{is_common_id}
use Rattle.omf_body.specs.declared.fault.FieldFault.{FieldFault}
use Rattle.omf_body.specs.declared.fault.FieldFault.TheVariants as field
use Rattle.omf_body.specs.declared.fault.BodyFault.{BodyFault}
use Rattle.omf_body.specs.declared.fault.BodyFault.TheVariants as of_body
use Rattle.omf_body.specs.declared.body.HeaderBody.{HeaderBody}
use Rattle.omf_body.specs.declared.body.Body.TheVariants.{ModuleHeader}
use Rattle.omf_body.specs.Fields.{◌>>=◌, read_byte, read_name}
use Rattle.omf_body.specs.FirstFault.{FirstFault}
use Rattle.omf_module.specs.declared.fault.Cause.{Cause}
use Rattle.omf_module.specs.declared.fault.Cause.TheVariants as cause
use Rattle.omf_module.specs.declared.fault.ModuleFault.{ModuleFault}
use Rattle.omf_model.specs.declared.symbols.Common.{Common}
use Rattle.omf_module.specs.declared.module_file.PlacedBody.{PlacedBody}
use Rattle.omf_model.specs.Segments.{has_common_id}
use Rattle.omf_model.specs.Rules.{has_common_name}
use Rattle.omf_model.specs.Modules.{ModuleValue, made_of}
use Rattle.omf_module.specs.Records.{SpellsBody, SpellsBodies, commons_of, each_follows, ModuleRecords, SpellsModuleRecords}
use Rattle.omf_module.specs.Gathered.{parts_of}
use Rattle.omf_module.specs.Uses.{fault_by, use_fault}

-- ---- a module

-- The bytes from place `at` up to the place `after` spell the module: its records stand there, they use nothing that isn't
-- there, and the module is what they say.
pub record SpellsModule (bytes : List ℕ) (at after : ℕ) (m : ModuleValue) : Type 0 where
  pub records : ModuleRecords
  pub begins : records.at ≡ at
  pub spelled : SpellsModuleRecords bytes after records
  pub used : use_fault records ≡ None
  pub says : m ≡ made_of (parts_of records)

-- ---- the first fault by place

-- a fault of a body as a cause
abbrev pub cause_of : BodyFault → Cause
cause_of (of_body.UnknownKind kind) = cause.UnknownKind kind
cause_of (of_body.BadBody kind) = cause.BadBody kind
cause_of of_body.BadName = cause.BadName

-- no header stands at a place, or it has a fault
pub data FaultsHeader (bytes : List ℕ) (at : ℕ) : Cause → Type 0 where
  no_header_byte : length bytes ≤ at → FaultsHeader bytes at cause.NoHeader
  no_header_record : (fault : RecordFault) → at < length bytes → fault_at (drop at bytes) at ≡ Some fault
      → FaultsHeader bytes at (cause.Record fault)
  other_kind : (next byte : ℕ) (body : List ℕ) → SpellsRecord bytes at next byte body → byte ≢ kind_byte kind.ModuleHeader
      → FaultsHeader bytes at cause.NoHeader
  in_header_body : (next : ℕ) (body : List ℕ) (fault : BodyFault) → SpellsRecord bytes at next (kind_byte kind.ModuleHeader) body
      → FirstFault (kind_byte kind.ModuleHeader) body fault → FaultsHeader bytes at (cause_of fault)

-- a common, after those that stand before: its id is one for commons and new, and so is its name
abbrev pub read_new_common : List Common → List ℕ → Result (Common × List ℕ) FieldFault
read_new_common before bytes = do
  id ← read_byte bytes
  if is_common_id id.0 && not (has_common_id before id.0)
      then (read_name id.1 >>= λ name.
      if has_common_name before name.0 then Err field.BadBody else Ok (record { id = id.0; name = name.0 }, name.1))
      else Err field.BadBody

-- the first fault of the commons of a record, after those that stand before it
pub data FaultsCommons : List Common → List ℕ → FieldFault → Type 0 where
  here : (before : List Common) (bytes : List ℕ) (fault : FieldFault) → 0 < length bytes
      → read_new_common before bytes ≡ Err fault → FaultsCommons before bytes fault
  later : (before : List Common) (common : Common) (bytes rest : List ℕ) (fault : FieldFault)
      → read_new_common before bytes ≡ Ok (common, rest) → FaultsCommons (before ++ common ∷ []) rest fault
      → FaultsCommons before bytes fault

abbrev pub commons_cause : FieldFault → Cause
commons_cause field.BadBody = cause.BadBody (kind_byte kind.NamedCommons)
commons_cause field.BadName = cause.BadName

-- the kinds of which no more is asked than a body: not a header, which may not stand here, the end of a file, or commons
abbrev pub stands_alone : ℕ → Bool
stands_alone byte = not (byte == kind_byte kind.ModuleHeader) && not (byte == kind_byte kind.EndOfFile)
    && not (byte == kind_byte kind.NamedCommons)

-- after a header and records that declare these commons, no record that may stand there stands at a place
pub data FaultsWithin (bytes : List ℕ) (at : ℕ) (commons : List Common) : Cause → Type 0 where
  no_byte : length bytes ≤ at → FaultsWithin bytes at commons cause.NoEnd
  no_record : (fault : RecordFault) → at < length bytes → fault_at (drop at bytes) at ≡ Some fault
      → FaultsWithin bytes at commons (cause.Record fault)
  file_ends : (next : ℕ) (body : List ℕ) → SpellsRecord bytes at next (kind_byte kind.EndOfFile) body
      → FaultsWithin bytes at commons cause.NoEnd
  second_header : (next : ℕ) (body : List ℕ) → SpellsRecord bytes at next (kind_byte kind.ModuleHeader) body
      → FaultsWithin bytes at commons (cause.UnknownKind (kind_byte kind.ModuleHeader))
  in_body : (next byte : ℕ) (body : List ℕ) (fault : BodyFault) → SpellsRecord bytes at next byte body
      → IsTrue (stands_alone byte) → FirstFault byte body fault
      → FaultsWithin bytes at commons (cause_of fault)
  in_commons : (next : ℕ) (body : List ℕ) (fault : FieldFault) → SpellsRecord bytes at next (kind_byte kind.NamedCommons) body
      → FaultsCommons commons body fault
      → FaultsWithin bytes at commons (commons_cause fault)

-- records stand from a place on, each of which may follow, and then none does
pub record FaultsRecords (bytes : List ℕ) (first : ℕ) (fault : ModuleFault) : Type 0 where
  pub here : ℕ
  pub before : List PlacedBody
  pub why : Cause
  pub spelled : SpellsBodies bytes first here before
  pub follow : IsTrue (each_follows [] before)
  pub faults : FaultsWithin bytes here (commons_of before) why
  pub is : fault ≡ fault_by here why

-- The first fault of the module that should begin at a place: of its header, of a record after it, or, if all of its
-- records are there, of what they use.
pub data FaultsModule (bytes : List ℕ) (at : ℕ) : ModuleFault → Type 0 where
  in_header : (why : Cause) → FaultsHeader bytes at why → FaultsModule bytes at (fault_by at why)
  in_records : (first : ℕ) (header : HeaderBody) (fault : ModuleFault)
      → SpellsBody bytes at first (ModuleHeader header) → FaultsRecords bytes first fault → FaultsModule bytes at fault
  in_uses : (after : ℕ) (records : ModuleRecords) (fault : ModuleFault)
      → records.at ≡ at → SpellsModuleRecords bytes after records → use_fault records ≡ Some fault → FaultsModule bytes at fault

-- ---- a file

-- The bytes from place `from` up to place `to` spell the modules, one after another.
abbrev pub SpellsModules : List ℕ → ℕ → ℕ → List ModuleValue → Type 0
SpellsModules bytes from to [] = from ≡ to
SpellsModules bytes from to (m ∷ ms) = (next : ℕ) × SpellsModule bytes from next m × SpellsModules bytes next to ms

-- an end-of-file record stands at a place
pub record EndsFile (bytes : List ℕ) (at : ℕ) : Type 0 where
  pub next : ℕ
  pub body : List ℕ
  pub spelled : SpellsRecord bytes at next (kind_byte kind.EndOfFile) body

-- The bytes spell the modules as an object file: one at least, and an end-of-file record. What stands after it isn't read.
pub record SpellsFile (bytes : List ℕ) (modules : List ModuleValue) : Type 0 where
  pub some : 0 < length modules
  pub end : ℕ
  pub spelled : SpellsModules bytes 0 end modules
  pub ends : EndsFile bytes end

-- the first fault of a file: of its first module, of a later one, or no byte stands where it should go on
pub data FaultsFile (bytes : List ℕ) : ModuleFault → Type 0 where
  first_module : (fault : ModuleFault) → FaultsModule bytes 0 fault → FaultsFile bytes fault
  later_module : (at : ℕ) (before : List ModuleValue) (fault : ModuleFault)
      → 0 < length before → SpellsModules bytes 0 at before → at < length bytes → (EndsFile bytes at → ⊥)
      → FaultsModule bytes at fault → FaultsFile bytes fault
  no_end : (at : ℕ) (before : List ModuleValue)
      → 0 < length before → SpellsModules bytes 0 at before → length bytes ≤ at → FaultsFile bytes (fault_by at cause.NoEnd)
