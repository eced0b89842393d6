-- What the steps of reading give. (They say no more than the definitions of a module's records and of its first fault.)
use Rattle.std.specs.Prelude.{◌≡◌, ◌⊎◌, ℕ, ◌<◌, ◌≤◌, Bool, true, false, if◌then◌else◌, Option, None, List, [], ◌++◌, length, IsTrue}
use Rattle.std.specs.Option.{option_to_list}
use Rattle.omf_body.specs.declared.entries.CommonEntry.{CommonEntry}
use Rattle.omf_body.specs.declared.fault.FieldFault.{FieldFault}
use Rattle.omf_body.specs.declared.body.HeaderBody.{HeaderBody}
use Rattle.omf_body.specs.declared.body.Body.{Body}
use Rattle.omf_body.specs.declared.body.Body.TheVariants.{ModuleHeader, ModuleEnd, NamedCommons}
use Rattle.omf_body.specs.Entries.{common_layout}
use Rattle.omf_body.specs.Layouts.{SpellsRow}
use Rattle.omf_module.specs.declared.fault.Cause.{Cause}
use Rattle.omf_module.specs.declared.fault.ModuleFault.{ModuleFault}
use Rattle.omf_module.specs.declared.module_file.ModuleFile.{ModuleFile}
use Rattle.omf_module.specs.declared.module_file.WithinRead.{WithinRead}
use Rattle.omf_model.specs.declared.symbols.Common.{Common}
use Rattle.omf_module.specs.Fault.{no_memory}
use Rattle.omf_model.specs.Rules.{each_after, is_new_common}
use Rattle.omf_module.specs.Records.{SpellsBody, SpellsBodies, commons_in, commons_of, may_follow, each_follows, ModuleRecords}
use Rattle.omf_model.specs.Contents.{ContentValue}
use Rattle.omf_model.specs.Modules.{ModuleValue}
use Rattle.omf_module.specs.Gathered.{content_after, begins_content}
use Rattle.omf_module.specs.Uses.{body_fault}
use Rattle.omf_module.specs.Spelled.{commons_cause, FaultsCommons}

-- the common of an entry
abbrev pub common_of : CommonEntry → Common
common_of e = record { id = e.id; name = e.name }

-- the bytes are commons that are new after those before, and these are all of them
pub record TakesCommons (before : List Common) (bytes : List ℕ) (after : List Common) : Type 0 where
  pub entries : List CommonEntry
  pub spelled : SpellsRow common_layout bytes entries
  pub all : after ≡ before ++ commons_in (NamedCommons entries)
  pub new : IsTrue (each_after is_new_common before (commons_in (NamedCommons entries)))

-- why they aren't
pub record RefusesCommons (before : List Common) (bytes : List ℕ) (why : Cause) : Type 0 where
  pub fault : FieldFault
  pub is : why ≡ commons_cause fault
  pub faults : FaultsCommons before bytes fault

abbrev pub is_end : Body → Bool
is_end (ModuleEnd b) = true
is_end _ = false

-- a header at a place
pub record BeginsModule (bytes : List ℕ) (at next : ℕ) (header : HeaderBody) : Type 0 where
  pub spelled : SpellsBody bytes at next (ModuleHeader header)
  pub further : at < next
  pub inside : next ≤ length bytes

-- a record after those that declare some commons: an end, or one that may follow
pub record Follows (bytes : List ℕ) (at next : ℕ) (before after : List Common) (body : Body) : Type 0 where
  pub spelled : SpellsBody bytes at next body
  pub stands : IsTrue (is_end body) ⊎ IsTrue (may_follow before body)
  pub commons : after ≡ before ++ commons_in body
  pub further : at < next
  pub inside : next ≤ length bytes

-- records that follow a header at a place, up to the end of the module and the place after it, and their commons
pub record ReadsWithin (bytes : List ℕ) (first : ℕ) (r : WithinRead) : Type 0 where
  pub spelled : SpellsBodies bytes first r.within.end_at r.within.bodies.items
  pub follow : IsTrue (each_follows [] r.within.bodies.items)
  pub declared : r.commons.items ≡ commons_of r.within.bodies.items
  pub end : SpellsBody bytes r.within.end_at r.after (ModuleEnd r.within.end)

-- the records of a module, as they were read
abbrev pub records_of : ModuleFile → ModuleRecords
records_of m =
    record { at = m.at; header = m.header; within = m.within.bodies.items; end_at = m.within.end_at; end = m.within.end }

-- out of memory, or a fault
abbrev pub OrNoMemory : (ModuleFault → Type 0) → ModuleFault → Type 0
OrNoMemory Faults fault = (fault ≡ no_memory) ⊎ Faults fault

-- parts with other contents: what a record uses is checked while contents are still gathered
abbrev pub with_contents : ModuleValue → List ContentValue → ModuleValue
with_contents p contents = record p { contents = contents }

-- A record was checked, and what it says of contents was taken: it has no fault, `nearest` is the nearest content after it,
-- and the one before stands among those that are whole where a new one begins.
pub record TakesBody (p : ModuleValue) (before : Option ContentValue) (body : Body) (old new : List ContentValue)
    (after : Option ContentValue) : Type 0 where
  pub sound : (cs : List ContentValue) → body_fault (with_contents p cs) before body ≡ None
  pub nearest : after ≡ content_after before body
  pub whole : new ≡ old ++ (if begins_content body then option_to_list before else [])
