-- The records of a module, one after another, each with its place and its body.
-- (8080 Object Module Formats: a module is a header, records in any order, and an end.)
use Rattle.std.specs.Prelude.{◌≡◌, ℕ, ◌≤◌, Bool, true, false, ◌&&◌, List, [], ◌∷◌, ◌++◌, length, map, IsTrue}
use Rattle.std.specs.List.{flat_map}
use Rattle.omf_core.specs.Kind.{kind_byte}
use Rattle.omf_core.specs.Record.{SpellsRecord}
use Rattle.omf_body.specs.declared.body.HeaderBody.{HeaderBody}
use Rattle.omf_body.specs.declared.body.EndBody.{EndBody}
use Rattle.omf_body.specs.declared.body.Body.{Body}
use Rattle.omf_body.specs.declared.body.Body.TheVariants.{ModuleHeader, ModuleEnd, EndOfFile, NamedCommons}
use Rattle.omf_body.specs.Bodies.{body_kind, body_bytes, is_sound_body}
use Rattle.omf_model.specs.declared.symbols.Common.{Common}
use Rattle.omf_module.specs.declared.module_file.PlacedBody.{PlacedBody}
use Rattle.omf_model.specs.Rules.{each_after, is_new_common}

-- The bytes from place `from` up to place `to` are a record with this body.
pub record SpellsBody (bytes : List ℕ) (from to : ℕ) (body : Body) : Type 0 where
  pub framed : SpellsRecord bytes from to (kind_byte (body_kind body)) (body_bytes body)
  pub sound : IsTrue (is_sound_body body)
  pub fits : length (body_bytes body) ≤ 65534

-- The bytes from place `from` up to place `to` are records with these bodies, one after another, each at its place.
abbrev pub SpellsBodies : List ℕ → ℕ → ℕ → List PlacedBody → Type 0
SpellsBodies bytes from to [] = from ≡ to
SpellsBodies bytes from to (p ∷ ps) = (p.at ≡ from)
    × ((next : ℕ) × SpellsBody bytes from next p.body × SpellsBodies bytes next to ps)

-- the commons that a record declares
abbrev pub commons_in : Body → List Common
commons_in (NamedCommons commons) = map (λ c. record { id = c.id; name = c.name }) commons
commons_in _ = []

-- the commons that records declare, in order
abbrev pub commons_of : List PlacedBody → List Common
commons_of = flat_map (λ p. commons_in p.body)

-- a record that may stand between header and end
abbrev pub stands_within : Body → Bool
stands_within (ModuleHeader b) = false
stands_within (ModuleEnd b) = false
stands_within (EndOfFile b) = false
stands_within _ = true

-- a record that may follow those that declare these commons: neither id nor name of its own commons stands before
abbrev pub may_follow : List Common → Body → Bool
may_follow commons body = stands_within body && each_after is_new_common commons (commons_in body)

-- each of the records may follow those before it
abbrev pub each_follows : List Common → List PlacedBody → Bool
each_follows commons [] = true
each_follows commons (p ∷ ps) = may_follow commons p.body && each_follows (commons ++ commons_in p.body) ps

-- the records of a module: header, records within, and end
pub record ModuleRecords : Type 0 where
  pub at : ℕ
  pub header : HeaderBody
  pub within : List PlacedBody
  pub end_at : ℕ
  pub end : EndBody

-- The bytes from place `at` up to the place `after` are the records of a module.
pub record SpellsModuleRecords (bytes : List ℕ) (after : ℕ) (m : ModuleRecords) : Type 0 where
  pub first : ℕ
  pub header : SpellsBody bytes m.at first (ModuleHeader m.header)
  pub within : SpellsBodies bytes first m.end_at m.within
  pub follow : IsTrue (each_follows [] m.within)
  pub end : SpellsBody bytes m.end_at after (ModuleEnd m.end)
