-- Where a module lies in a dump, by the chunks that its contents are if LOCATE gives it bases.
-- (8080 Object Module Formats: content and fixup records; ISIS-II User's Guide, LOCATE: bases of segments; of two contents
-- over a byte the later one stands.)
use Rattle.std.specs.Prelude.{◌≡◌, ℕ, ◌%◌, ◌<◌, ◌≤◌, true, Some, List, [], ◌∷◌, length, take, IsTrue, AllPairs, ⊤}
use Rattle.omf_model.specs.declared.fixup.Target.{Target}
use Rattle.omf_model.specs.declared.fixup.Target.TheVariants as target
use Rattle.omf_model.specs.Modules.{ModuleValue}
use Rattle.omf_model.specs.Rules.{has_target}
use Rattle.omf_model.specs.Place.{Bases, word_of, place_in}
use Rattle.omf_model.specs.ImageByte.{ByteChunk, name_at, last_over}
use Rattle.rom80_find.specs.Dump.{DumpValue, dump_byte}
use Rattle.rom80_pattern.specs.CodeBytes.{number_of}
use Rattle.rom80_pattern.specs.Modules.{first_with}
use Rattle.rom80_find.specs.Chunks.{code_chunks, is_covered, chunk_byte}
use Rattle.rom80_find.specs.declared.words.Word.{Word}
use Rattle.rom80_find.specs.Places.{is_listed}
use Rattle.rom80_find.specs.Words.{has_word}

-- The module lies in the dump if it has these bases: CODE's is the address; at each address that its contents in CODE cover,
-- the dump has the byte of the last of them; and there is such an address.
pub record LiesByBases (dump : DumpValue) (m : ModuleValue) (address : ℕ) (bases : Bases) : Type 0 where
  pub here : bases.code ≡ address
  pub bytes : (a : ℕ) (c : ByteChunk) → last_over (code_chunks bases m) a ≡ Some c → dump_byte dump a ≡ Some (chunk_byte c a)
  pub some : (a : ℕ) × (is_covered (code_chunks bases m) a ≡ true)

-- the module lies at the address: there are bases with which it does
pub record HasModule (dump : DumpValue) (m : ModuleValue) (address : ℕ) : Type 0 where
  pub bases : Bases
  pub lies : LiesByBases dump m address bases

-- the addresses at which the module lies, in ascending order
pub record AreModulePlaces (dump : DumpValue) (m : ModuleValue) (places : List ℕ) : Type 0 where
  pub lies : (address : ℕ) → is_listed places address ≡ true → (address < 65536) × HasModule dump m address
  pub all : (address : ℕ) → address < 65536 → HasModule dump m address → is_listed places address ≡ true
  pub ascending : AllPairs (λ (p q : ℕ). p < q) places

-- ---- the words of its targets

-- what the bases give a target: where a segment begins, of STACK its top, and the word beside the name of an external
abbrev pub given_word : Bases → ModuleValue → Target → ℕ
given_word bases m (target.Segment id) = place_in bases (m ∷ []) 0 m id 0
given_word bases m (target.External index) = word_of bases.words (name_at m.externals index)

-- whatever bases the module lies there with, they give the target this word
abbrev pub IsOnlyWord : (dump : DumpValue) (m : ModuleValue) (address : ℕ) → Target → (word : ℕ) → Type 0
IsOnlyWord dump m address t word = (bases : Bases) → LiesByBases dump m address bases → given_word bases m t % 65536 ≡ word

-- the target is a segment, or the first external of its name
abbrev pub IsFirst : ModuleValue → Target → Type 0
IsFirst m (target.Segment id) = ⊤
IsFirst m (target.External index) = first_with (take index m.externals) (name_at m.externals index) ≡ index

-- a target that may be listed: one that the module has, but for absolute bytes and CODE, and of externals of one name the first
pub record MayBeListed (m : ModuleValue) (t : Target) : Type 0 where
  pub has : IsTrue (has_target m.commons (length m.externals) t)
  pub not_fixed : 2 ≤ number_of t
  pub first : IsFirst m t

-- The words are those of the targets that can have only one: each word that is listed is the only one, and each target with
-- only one word is listed with it, but for absolute bytes and CODE, and an external under the first of its equal names.
pub record AreModuleWords (dump : DumpValue) (m : ModuleValue) (address : ℕ) (words : List Word) : Type 0 where
  pub lies : HasModule dump m address
  pub only : (t : Target) (word : ℕ) → IsTrue (has_target m.commons (length m.externals) t)
      → has_word words (number_of t) word ≡ true → IsOnlyWord dump m address t word
  pub all : (t : Target) (word : ℕ) → IsTrue (has_target m.commons (length m.externals) t) → 2 ≤ number_of t
      → IsFirst m t → IsOnlyWord dump m address t word → has_word words (number_of t) word ≡ true
