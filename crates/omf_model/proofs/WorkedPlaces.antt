-- The definitions of places and bytes, computed on small modules.
use Rattle.std.specs.Prelude.{◌≡◌, ℕ, List, [], ◌∷◌, true, false, None, map, refl}
use Rattle.std.specs.List.{range_with_len}
use Rattle.omf_body.specs.declared.field.Field.TheVariants.{High, Both}
use Rattle.omf_model.specs.declared.fixup.Fixup.{Fixup}
use Rattle.omf_model.specs.declared.fixup.Target.TheVariants as target
use Rattle.omf_model.specs.Modules.{ModuleValue}
use Rattle.omf_model.specs.Place.{Bases, part_start}
use Rattle.omf_model.specs.ImageByte.{image_byte}

-- a module of one content in CODE
abbrev of_code : ℕ → List ℕ → List Fixup → ModuleValue
of_code length bytes fixups = record {
  name = 65 ∷ [];
  segments = (1, record { length = length; paged = false }) ∷ (3, record { length = 8; paged = false }) ∷ [];
  commons = [];
  publics = [];
  externals = [];
  contents = record { segment = 1; offset = 0; bytes = bytes; fixups = fixups } ∷ [];
  start = None;
}

abbrev at : ℕ → (top : ℕ) → Bases
at code top = record { code = code; data_base = 0; memory = 0; common = 0; commons = []; top = top; words = [] }

abbrev bytes_from : Bases → List ModuleValue → ℕ → ℕ → List ℕ
bytes_from bases modules address count = map (image_byte bases modules) (range_with_len address count)

-- a jump to the module's own code, by a word
jump : bytes_from (at 0x3000 0) (of_code 4 (0xC3 ∷ 0x03 ∷ 0x00 ∷ 0x76 ∷ []) (record { offset = 1; field = Both; target = target.Segment 1 } ∷ []) ∷ []) 0x3000 4 ≡ 0xC3 ∷ 0x03 ∷ 0x30 ∷ 0x76 ∷ []
jump = refl

-- the word wraps
jump_back : bytes_from (at 0x3000 0) (of_code 4 (0xC3 ∷ 0xFF ∷ 0xFF ∷ 0x76 ∷ []) (record { offset = 1; field = Both; target = target.Segment 1 } ∷ []) ∷ []) 0x3000 4 ≡ 0xC3 ∷ 0xFF ∷ 0x2F ∷ 0x76 ∷ []
jump_back = refl

-- a high byte
high_byte : bytes_from (at 0x3000 0) (of_code 2 (0x3E ∷ 0x01 ∷ []) (record { offset = 1; field = High; target = target.Segment 1 } ∷ []) ∷ []) 0x3000 2 ≡ 0x3E ∷ 0x31 ∷ []
high_byte = refl

-- the stack's top, of a module alone
abbrev with_stack : ModuleValue → ℕ → ModuleValue
with_stack m size = record m { segments = (1, record { length = 3; paged = false }) ∷ (3, record { length = size; paged = false }) ∷ [] }

stack_top_alone : bytes_from (at 0x3000 0x3110) (with_stack (of_code 3 (0x31 ∷ 0x00 ∷ 0x00 ∷ []) (record { offset = 1; field = Both; target = target.Segment 3 } ∷ [])) 0x10 ∷ []) 0x3000 3 ≡ 0x31 ∷ 0x10 ∷ 0x31 ∷ []
stack_top_alone = refl

-- the stack's top, whichever of two modules with a part of the stack refers to it
stack_top : bytes_from (at 0x3000 0x3110) (of_code 3 (0x31 ∷ 0x00 ∷ 0x00 ∷ []) (record { offset = 1; field = Both; target = target.Segment 3 } ∷ []) ∷ of_code 0 [] [] ∷ []) 0x3000 3 ≡ 0x31 ∷ 0x10 ∷ 0x31 ∷ []
stack_top = refl

stack_top_second : bytes_from (at 0x3000 0x3110) (of_code 0 [] [] ∷ of_code 3 (0x31 ∷ 0x00 ∷ 0x00 ∷ []) (record { offset = 1; field = Both; target = target.Segment 3 } ∷ []) ∷ []) 0x3000 3 ≡ 0x31 ∷ 0x10 ∷ 0x31 ∷ []
stack_top_second = refl

-- a call of a public in the next module
abbrev calls : ModuleValue
calls = record (of_code 4 (0xCD ∷ 0x00 ∷ 0x00 ∷ 0x76 ∷ []) (record { offset = 1; field = Both; target = target.External 0 } ∷ [])) { externals = (83 ∷ 85 ∷ 66 ∷ []) ∷ [] }

abbrev is_called : ModuleValue
is_called = record (of_code 1 (0xC9 ∷ []) []) { publics = record { name = 83 ∷ 85 ∷ 66 ∷ []; segment = 1; offset = 0 } ∷ [] }

called : bytes_from (at 0x3000 0) (calls ∷ is_called ∷ []) 0x3000 5 ≡ 0xCD ∷ 0x04 ∷ 0x30 ∷ 0x76 ∷ 0xC9 ∷ []
called = refl

-- a paged part starts at a multiple of 256
paged_part : part_start (calls ∷ record is_called { segments = (1, record { length = 1; paged = true }) ∷ [] } ∷ []) 1 1 ≡ 256
paged_part = refl

-- a content that passes FFFF goes on at 0
wraps : image_byte (at 0xFFFF 0) (of_code 2 (0x76 ∷ 0xC9 ∷ []) [] ∷ []) 0xFFFF ∷ image_byte (at 0xFFFF 0) (of_code 2 (0x76 ∷ 0xC9 ∷ []) [] ∷ []) 0 ∷ [] ≡ 0x76 ∷ 0xC9 ∷ []
wraps = refl

no_address : image_byte (at 0xFFFF 0) (of_code 2 (0x76 ∷ 0xC9 ∷ []) [] ∷ []) 0x10000 ≡ 0
no_address = refl
