-- The definitions of LINK, computed on small modules.
use Rattle.std.specs.Prelude.{◌≡◌, ℕ, List, [], ◌∷◌, true, false, Some, None, map, refl}
use Rattle.omf_body.specs.declared.field.Field.TheVariants.{High, Both}
use Rattle.omf_model.specs.declared.fixup.Fixup.{Fixup}
use Rattle.omf_model.specs.declared.fixup.Target.TheVariants as target
use Rattle.omf_model.specs.Contents.{ContentValue}
use Rattle.omf_model.specs.Modules.{ModuleValue}
use Rattle.link80.specs.declared.fault.LinkFault.TheVariants.{DuplicatePublic, SegmentTooLong, TwoMains, HighNotPaged}
use Rattle.link80.specs.Linked.{linked_parts, linked_commons, linked_length, unresolved}
use Rattle.link80.specs.LinkFault.{link_fault}

-- a module of one content in CODE
abbrev of_code : ℕ → List ℕ → List Fixup → ModuleValue
of_code length bytes fixups = record {
  name = 65 ∷ [];
  segments = (1, record { length = length; paged = false }) ∷ [];
  commons = [];
  publics = [];
  externals = [];
  contents = record { segment = 1; offset = 0; bytes = bytes; fixups = fixups } ∷ [];
  start = None;
}

abbrev sub : List ℕ
sub = 83 ∷ 85 ∷ 66 ∷ []

abbrev calls : ModuleValue
calls = record (of_code 4 (0xCD ∷ 0x00 ∷ 0x00 ∷ 0x76 ∷ []) (record { offset = 1; field = Both; target = target.External 0 } ∷ [])) {
  segments = (1, record { length = 4; paged = false }) ∷ (3, record { length = 16; paged = false }) ∷ [];
  externals = sub ∷ [];
  start = Some (1, 0);
}

abbrev is_called : ModuleValue
is_called = record (of_code 1 (0xC9 ∷ []) []) { publics = record { name = sub; segment = 1; offset = 0 } ∷ [] }

abbrev paged_call : ModuleValue
paged_call = record is_called { segments = (1, record { length = 1; paged = true }) ∷ [] }

abbrev contents_of : List ModuleValue → List ContentValue
contents_of modules = (linked_parts [] modules).contents

-- a call of a public in the next module: a reference to CODE is left
called : contents_of (calls ∷ is_called ∷ []) ≡
    record {
      segment = 1;
      offset = 0;
      bytes = 0xCD ∷ 0x04 ∷ 0x00 ∷ 0x76 ∷ [];
      fixups = record { offset = 1; field = Both; target = target.Segment 1 } ∷ [];
    }
    ∷ record { segment = 1; offset = 4; bytes = 0xC9 ∷ []; fixups = [] } ∷ []
called = refl

called_paged : contents_of (calls ∷ paged_call ∷ []) ≡
    record {
      segment = 1;
      offset = 0;
      bytes = 0xCD ∷ 0x00 ∷ 0x01 ∷ 0x76 ∷ [];
      fixups = record { offset = 1; field = Both; target = target.Segment 1 } ∷ [];
    }
    ∷ record { segment = 1; offset = 256; bytes = 0xC9 ∷ []; fixups = [] } ∷ []
called_paged = refl

lengths : map (linked_length (calls ∷ paged_call ∷ [])) (1 ∷ 2 ∷ 3 ∷ 4 ∷ 255 ∷ []) ≡ 257 ∷ 0 ∷ 16 ∷ 0 ∷ 0 ∷ []
lengths = refl

no_fault : link_fault (calls ∷ is_called ∷ []) ≡ None
no_fault = refl

left : unresolved (calls ∷ []) ≡ sub ∷ []
left = refl

left_none : unresolved (calls ∷ is_called ∷ []) ≡ []
left_none = refl

-- faults
twice_public : link_fault (is_called ∷ is_called ∷ calls ∷ calls ∷ []) ≡ Some (DuplicatePublic sub)
twice_public = refl

too_long : link_fault (of_code 0x8000 [] [] ∷ of_code 0x8000 [] [] ∷ []) ≡ Some (SegmentTooLong 1)
too_long = refl

mains : link_fault (calls ∷ calls ∷ []) ≡ Some TwoMains
mains = refl

high : link_fault (calls ∷ of_code 2 (0x3E ∷ 0x01 ∷ [])
    (record { offset = 1; field = High; target = target.Segment 1 } ∷ []) ∷ []) ≡ Some HighNotPaged
high = refl

-- references to STACK are not moved
abbrev loads_stack : ModuleValue
loads_stack = record (of_code 3 (0x31 ∷ 0x00 ∷ 0x00 ∷ []) (record { offset = 1; field = Both; target = target.Segment 3 } ∷ [])) {
  segments = (1, record { length = 3; paged = false }) ∷ (3, record { length = 8; paged = false }) ∷ [];
}

abbrev has_stack : ModuleValue
has_stack = record loads_stack { contents = [] }

stack_kept : contents_of (has_stack ∷ loads_stack ∷ []) ≡
    record {
      segment = 1;
      offset = 3;
      bytes = 0x31 ∷ 0x00 ∷ 0x00 ∷ [];
      fixups = record { offset = 4; field = Both; target = target.Segment 3 } ∷ [];
    } ∷ []
stack_kept = refl

-- one common of a name, as long as its longest part
abbrev has_buf : ℕ → ℕ → ModuleValue
has_buf id size = record (of_code 0 [] []) {
  segments = (id, record { length = size; paged = false }) ∷ [];
  commons = record { id = id; name = 66 ∷ [] } ∷ [];
  contents = [];
}

one_common : linked_commons (has_buf 9 4 ∷ has_buf 7 16 ∷ []) ≡ record { id = 6; name = 66 ∷ [] } ∷ []
one_common = refl

longest : linked_length (has_buf 9 4 ∷ has_buf 7 16 ∷ []) 6 ≡ 16
longest = refl
