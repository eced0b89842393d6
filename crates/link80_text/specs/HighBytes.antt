-- The fixup that LINK can't move: of those that take the high byte of the place of a part which doesn't start at a multiple of
-- 256, the first. (ISIS-II User's Guide, LINK. That such fixups are refused is this project's own.)
use Rattle.std.specs.Prelude.{ℕ, if◌then◌else◌, Option, Some, None, List, [], ◌∷◌}
use Rattle.std.specs.List.{enumerate_from}
use Rattle.std.specs.Option.{option_or}
use Rattle.omf_model.specs.declared.fixup.Fixup.{Fixup}
use Rattle.omf_model.specs.declared.fixup.Target.{Target}
use Rattle.omf_model.specs.declared.fixup.Target.TheVariants as target
use Rattle.omf_model.specs.Contents.{ContentValue}
use Rattle.omf_model.specs.Modules.{ModuleValue}
use Rattle.link80.specs.Linked.{moved}
use Rattle.link80.specs.LinkFault.{is_high_off_page}
use Rattle.link80_text.specs.declared.causes.high_bytes.HighByte.{HighByte}

-- the first value that the elements of a list give
abbrev pub first_given : {X Y : Type 0} → (X → Option Y) → List X → Option Y
first_given f [] = None
first_given f (x ∷ xs) = option_or (f x) (first_given f xs)

-- the segment that a fixup refers to
abbrev pub target_segment : Target → ℕ
target_segment (target.Segment id) = id
target_segment (target.External index) = 0

-- where it stands in its module, and where the module's part of the segment that it refers to starts in the linked segment
abbrev pub high_byte : List ModuleValue → ℕ → ContentValue → Fixup → HighByte
high_byte modules number c f = record {
  source = number;
  segment = c.segment;
  offset = f.offset;
  target = target_segment f.target;
  start = moved modules number (target_segment f.target) 0;
}

abbrev pub high_of_fixup : List ModuleValue → ℕ → ContentValue → Fixup → Option HighByte
high_of_fixup modules number c f = if is_high_off_page modules number f then Some (high_byte modules number c f) else None

-- the first of a content
abbrev pub high_of_content : List ModuleValue → ℕ → ContentValue → Option HighByte
high_of_content modules number c = first_given (high_of_fixup modules number c) c.fixups

-- of a module with its number
abbrev pub high_of_module : List ModuleValue → ℕ × ModuleValue → Option HighByte
high_of_module modules m = first_given (high_of_content modules m.0) m.1.contents

-- and of all modules
abbrev pub first_high : List ModuleValue → Option HighByte
first_high modules = first_given (high_of_module modules) (enumerate_from 0 modules)
