-- Where the parts of CODE, DATA and STACK start, for all modules at once.
-- (ISIS-II User's Guide, LINK.)
use Rattle.std.specs.Prelude.{◌≡◌, ℕ, ◌+◌, nat_le, if◌then◌else◌, Option, Some, None, List}
use Rattle.omf_core.specs.SegmentId.{code_id, data_id, stack_id}
use Rattle.omf_model.specs.declared.segment.Segment.{Segment}
use Rattle.omf_model.specs.Modules.{ModuleValue}
use Rattle.omf_model.specs.Place.{rounded, starts_from}
use Rattle.link80.specs.Linked.{parts_end}
use Rattle.link80.specs.LinkFault.{segment_too_long}

-- the starts of the parts of one segment, by module, and the end of the last
pub record LaidOutValue : Type 0 where
  pub starts : List ℕ
  pub end : ℕ

abbrev pub laid_out : List ModuleValue → ℕ → LaidOutValue
laid_out modules id = record { starts = starts_from id 0 modules; end = parts_end id 0 modules }

-- the start and the end of a part after what lies before, if it ends at a word
abbrev pub next_part : ℕ → Segment → Option (ℕ × ℕ)
next_part before s =
    let start = rounded s.paged before in if nat_le (start + s.length) 65535 then Some (start, start + s.length) else None

-- the parts of CODE, DATA and STACK of these modules, each ending at a word
pub record AreLaid (modules : List ModuleValue) (code variables stack : LaidOutValue) : Type 0 where
  pub code_is : code ≡ laid_out modules code_id
  pub variables_are : variables ≡ laid_out modules data_id
  pub stack_is : stack ≡ laid_out modules stack_id
  pub fit : segment_too_long modules ≡ None
