-- The instructions that stand before an address, one after another. (Intel 8080 Microcomputer Systems User's Manual: where each
-- instruction goes on. That the way which stands before an address counts, and no jump to it, is this project's own.)
use Rattle.std.specs.Prelude.{◌≡◌, ◌⊎◌, ℕ, Bool, true, List, Option, None, Some, Result, Ok, Err}
use Rattle.decode80.specs.declared.fetching.Fetched.{Fetched}
use Rattle.decode80.specs.declared.fetching.FetchFault.{FetchFault}
use Rattle.decode80.specs.declared.instr.Instr.{Instr}
use Rattle.decode80.specs.declared.instr.Instr.TheVariants.{Jmp, JumpIf}
use Rattle.image80.specs.Image.{Located, memory_of}
use Rattle.verify80.specs.LookLaws.{fetch_at}
use Rattle.verify80_cases.specs.Marks.{marked}
use Rattle.verify80_cases.specs.Reach.{falls_to}

-- the address behind what was fetched, if it may go on there
abbrev pub behind_of : Result Fetched FetchFault → Option ℕ
behind_of (Err _) = None
behind_of (Ok found) = falls_to found.instr found.next

-- the instruction at an address is reached, and may go on to the one behind it
pub record GoesOn (image : Located) (reached : List Bool) (at next : ℕ) : Type 0 where
  pub is_reached : marked reached at ≡ true
  pub behind : behind_of (fetch_at image.regions (memory_of image.chunks) at) ≡ Some next

-- an instruction stands before an address: each from it on is reached, and may go on to the next one, up to the address
pub data StandsBefore (image : Located) (reached : List Bool) (place : ℕ) : ℕ → Type 0 where
  last : (at : ℕ) → GoesOn image reached place at → StandsBefore image reached place at
  earlier : (before at : ℕ) → StandsBefore image reached place before → GoesOn image reached before at → StandsBefore image reached place at

-- the address that what was fetched may jump to, if it is a jump
abbrev pub jumps_to : Result Fetched FetchFault → Option ℕ
jumps_to (Err _) = None
jumps_to (Ok found) = jumped found.instr
  where
    jumped : Instr → Option ℕ
    jumped (Jmp to) = Some to
    jumped (JumpIf _ to) = Some to
    jumped _ = None

-- an instruction leads to an address: it stands before it, or before a jump that is reached, to the address or to an instruction that stands
-- before it
pub data LeadsTo (image : Located) (reached : List Bool) (place at : ℕ) : Type 0 where
  stands : StandsBefore image reached place at → LeadsTo image reached place at
  jumps : (jump to : ℕ) → StandsBefore image reached place jump → marked reached jump ≡ true →
      jumps_to (fetch_at image.regions (memory_of image.chunks) jump) ≡ Some to → (to ≡ at) ⊎ StandsBefore image reached to at →
      LeadsTo image reached place at
