-- Frames by number, while more are added.
use Rattle.std.specs.Prelude.{◌≡◌, ◌<◌, ℕ, List, Some, length, slice_get}
use Rattle.std.proofs.Common.{subst, ◌∙◌}
use Rattle.std.proofs.lemmas.Option.{slice_get_within, slice_get-get_or, get_or_from_slice_get}
use Rattle.frames80.specs.StackFrame.{StackFrame, entry_frame}
use Rattle.frames80_interned.specs.Frames.{frame_at, IsFrame, StayNumbered}

pub stays_same : (frames : List StackFrame) → StayNumbered frames frames
stays_same frames = record { stays = λ id frame e. e }

pub stays_then : (a b c : List StackFrame) → StayNumbered a b → StayNumbered b c → StayNumbered a c
stays_then a b c first second = record { stays = λ id frame e. second.stays id frame (first.stays id frame e) }

-- a number that is there stays there, with its frame
module _ (old new : List StackFrame) (s : StayNumbered old new) (id : ℕ) (there : id < length old) where
  pub stays_there : id < length new
  stays_there = slice_get_within new id (frame_at old id) (s.stays id (frame_at old id) (slice_get-get_or old id entry_frame there))

  pub stays_at : frame_at new id ≡ frame_at old id
  stays_at = get_or_from_slice_get new id (frame_at old id) entry_frame (s.stays id (frame_at old id) (slice_get-get_or old id entry_frame there))

-- the frame of a number, and that frame where it is known
pub is_there : (frames : List StackFrame) (id : ℕ) (frame : StackFrame) → IsFrame frames id frame → slice_get frames id ≡ Some frame
is_there frames id frame is = slice_get-get_or frames id entry_frame is.there ∙ subst (λ (f : StackFrame). Some (frame_at frames id) ≡ Some f) is.is (λ _. Some (frame_at frames id))

-- the frame of a number that is there, before and after
pub is_at : (old new : List StackFrame) (id : ℕ) (frame : StackFrame) → StayNumbered old new → IsFrame old id frame → IsFrame new id frame
is_at old new id frame s is = record { there = stays_there old new s id is.there; is = stays_at old new s id is.there ∙ is.is }
