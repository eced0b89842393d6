-- The words of two stacks that meet, from the top down to a stack that lies in both. (This project's own.)
use Rattle.std.specs.Prelude.{◌≡◌, ◌<◌, Bool, false, List, ◌++◌, length}
use Rattle.frames80.specs.declared.word.Word.{Word}
use Rattle.frames80.specs.Calls.{words_met}
use Rattle.frames80_interned.specs.declared.meets.Meeting.{Meeting}
use Rattle.frames80_interned.specs.Stacks.{words_at}

-- what is known when the tops of two lists have met, and these words are left of both
pub record IsWalk (one other met : List Word) (changed : Bool) (rest beside : List Word) : Type 0 where
  pub even : length rest ≡ length beside
  pub met_so_far : words_met one other ≡ met ++ words_met rest beside
  pub unchanged : changed ≡ false → words_met rest beside ≡ rest → words_met one other ≡ one
  pub same : words_met one other ≡ one → changed ≡ false
  pub same_rest : words_met one other ≡ one → words_met rest beside ≡ rest

-- and when all have met
pub record IsMeeting (stacks : List (List Word)) (one other : List Word) (meeting : Meeting) : Type 0 where
  pub there : meeting.rest < length stacks
  pub met : words_met one other ≡ meeting.words.items ++ words_at stacks meeting.rest
  pub unchanged : meeting.changed ≡ false → words_met one other ≡ one
  pub same : words_met one other ≡ one → meeting.changed ≡ false
