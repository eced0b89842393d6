-- The tables behind a promise: each of their states stands at an instruction of the image, and what that makes of it is covered where it leads. (This project's
-- own.)
use Rattle.std.specs.Prelude.{◌≡◌, ◌≤◌, ◌+◌, ℕ, Bool, true, false, List, All}
use Rattle.image80.specs.Image.{Located}
use Rattle.verify80_states.specs.Marks.{is_marked}
use Rattle.verify80_follow.specs.declared.{fit.Fit.Fit, fit.Table.Table, handling.Around.Around, handling.Handler.Handler}
use Rattle.verify80_follow.specs.{Follows.Fitting, Follows.Follows, Follows.fitting, Follows.ways_of, Handling.IsHandled, Live.PromiseOfLive}
use Rattle.verify80_follow.specs.{Live.handler_ways, Reaching.places_of}

-- what a fit holds
abbrev pub fitting_of : Fit → Fitting
fitting_of fit = fitting fit.program.now fit.interrupted (is_marked fit.quiet.now) fit.code.now (ways_of fit.ways.now fit.places.now) fit.listed.now fit.summaries.now fit.table.now fit.bytes

-- a program's table, with its summaries, follows its image, with no more bytes on the stack than STACK has; it believes of quiet addresses alone that
-- nobody else writes them
pub record IsFit (image : Located) (interrupted : Bool) (quiet : ℕ → Bool) (is_set : Bool) (table : Table) (handlers : List Handler) : Type 0 where
  pub marked : ℕ → Bool
  pub within : (at : ℕ) → marked at ≡ true → quiet at ≡ true
  pub follows : Follows image interrupted marked is_set (ways_of table.ways.items (places_of table handlers)) table.listed table.states.items table.bytes
  pub summaries : follows.summaries ≡ table.summaries.items
  pub room : table.bytes ≤ image.regions.stack.length

-- and each of its handlers' tables follows its handler, with no more bytes than `most` below the program's: what handlers write is none of what the program
-- believes
pub record AreFit (image : Located) (quiet written : ℕ → Bool) (is_set : Bool) (table : Table) (handlers : List Handler) (most : ℕ) : Type 0 where
  pub program : IsFit image true quiet is_set table handlers
  pub writes : ℕ → Bool
  pub inside : (at : ℕ) → writes at ≡ true → written at ≡ true
  pub apart : (at : ℕ) → program.marked at ≡ true → writes at ≡ false
  pub handled : All (IsHandled image table.states.items writes program.marked (places_of table handlers) table.listed most) handlers
  pub room : table.bytes + most ≤ image.regions.stack.length

-- what these tables promise on every live machine: only the handlers at the addresses answer interrupts, and they have no more bytes of stack
abbrev pub PromiseOfTables : Located → (quiet written : ℕ → Bool) → (is_set : Bool) → Table → List Handler → (answering : List ℕ) → (bytes : ℕ) → Type 0
PromiseOfTables image quiet written is_set table handlers answering bytes =
    PromiseOfLive image quiet is_set answering (places_of table handlers) table.ways.items table.listed table.bytes
    (record { written = written; bytes = bytes; ways = handler_ways handlers })

-- a handler's own table follows it beside what all handlers are held against
abbrev pub IsHandledAround : Located → Around → (quiet : ℕ → Bool) → Handler → Type 0
IsHandledAround image around quiet =
    IsHandled image around.main.now (is_marked around.writes.marks.now) quiet around.places.now around.listed.now around.most
