-- Handlers: a table of states that follows one from where it is entered until it returns, wherever the stack is then, or until it begins the program
-- anew. (Intel 8080 Microcomputer Systems User's Manual, chapter 2: an interrupt pushes the program counter, as RST or CALL does. That a handler gives
-- all back, or sets SP to the stack's top, is this project's own.)
use Rattle.std.specs.Prelude.{◌≡◌, ◌⊎◌, ◌≤◌, ℕ, Bool, true, false, List, [], Option, None, Some, Ok, All, Contains}
use Rattle.decode80.specs.{Fetch.direct_bytes, declared.fetching.Fetched.Fetched}
use Rattle.decode80.specs.declared.instr.Instr.TheVariants.{Ei, Lxi, Ret}
use Rattle.decode80.specs.declared.pair.Pair.TheVariants.{Sp}
use Rattle.image80.specs.{Image.Located, Image.memory_of, Regions.in_data, Regions.top_of}
use Rattle.image80.specs.declared.range.Range.{Range}
use Rattle.verify80.specs.LookLaws.{fetch_at}
use Rattle.verify80_spans.specs.declared.{span.Span.Span}
use Rattle.verify80_spans.specs.Span.{Within}
use Rattle.verify80_states.specs.{Known.IsQuietKnown, Known.nothing_known, Steps.AreCodeBytes}
use Rattle.verify80_stores.specs.Opening.{pointer_span}
use Rattle.verify80_follow.specs.declared.handling.Handler.{Handler}
use Rattle.verify80_follow.specs.declared.{followed.FollowedState.FollowedState, followed.Listed.Listed, followed.Way.Way, held.Beside.Beside, held.HeldPair.HeldPair, stack.StackBounds.StackBounds}
use Rattle.verify80_follow.specs.{Follows.Fitting, Follows.Has, Follows.IsExecuted, Follows.StateFollows, Follows.Ways, Follows.entered_stack}
use Rattle.verify80_follow.specs.{Follows.stack_of, Follows.uses_pointer, Follows.fitting, Follows.ways_of, Held.count_of, Held.nothing_beside}

-- an image with another stack, of which a handler has a part
abbrev pub on_stack : Located → Range → Located
on_stack image range = record image { regions = record image.regions { stack = range } }

-- what a handler has where it is entered: all pairs, and the word at SP is the address to which it returns
abbrev pub entered_pair : HeldPair
entered_pair = record { in_place = true; saved = None }

abbrev pub entered_beside : Beside
entered_beside = record { is_enabled = false; psw = entered_pair; bc = entered_pair; de = entered_pair; hl = entered_pair; back = Some 2 }

-- a state gives all back: each pair is what it was, and on the stack is only the word to which the handler returns
pub record GivesBack (s : FollowedState) : Type 0 where
  pub psw : s.beside.psw.in_place ≡ true
  pub bc : s.beside.bc.in_place ≡ true
  pub de : s.beside.de.in_place ≡ true
  pub hl : s.beside.hl.in_place ≡ true
  pub back : s.beside.back ≡ Some 2
  pub alone : count_of (stack_of s) ≡ 2

-- the image has a RET at an address
pub record IsReturn (image : Located) (at : ℕ) : Type 0 where
  pub found : Fetched
  pub fetched : fetch_at image.regions (memory_of image.chunks) at ≡ Ok found
  pub returns : found.instr ≡ Ret

-- an instruction begins the program anew: it sets SP to the stack's top, and behind it the program's table has a state of which nothing is known
pub record BeginsAnew (image : Located) (main : List FollowedState) (found : Fetched) : Type 0 where
  pub sets : found.instr ≡ Lxi Sp (top_of image.regions)
  pub has : Has main found.next nothing_known nothing_beside (Some [])

-- a handler ends at a state: it returns with all given back, or begins the program anew
abbrev pub EndsAt : Located → (main : List FollowedState) → Fetched → FollowedState → Type 0
EndsAt image main found s = ((found.instr ≡ Ret) × GivesBack s) ⊎ BeginsAnew image main found

-- a state of a handler: the handler ends there, or the state fits as any does, and doesn't depend on where the stack lies. It has at least the word to which
-- the handler returns on its stack, lets interrupts in only directly before that returns, and stores only to data that handlers write.
pub record Handles (main : List FollowedState) (written : ℕ → Bool) (bounds : StackBounds) (fit : Fitting) (s : FollowedState) : Type 0 where
  pub found : Fetched
  pub executed : IsExecuted fit.image fit.interrupted s.at found
  pub enough : 2 ≤ count_of (stack_of s)
  pub few : count_of (stack_of s) ≤ fit.bytes
  pub lets : found.instr ≡ Ei → GivesBack s × IsReturn fit.image found.next
  pub direct : All (λ a. in_data fit.image.regions a ≡ true → written a ≡ true) (direct_bytes found.instr)
  pub knows : IsQuietKnown fit.quiet s.known
  pub pointed : (span : Span) → pointer_span found.instr s.known ≡ Some span → (a : ℕ) → Within span a → in_data fit.image.regions a ≡ true → written a ≡ true
  pub goes : EndsAt fit.image main found s ⊎ ((uses_pointer found.instr ≡ false) × StateFollows bounds fit s)

-- a handler's table with what it is fitted to; no call is stepped over there
abbrev pub handler_fitting : Located → (quiet : ℕ → Bool) → List (Option ℕ) → Ways → Listed → List FollowedState → (bytes : ℕ) → Fitting
handler_fitting image quiet code ways listed table bytes = fitting image true quiet code ways listed [] table bytes

-- a table follows the handler at an address, with no more bytes on the stack than these, the two of the interrupt among them
pub record HandlesAt (image : Located) (main : List FollowedState) (written : ℕ → Bool) (bounds : StackBounds) (quiet : ℕ → Bool) (ways : Ways) (listed : Listed) (table : List FollowedState) (bytes at : ℕ) : Type 0 where
  pub code : List (Option ℕ)
  pub are_code : AreCodeBytes image code
  pub start : Has table at nothing_known entered_beside entered_stack
  pub states : All (Handles main written bounds (handler_fitting image quiet code ways listed table bytes)) table

-- a handler's table, with its ways, which are among all of handlers, the bytes of stack that it has at most, and how its stack was bounded when it was
-- checked
pub record HandlerTable (image : Located) (main : List FollowedState) (written : ℕ → Bool) (quiet : ℕ → Bool) (all : List Way) (places : List ℕ) (listed : Listed) (most handler : ℕ) : Type 0 where
  pub table : List FollowedState
  pub ways : List Way
  pub bytes : ℕ
  pub bounds : StackBounds
  pub fits : HandlesAt image main written bounds quiet (ways_of ways places) listed table bytes handler
  pub few : bytes ≤ most
  pub room : bounds.length ≤ most
  pub among : (way : Way) → Contains ways way → Contains all way

-- the same, and each of the table's states stands at one of these places
pub record HandlesAmong (image : Located) (main : List FollowedState) (written : ℕ → Bool) (quiet : ℕ → Bool) (all : List Way) (places : List ℕ) (listed : Listed) (most handler : ℕ) : Type 0 where
  pub of : HandlerTable image main written quiet all places listed most handler
  pub placed : All (λ s. Contains places s.at) of.table

-- a handler's own table follows it, with no more bytes on the stack than it says, which are no more than these
pub record IsHandled (image : Located) (main : List FollowedState) (written : ℕ → Bool) (quiet : ℕ → Bool) (places : List ℕ) (listed : Listed) (most : ℕ) (handler : Handler) : Type 0 where
  pub of : HandlerTable image main written quiet handler.table.ways.items places listed handler.table.bytes handler.at
  pub states : of.table ≡ handler.table.states.items
  pub few : handler.table.bytes ≤ most
