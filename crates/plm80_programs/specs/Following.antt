-- What `follow` prints of an image. (The lines of a program that is followed are those of the crates below; that where a search stopped is
-- printed alone, with status 1, is this project's own.)
use Rattle.std.specs.Prelude.{◌≡◌, ◌≢◌, ℕ, Bool, true, false, List, [], ◌∷◌, ◌++◌, Option, None, Some, All, codes, length, map, not}
use Rattle.text80.specs.Digits.{word_text}
use Rattle.omf_model.specs.declared.symbols.Public.{Public}
use Rattle.decode80.specs.declared.fetching.Fetched.{Fetched}
use Rattle.image80.specs.{declared.range.Range.Range, Image.Located}
use Rattle.image80_text.specs.NameText.{named_text}
use Rattle.verify80_stores.specs.{declared.stores.Stores.Stores, Boards.is_quiet}
use Rattle.verify80_follow.specs.{declared.fit.Table.Table, declared.handling.Handler.Handler, FollowText.bounds_lines}
use Rattle.verify80_follow.specs.{FollowText.live_lines, FollowText.ways_lines}
use Rattle.verify80_follow.specs.{Promise.PromiseOf, Reaching.AreFollowed, Reaching.AreListed, Reaching.AreStoresFollowed, Reaching.places_of}
use Rattle.verify80_follow.specs.Tables.{AreFit, IsFit, PromiseOfTables}
use Rattle.verify80_follow_search.specs.declared.stop.StopReason.{StopReason}
use Rattle.verify80_follow_search.specs.declared.stop.StopReason.TheVariants.{FetchOutside, UnusedOpcode, EnablesInterrupts, DirectStore, StackNotSet}
use Rattle.verify80_follow_search.specs.declared.stop.StopReason.TheVariants.{LeavesStack, UnknownReturn, UnknownJump, UnknownPointer, NotGivenBack}
use Rattle.verify80_follow_search.specs.declared.stop.StopReason.TheVariants.{EnablesEarly, UsesPointer, StoresQuiet, NoRoom, TooManyStates, Unfit}
use Rattle.board80.specs.declared.line.Line.{Line}
use Rattle.plm80_boards.specs.{Boards.AreInterruptsIn, Boards.interrupts_in, Quiet.AreInRam}
use Rattle.plm80_console.specs.{Answer.AnswerValue, Answer.prints, Journal.FileValue, Ranges.AreRangesOf}
use Rattle.plm80_names.specs.{Verdict.AnswersProgram, Arguments.asks_names}
use Rattle.plm80_programs.specs.declared.finding.Followed.{Followed}
use Rattle.plm80_programs.specs.declared.finding.Followed.TheVariants.{By, Stopped}
use Rattle.plm80_programs.specs.declared.finding.FollowedAll.{FollowedAll}
use Rattle.plm80_programs.specs.declared.finding.FollowedAll.TheVariants.{Alone, Live, Stopped as StoppedAll}
use Rattle.plm80_programs.specs.declared.finding.LiveTables.{LiveTables}
use Rattle.plm80_programs.specs.declared.follow.FollowArguments.{FollowArguments}
use Rattle.plm80_programs.specs.{Followed.code_lines, Printed.IsAllData, Printed.stores_lines}

-- the lines of a table that follows a program: what is said of its states and its stack, its stores and jumps with what all that rests on, and its ways
abbrev pub followed_lines : (first : List ℕ) → (quiet : List Range) → Located → List Public → Table → List Handler → Stores → List ℕ
followed_lines first quiet image publics table handlers stores =
    first ++ (stores_lines quiet image publics stores ++ named_text image.regions.code publics (codes "WAY ") (ways_lines table.ways.items handlers))

-- why a search stopped
abbrev pub reason_words : StopReason → List ℕ
reason_words FetchOutside = codes "FETCH OUTSIDE"
reason_words UnusedOpcode = codes "UNUSED OPCODE"
reason_words EnablesInterrupts = codes "INTERRUPTS ENABLED"
reason_words DirectStore = codes "STORE OUTSIDE"
reason_words StackNotSet = codes "SP NOT SET"
reason_words LeavesStack = codes "STACK LEFT"
reason_words UnknownReturn = codes "RETURN UNKNOWN"
reason_words UnknownJump = codes "JUMP UNKNOWN"
reason_words UnknownPointer = codes "SP UNKNOWN"
reason_words NotGivenBack = codes "NOT GIVEN BACK"
reason_words EnablesEarly = codes "ENABLED EARLY"
reason_words UsesPointer = codes "SP USED"
reason_words StoresQuiet = codes "QUIET STORED"
reason_words NoRoom = codes "NO ROOM"
reason_words TooManyStates = codes "TOO MANY STATES"
reason_words Unfit = codes "UNFIT"

-- where it stopped
abbrev pub stopped_line : (at : ℕ) → StopReason → List ℕ
stopped_line at reason = codes "STOPPED " ++ (word_text at ++ 32 ∷ (reason_words reason ++ 10 ∷ []))

-- a table keeps its promise: on every board whose devices, and whose handlers if the program is interrupted, leave the quiet addresses as they are; each of
-- its states is covered where it leads; and what it leaves open is listed by address, at places of the program
abbrev pub KeepsPromise : (interrupted : Bool) → (quiet : List Range) → Located → Table → (is_set : Bool) → Type 0
KeepsPromise interrupted quiet image table is_set =
    PromiseOf interrupted image (is_quiet image.regions quiet) is_set (places_of table []) table.ways.items table.listed table.bytes
    × (IsFit image interrupted (is_quiet image.regions quiet) is_set table [] × AreListed image (places_of table []) table.listed)

-- one that is found does
abbrev pub IsFollowedBy : (interrupted : Bool) → (quiet : List Range) → Located → Followed → Type 0
IsFollowedBy interrupted quiet image (By table is_set) = KeepsPromise interrupted quiet image table is_set
IsFollowedBy interrupted quiet image (Stopped stop) = Unit {0}

-- and with tables of its handlers, on every live machine with these: they write no data but that which is said, and have no more bytes of stack
abbrev pub KeepsWith : (quiet : List Range) → Located → LiveTables → (handlers : List ℕ) → (most : ℕ) → Type 0
KeepsWith quiet image found =
    PromiseOfTables image (is_quiet image.regions quiet) (is_quiet image.regions found.writes.items) found.is_set found.table found.handlers.items

-- with all of them, and with each alone, which has no more than its own table has
abbrev pub KeepsLivePromise : (quiet : List Range) → Located → LiveTables → Type 0
KeepsLivePromise quiet image found = KeepsWith quiet image found (map (λ handler. handler.at) found.handlers.items) found.most
    × (All (λ handler. KeepsWith quiet image found (handler.at ∷ []) handler.table.bytes) found.handlers.items
    × (AreFit image (is_quiet image.regions quiet) (is_quiet image.regions found.writes.items) found.is_set found.table found.handlers.items found.most
    × AreListed image (places_of found.table found.handlers.items) found.table.listed))

abbrev pub IsFollowedAllBy : (interrupted : Bool) → (handlers : List ℕ) → (quiet : List Range) → Located → FollowedAll → Type 0
IsFollowedAllBy interrupted handlers quiet image (Alone table is_set) = (handlers ≡ []) × KeepsPromise interrupted quiet image table is_set
IsFollowedAllBy interrupted handlers quiet image (Live found) = (handlers ≢ []) × ((map (λ handler. handler.at) found.handlers.items ≡ handlers) × KeepsLivePromise quiet image found)
IsFollowedAllBy interrupted handlers quiet image (StoppedAll stop) = Unit {0}

-- the code to which a program may come that a table follows, if it is listed
abbrev pub listing_lines : (lists : Bool) → Located → List Public → (reached : List (Option Fetched)) → List ℕ
listing_lines true image publics reached = code_lines image publics reached
listing_lines false image publics reached = []

-- what is printed of a table behind its first lines, with that of its handlers
pub record PrintsTable (first : List ℕ) (quiet : List Range) (lists : Bool) (image : Located) (publics : List Public) (table : Table) (handlers : List Handler) (is_set : Bool) (answer : AnswerValue) : Type 0 where
  pub stores : Stores
  pub reached : List (Option Fetched)
  pub are_reached : AreFollowed image (places_of table handlers) reached
  pub are_stores : AreStoresFollowed table.listed (not is_set) reached stores
  pub is : answer ≡ prints (followed_lines first quiet image publics table handlers stores ++ listing_lines lists image publics reached) 0

-- the first lines of a table without handlers
abbrev pub first_lines : (interrupted : Bool) → Located → Table → List ℕ
first_lines interrupted image table = bounds_lines interrupted (length table.states.items) table.bytes image.regions.stack.length

-- and of tables with handlers
abbrev pub first_live_lines : Located → List Public → LiveTables → List ℕ
first_live_lines image publics found = named_text image.regions.code publics (codes "HANDLER ")
    (live_lines found.handlers.items found.writes.items (length found.table.states.items) found.table.bytes image.regions.stack.length found.most)

-- The lines of a program that is followed are printed only if its promise is kept; of where a search stopped nothing is promised.
pub data SaysFollowed (quiet : List Range) (interrupted : Bool) (handlers : List ℕ) (lists : Bool) (image : Located) (publics : List Public) (answer : AnswerValue) : Type 0 where
  followed : (table : Table) (is_set : Bool) → handlers ≡ [] → KeepsPromise interrupted quiet image table is_set →
      PrintsTable (first_lines interrupted image table) quiet lists image publics table [] is_set answer → SaysFollowed quiet interrupted handlers lists image publics answer
  live : (found : LiveTables) → handlers ≢ [] → map (λ handler. handler.at) found.handlers.items ≡ handlers → KeepsLivePromise quiet image found →
      PrintsTable (first_live_lines image publics found) quiet lists image publics found.table found.handlers.items found.is_set answer →
      SaysFollowed quiet interrupted handlers lists image publics answer
  stopped : (at : ℕ) (reason : StopReason) →
      answer ≡ prints (named_text image.regions.code publics (codes "STOPPED ") (stopped_line at reason)) 1 → SaysFollowed quiet interrupted handlers lists image publics answer

-- the quiet ranges are data, and it is said how the program is followed
pub record PrintsFollowed (quiet : List Range) (interrupted : Bool) (handlers : List ℕ) (lists : Bool) (image : Located) (publics : List Public) (answer : AnswerValue) : Type 0 where
  pub are_data : All (IsAllData image.regions) quiet
  pub says : SaysFollowed quiet interrupted handlers lists image publics answer

-- the same with quiet RAM of a board
pub record PrintsWithRam (board : List Line) (interrupted : Bool) (handlers : List ℕ) (lists : Bool) (image : Located) (publics : List Public) (answer : AnswerValue) : Type 0 where
  pub quiet : List Range
  pub ram : AreInRam board image.regions quiet
  pub prints_followed : PrintsFollowed quiet interrupted handlers lists image publics answer

-- the same with the ranges that are named, or on a board with RAM of it
abbrev pub PrintsFollowedOn : Option (List Line) → (named : List Range) → (interrupted : Bool) → (handlers : List ℕ) → (lists : Bool) → Located → List Public → AnswerValue → Type 0
PrintsFollowedOn None named interrupted handlers lists image publics answer = PrintsFollowed named interrupted handlers lists image publics answer
PrintsFollowedOn (Some board) named interrupted handlers lists image publics answer = PrintsWithRam board interrupted handlers lists image publics answer

-- the same of two files, with the ranges and the addresses that the options write, or those of the board
pub record AnswersFollowing (arguments : FollowArguments) (board : Option (List Line)) (files : List FileValue) (answer : AnswerValue) : Type 0 where
  pub named : List Range
  pub addresses : List ℕ
  pub written : AreRangesOf (map (λ range. range.now) arguments.quiet.items) named
  pub handlers_written : AreInterruptsIn board arguments.handlers.items
  pub handlers : interrupts_in board arguments.handlers.items ≡ addresses
  pub is : AnswersProgram (PrintsFollowedOn board named arguments.interrupted addresses arguments.lists) (asks_names arguments.files) files answer
