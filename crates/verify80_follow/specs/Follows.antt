-- A table of states that follows a program: the start is in it, and wherever an instruction leads from a state, what it makes of the state is covered
-- there. There are no procedures: a call pushes a number, and a return goes to the number that the state knows. If the program is interrupted, a HLT at
-- which interrupts may come leads on. (This project's own.)
use Rattle.std.specs.Prelude.{◌≡◌, ◌≤◌, ◌⊎◌, ◌+◌, ℕ, Bool, true, false, List, [], ◌∷◌, ◌++◌, All, Any, Contains, Option, None, Some, Ok, IfSome, IsSome, length, map, slice_get}
use Rattle.std.specs.{List.flat_map, Option.option_map}
use Rattle.decode80.specs.{declared.condition.Condition.Condition, declared.fetching.Fetched.Fetched, declared.flow.Flow.Flow, Facts.flow}
use Rattle.decode80.specs.declared.flow.Flow.TheVariants.{Jumps, JumpsIf, JumpsToHl, Calls, CallsIf, Returns, ReturnsIf, Halts}
use Rattle.decode80.specs.declared.instr.Instr.{Instr}
use Rattle.decode80.specs.declared.instr.Instr.TheVariants.{Dad, Ei, Lxi, Sphl}
use Rattle.decode80.specs.declared.pair.Pair.TheVariants.{Sp}
use Rattle.image80.specs.{Image.Located, Image.memory_of, Regions.Areas, Regions.in_data}
use Rattle.verify80.specs.{LookLaws.fetch_at, Looking.declared_targets, Looking.halt_follows, Looking.is_declared, Looking.is_pchl, Looking.stores_in_data}
use Rattle.verify80_spans.specs.declared.byte_span.ByteSpan.{ByteSpan}
use Rattle.verify80_spans.specs.declared.span.Span.{Span}
use Rattle.verify80_spans.specs.Span.{Within, ByteWithin, IsInside, any_byte, byte_alone, is_alone}
use Rattle.verify80_states.specs.{declared.states.known.Known.Known, Known.IsKnownInside, Known.IsQuietKnown, Known.cut, Known.nothing_known, Given.given, Following.known_after, Steps.AreCodeBytes}
use Rattle.verify80_stores.specs.Opening.{pointer_span}
use Rattle.verify80_follow.specs.declared.{calls.Summary.Summary, held.Beside.Beside, stack.StackBounds.StackBounds, followed.FollowedState.FollowedState, followed.Listed.Listed, followed.Way.Way}
use Rattle.verify80_follow.specs.Held.{IsBesideInside, beside_then, count_of, nothing_beside}
use Rattle.verify80_follow.specs.Stack.{IsStackInside, bounds_of, return_address, stack_then, top_of_stack}

-- the bytes of a state's stack
abbrev pub stack_of : FollowedState → Option (List ByteSpan)
stack_of s = option_map (λ bytes. bytes.items) s.stack

-- the table has a state at an address that says no more than this, and at which interrupts may come if they may
pub record Has (table : List FollowedState) (to : ℕ) (known : Known) (beside : Beside) (stack : Option (List ByteSpan)) : Type 0 where
  pub place : ℕ
  pub state : FollowedState
  pub there : slice_get table place ≡ Some state
  pub at : state.at ≡ to
  pub inside : IsKnownInside [] known state.known
  pub besides : IsBesideInside beside state.beside
  pub stacked : IsStackInside stack (stack_of state)

-- states at an address that together say no more than this: one of them, or one for each byte that A may be
pub record Covers (table : List FollowedState) (to : ℕ) (known : Known) (beside : Beside) (stack : Option (List ByteSpan)) : Type 0 where
  pub either : Has table to known beside stack ⊎ ((byte : ℕ) → ByteWithin known.a byte → Has table to (cut known (byte_alone byte)) beside stack)

-- what an instruction does depends on where the stack lies
abbrev pub uses_pointer : Instr → Bool
uses_pointer (Lxi Sp _) = true
uses_pointer (Dad Sp) = true
uses_pointer Sphl = true
uses_pointer _ = false

-- whether an instruction calls
abbrev pub is_call : Flow → Bool
is_call (Calls to) = true
is_call (CallsIf condition to) = true
is_call w = false

-- whether an instruction returns
abbrev pub is_return : Flow → Bool
is_return Returns = true
is_return (ReturnsIf condition) = true
is_return w = false

-- where returns go: by ways that are listed, or behind calls at places where states stand
pub record Ways : Type 0 where
  pub listed : List Way
  pub places : List ℕ

abbrev pub ways_of : List Way → (places : List ℕ) → Ways
ways_of listed places = record { listed = listed; places = places }

-- a table of states with what it is fitted to: a program and its code, whether that is interrupted, the quiet addresses, where returns go, what may be left
-- open, and summaries of procedures; and how many bytes the stack has, at most
pub record Fitting : Type 0 where
  pub image : Located
  pub interrupted : Bool
  pub quiet : ℕ → Bool
  pub code : List (Option ℕ)
  pub ways : Ways
  pub listed : Listed
  pub summaries : List Summary
  pub table : List FollowedState
  pub bytes : ℕ

abbrev pub fitting : Located → (interrupted : Bool) → (quiet : ℕ → Bool) → List (Option ℕ) → Ways → Listed → List Summary → List FollowedState → (bytes : ℕ) → Fitting
fitting image interrupted quiet code ways listed summaries table bytes =
    record { image = image; interrupted = interrupted; quiet = quiet; code = code; ways = ways; listed = listed; summaries = summaries; table = table; bytes = bytes }

-- one of the places has a call that returns to an address
pub record IsBehindCall (image : Located) (places : List ℕ) (to : ℕ) : Type 0 where
  pub at : ℕ
  pub placed : Contains places at
  pub found : Fetched
  pub fetched : fetch_at image.regions (memory_of image.chunks) at ≡ Ok found
  pub calls : is_call (flow found.instr) ≡ true
  pub next : found.next ≡ to

-- a return, or a PCHL without declared targets, goes behind a call, or its way is listed
abbrev pub IsWay : Located → Ways → (at to : ℕ) → Type 0
IsWay image ways at to = IsBehindCall image ways.places to ⊎ Contains ways.listed (record { at = at; to = to })

-- the same of what is left of a stack, if something is, which has no more bytes than these
pub record CoversStack (table : List FollowedState) (bytes to : ℕ) (known : Known) (beside : Option (List ByteSpan) → Beside) (after : Option (Option (List ByteSpan))) : Type 0 where
  pub stack : Option (List ByteSpan)
  pub is : after ≡ Some stack
  pub depth : IfSome stack (λ left. length left ≤ bytes)
  pub covers : Covers table to known (beside stack) stack

-- what an instruction makes of what is left of a state, if something is, is covered where it leads
module _ (bounds : StackBounds) (fit : Fitting) (s : FollowedState) (found : Fetched) where
  abbrev pub CoversThen : (taken : Bool) → (to : ℕ) → Known → Type 0
  CoversThen taken to known = CoversStack fit.table fit.bytes to (known_after fit.code found.instr (top_of_stack bounds (stack_of s)) known) (λ stack. beside_then found.instr (stack_of s) stack s.beside)
      (stack_then bounds found.instr taken found.next known (stack_of s))

  abbrev pub LeadsTo : (taken : Bool) → (to : ℕ) → Option Known → Type 0
  LeadsTo taken to left = IfSome left (λ known. CoversThen taken to known)

  -- of an instruction under a condition, as far as something is left with the condition and without it
  abbrev pub LeadsIf : Condition → (to : ℕ) → Type 0
  LeadsIf condition to = LeadsTo true to (given condition true s.known) × LeadsTo false found.next (given condition false s.known)

  -- a return that is taken goes where the state knows
  pub record ReturnsTo (known : Known) : Type 0 where
    pub stacked : List ByteSpan
    pub stack : stack_of s ≡ Some stacked
    pub to : ℕ
    pub is : return_address stacked ≡ Some to
    pub way : IsWay fit.image fit.ways s.at to
    pub leads : CoversThen true to known

  abbrev pub ReturnsLeft : Option Known → Type 0
  ReturnsLeft left = IfSome left (λ known. ReturnsTo known)

  -- a PCHL goes to each declared target that HL may be; if none are declared, HL is known
  pub record JumpsByNumber : Type 0 where
    pub alone : is_alone s.known.hl.words ≡ true
    pub way : IsWay fit.image fit.ways s.at s.known.hl.words.first
    pub leads : CoversThen false s.known.hl.words.first s.known

  abbrev pub JumpsBy : (declared : Bool) → Type 0
  JumpsBy false = JumpsByNumber
  JumpsBy true = (to : ℕ) → Contains (declared_targets fit.image.regions s.at) to → Within s.known.hl.words to → CoversThen false to s.known

  -- a HLT is left as it was come to, if the program is interrupted and interrupts may come
  abbrev pub LeavesHalt : Type 0
  LeavesHalt = fit.interrupted ≡ true → s.beside.is_enabled ≡ true → Covers fit.table found.next s.known s.beside (stack_of s)

  abbrev pub FollowsBy : Flow → Type 0
  FollowsBy (Jumps to) = LeadsTo false to (Some s.known)
  FollowsBy (JumpsIf condition to) = LeadsIf condition to
  FollowsBy JumpsToHl = JumpsBy (is_declared fit.image.regions s.at)
  FollowsBy (Calls to) = LeadsTo true to (Some s.known)
  FollowsBy (CallsIf condition to) = LeadsIf condition to
  FollowsBy Returns = ReturnsLeft (Some s.known)
  FollowsBy (ReturnsIf condition) = ReturnsLeft (given condition true s.known) × LeadsTo false found.next (given condition false s.known)
  FollowsBy Halts = LeavesHalt
  FollowsBy w = LeadsTo false found.next (Some s.known)

-- an instruction of the image is inside the code, stores directly to data alone, and if the program isn't interrupted it is no EI but one that a HLT
-- follows
pub record IsExecuted (image : Located) (interrupted : Bool) (at : ℕ) (found : Fetched) : Type 0 where
  pub fetched : fetch_at image.regions (memory_of image.chunks) at ≡ Ok found
  pub stores : stores_in_data image.regions found.instr ≡ true
  pub halts : interrupted ≡ false → found.instr ≡ Ei → halt_follows image.regions (memory_of image.chunks) at ≡ true

-- a store by a pair goes to data in a state, or it is listed with the state's addresses; and a PCHL with declared targets goes to one of them, or
-- it is listed
pub record IsShownOrListed (regions : Areas) (listed : Listed) (instr : Instr) (s : FollowedState) : Type 0 where
  pub stores : (span : Span) → pointer_span instr s.known ≡ Some span →
      ((address : ℕ) → Within span address → in_data regions address ≡ true) ⊎ Any (λ store. (store.at ≡ s.at) × IsInside span store.span) listed.stores.items
  pub jumps : is_pchl instr ≡ true → is_declared regions s.at ≡ true →
      ((to : ℕ) → Within s.known.hl.words to → Contains (declared_targets regions s.at) to) ⊎ Contains listed.jumps.items s.at

-- an instruction may be executed in a state; an interrupted program lets interrupts in only once SP is set
pub record MayStand (fit : Fitting) (instr : Instr) (s : FollowedState) : Type 0 where
  pub serves : fit.interrupted ≡ true → instr ≡ Ei → IsSome (stack_of s)
  pub shown : IsShownOrListed fit.image.regions fit.listed instr s
  pub depth : IfSome (stack_of s) (λ stack. length stack ≤ fit.bytes)
  pub knows : IsQuietKnown fit.quiet s.known

-- a state stands at an instruction of the image that may be executed there
pub record StateStands (fit : Fitting) (s : FollowedState) : Type 0 where
  pub found : Fetched
  pub executed : IsExecuted fit.image fit.interrupted s.at found
  pub may : MayStand fit found.instr s

-- a state fits: what its instruction makes of it is covered where that leads
pub record StateFollows (bounds : StackBounds) (fit : Fitting) (s : FollowedState) : Type 0 where
  pub stands : StateStands fit s
  pub follows : FollowsBy bounds fit s stands.found (flow stands.found.instr)

-- where an instruction calls
abbrev pub called : Flow → Option ℕ
called (Calls to) = Some to
called (CallsIf condition to) = Some to
called w = None

-- behind a call that is stepped over only the stack is known, and where on it the caller's own return address is; and interrupts may come there
abbrev pub beside_call : Option ℕ → Beside
beside_call back = record nothing_beside { is_enabled = true; back = back }

-- the stack where a summary or a handler begins: the word at SP is the address to which it returns
abbrev pub entered_stack : Option (List ByteSpan)
entered_stack = Some (any_byte ∷ any_byte ∷ [])

module _ (bounds : StackBounds) (fit : Fitting) (s : FollowedState) where
  -- a call or return under a condition is covered behind it, as far as something is left without the condition
  abbrev pub PassesBy : Fetched → Flow → Type 0
  PassesBy found (CallsIf condition to) = LeadsTo bounds fit s found false found.next (given condition false s.known)
  PassesBy found (ReturnsIf condition) = LeadsTo bounds fit s found false found.next (given condition false s.known)
  PassesBy found w = Unit {0}

  -- a call is stepped over: there is a summary of what it calls, room for that, and behind the call a state that knows the stack alone
  pub record StepsOver : Type 0 where
    pub stands : StateStands fit s
    pub summary : Summary
    pub among : Contains fit.summaries summary
    pub calls : called (flow stands.found.instr) ≡ Some summary.at
    pub stack : List ByteSpan
    pub is : stack_of s ≡ Some stack
    pub room : length stack + summary.bytes ≤ fit.bytes
    pub behind : Has fit.table stands.found.next nothing_known (beside_call s.beside.back) (Some stack)
    pub passes : PassesBy stands.found (flow stands.found.instr)

  -- a summary's procedure returns: only the address to which it returns is on the stack
  pub record ReturnsBack : Type 0 where
    pub stands : StateStands fit s
    pub returns : is_return (flow stands.found.instr) ≡ true
    pub back : s.beside.back ≡ Some 2
    pub alone : count_of (stack_of s) ≡ 2
    pub passes : PassesBy stands.found (flow stands.found.instr)

  -- a state fits, or its call is stepped over
  abbrev pub Goes : Type 0
  Goes = StateFollows bounds fit s ⊎ StepsOver

  -- a state of a summary: it doesn't depend on where the stack lies, has at least the address to which the procedure returns on its stack, and goes as
  -- any does or returns
  pub record Summarizes : Type 0 where
    pub enough : 2 ≤ count_of (stack_of s)
    pub few : count_of (stack_of s) ≤ fit.bytes
    pub fixed : (found : Fetched) → fetch_at fit.image.regions (memory_of fit.image.chunks) s.at ≡ Ok found → uses_pointer found.instr ≡ false
    pub goes : ReturnsBack ⊎ Goes

-- a summary's table, fitted to what the program's is
abbrev pub summary_fitting : Fitting → Summary → Fitting
summary_fitting fit summary = record fit { table = summary.states.items; bytes = summary.bytes }

-- a summary's table follows its procedure from where that is entered, with no more bytes on the stack than the summary says
pub record FitsSummary (fit : Fitting) (summary : Summary) : Type 0 where
  pub bounds : StackBounds
  pub room : bounds.length ≤ summary.bytes
  pub start : Has summary.states.items summary.at nothing_known (beside_call (Some 2)) entered_stack
  pub states : All (Summarizes bounds (summary_fitting fit summary)) summary.states.items

-- the stack at the image's start: empty if the pointer is at its top, or not set
abbrev pub first_stack : (is_set : Bool) → Option (List ByteSpan)
first_stack true = Some []
first_stack false = None

-- a table follows an image, with summaries of procedures that calls step over, and no more bytes on the stack than these
pub record Follows (image : Located) (interrupted : Bool) (quiet : ℕ → Bool) (is_set : Bool) (ways : Ways) (listed : Listed) (table : List FollowedState) (bytes : ℕ) : Type 0 where
  pub code : List (Option ℕ)
  pub are_code : AreCodeBytes image code
  pub start : Has table image.start nothing_known nothing_beside (first_stack is_set)
  pub summaries : List Summary
  pub states : All (Goes (bounds_of image) (fitting image interrupted quiet code ways listed summaries table bytes)) table
  pub fit : All (FitsSummary (fitting image interrupted quiet code ways listed summaries table bytes)) summaries

-- where the states of a table stand, and those of its summaries
abbrev pub places_among : List FollowedState → List Summary → List ℕ
places_among states summaries = map (λ s. s.at) states ++ flat_map (λ summary. map (λ s. s.at) summary.states.items) summaries
