-- What `--why` says of instructions, of memory and of the search. (This project's own.)
use Rattle.std.specs.Prelude.{◌≡◌, ◌&&◌, ◌++◌, ℕ, Bool, true, false, not, List, All, IfSome, Option, None, Some, map}
use Rattle.decode80.specs.declared.{instr.Instr.Instr, pair.Pair.Pair, flow.Flow.Flow, storing.Storing.Storing}
use Rattle.decode80.specs.declared.flow.Flow.TheVariants.{JumpsIf, ReturnsIf}
use Rattle.decode80.specs.declared.instr.Instr.TheVariants.{Inx, Dcx}
use Rattle.decode80.specs.declared.pair.IndexPair.TheVariants.{Bc as IndexBc, De as IndexDe}
use Rattle.decode80.specs.declared.pair.Pair.TheVariants.{Bc, De, Hl}
use Rattle.decode80.specs.declared.storing.Storing.TheVariants.{Nowhere, Byte, Word, ThroughHl, Through}
use Rattle.decode80.specs.Facts.{flow, storing, writes, writes_pair}
use Rattle.frames80.specs.Code.{Code}
use Rattle.image80.specs.declared.range.Range.{Range}
use Rattle.image80.specs.{Image.Located, Regions.in_code, Regions.in_data}
use Rattle.verify80.specs.{Looking.code_of, Reached.IsReached}
use Rattle.verify80_proposals.specs.declared.search.SearchNotes.{SearchNotes}
use Rattle.verify80_states.specs.Marks.{is_marked}
use Rattle.verify80_stores.specs.declared.{causes.Cause.Cause, causes.Pointer.Pointer, causes.Setter.Setter, reasons.Reason.Reason, stores.OpenStore.OpenStore, stores.Stores.Stores}
use Rattle.verify80_stores.specs.declared.causes.Setter.TheVariants.{Instruction, Count, Nothing, Unseen}
use Rattle.verify80_stores.specs.declared.reasons.Reason.TheVariants.{NotQuiet, NotCode, UnknownEnd, TooManyStates, TooManyWays}
use Rattle.verify80_stores.specs.{Boards.is_quiet, Stores.IsReachedAs}

-- whether an instruction writes a pair, or a half of it
abbrev pub writes_to : Pair → Instr → Bool
writes_to pair instr = writes_pair (writes instr) pair

-- whether it counts a pair; and whether it counts this one, or sets it in another way
abbrev pub is_count : Instr → Bool
is_count (Inx _) = true
is_count (Dcx _) = true
is_count _ = false

abbrev pub counts : Pair → Instr → Bool
counts pair instr = writes_to pair instr && is_count instr

abbrev pub sets : Pair → Instr → Bool
sets pair instr = writes_to pair instr && not (is_count instr)

-- An instruction that sets a pair, or counts it, is one that a walk reaches. If nothing sets it, no walk reaches an instruction that writes
-- the pair, or a half of it. Of a setter that wasn't seen nothing is said.
abbrev pub IsSetBy : Code → Pair → Setter → Type 0
IsSetBy code pair (Instruction at) = IsReachedAs code (sets pair) at
IsSetBy code pair (Count at) = IsReachedAs code (counts pair) at
IsSetBy code pair Nothing = (at : ℕ) → IsReachedAs code (writes_to pair) at → ⊥
IsSetBy code pair Unseen = Unit {0}

-- whether a conditional jump or return stands somewhere
abbrev pub is_asking : Flow → Bool
is_asking (JumpsIf _ _) = true
is_asking (ReturnsIf _) = true
is_asking _ = false

abbrev pub asks : Instr → Bool
asks instr = is_asking (flow instr)

-- what was noted of the search by which the stores were found: that it joined states at an address, and that no state decides what is asked
-- there
abbrev pub is_joined : Option SearchNotes → ℕ → Bool
is_joined None at = false
is_joined (Some notes) at = is_marked notes.joined.items at

abbrev pub is_undecided : Option SearchNotes → ℕ → Bool
is_undecided None at = false
is_undecided (Some notes) at = is_marked notes.undecided.items at

-- a byte that isn't quiet is one of data outside the quiet ranges; one that isn't CODE is neither code nor data; a conditional jump or return
-- whose outcome isn't known is one that a walk reaches, and the search noted that no state decides it; a walk reaches an address with too
-- many states, and the search noted that it joined some there; there are too many ways to follow if the search noted nothing
abbrev pub IsSo : Located → (quiet : List Range) → (search : Option SearchNotes) → Reason → Type 0
IsSo image quiet search (NotQuiet at) = (in_data image.regions at ≡ true) × (is_quiet image.regions quiet at ≡ false)
IsSo image quiet search (NotCode at) = (in_code image.regions at ≡ false) × (in_data image.regions at ≡ false)
IsSo image quiet search (UnknownEnd at) = IsReachedAs (code_of image) asks at × (is_undecided search at ≡ true)
IsSo image quiet search (TooManyStates at) = IsReached (code_of image) at × (is_joined search at ≡ true)
IsSo image quiet search TooManyWays = search ≡ None

-- what a cause says of its pair is so
pub record IsCause (image : Located) (quiet : List Range) (search : Option SearchNotes) (cause : Cause) : Type 0 where
  pub setter : IsSetBy (code_of image) cause.pointer.pair cause.setter
  pub reason : IfSome cause.reason (IsSo image quiet search)

-- the pair by which a store goes: if by none, HL stands for it
abbrev pub pair_through : Storing → Pair
pair_through (Through IndexBc) = Bc
pair_through (Through IndexDe) = De
pair_through ThroughHl = Hl
pair_through Nowhere = Hl
pair_through (Byte _) = Hl
pair_through (Word _) = Hl

unfoldable pub pointer_of : OpenStore → Pointer
pointer_of store = record { at = store.at; pair = pair_through (storing store.instr) }

abbrev pub jump_pointer : ℕ → Pointer
jump_pointer at = record { at = at; pair = Hl }

-- the pairs of the open stores, in their order, and behind them those of the open jumps
abbrev pub pointers_of : List OpenStore → (jumps : List ℕ) → List Pointer
pointers_of open_stores jumps = map pointer_of open_stores ++ map jump_pointer jumps

-- the causes of open stores and jumps: one for each, in turn, and of that one alone
pub record AreCauses (image : Located) (quiet : List Range) (stores : Stores) (causes : List Cause) : Type 0 where
  pub each : map (λ (cause : Cause). cause.pointer) causes ≡ pointers_of stores.open.items stores.open_jumps.items
  pub so : All (IsCause image quiet stores.search) causes
