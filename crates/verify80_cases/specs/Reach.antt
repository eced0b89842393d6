-- The addresses that a program may reach from some roots, whatever its frames: along each branch, behind each call whether it
-- returns or not, and from a PCHL to the targets that are declared for it. (Intel 8080 Microcomputer Systems User's Manual: the
-- jumps, calls and returns. That a call is gone on behind whatever its callee does is this project's own.)
use Rattle.std.specs.Prelude.{◌≡◌, ◌<◌, ◌≤◌, ◌↔◌, ℕ, Bool, true, false, List, [], ◌∷◌, ◌++◌, All, Contains, Option, None, Some, Result, Ok, Err, length, get_or, if◌then◌else◌}
use Rattle.decode80.specs.declared.fetching.Fetched.{Fetched}
use Rattle.decode80.specs.declared.fetching.FetchFault.{FetchFault}
use Rattle.decode80.specs.declared.instr.Instr.{Instr}
use Rattle.decode80.specs.declared.flow.Flow.{Flow}
use Rattle.decode80.specs.declared.flow.Flow.TheVariants.{Jumps, JumpsIf, JumpsToHl, Calls, CallsIf, Returns, Halts}
use Rattle.decode80.specs.Facts.{flow}
use Rattle.image80.specs.Image.{Located, memory_of}
use Rattle.verify80.specs.Looking.{declared_targets, is_pchl}
use Rattle.verify80.specs.LookLaws.{fetch_at}

-- the address behind an instruction, unless it never goes on there
abbrev pub next_of : Flow → (next : ℕ) → Option ℕ
next_of (Jumps _) next = None
next_of JumpsToHl next = None
next_of Returns next = None
next_of Halts next = None
next_of w next = Some next

abbrev pub falls_to : Instr → (next : ℕ) → Option ℕ
falls_to instr next = next_of (flow instr) next

-- the address that an instruction names to go to
abbrev pub named_of : Flow → Option ℕ
named_of (Jumps to) = Some to
named_of (JumpsIf _ to) = Some to
named_of (Calls to) = Some to
named_of (CallsIf _ to) = Some to
named_of w = None

abbrev pub target_of : Instr → Option ℕ
target_of instr = named_of (flow instr)

-- an address or none, as a list
abbrev pub given : Option ℕ → List ℕ
given None = []
given (Some address) = address ∷ []

-- the declared targets of an instruction: none unless it is a PCHL
abbrev pub targets_of : Instr → List ℕ → List ℕ
targets_of instr targets = if is_pchl instr then targets else []

-- the addresses that what was fetched leads to
abbrev pub leads_from : Result Fetched FetchFault → (targets : List ℕ) → List ℕ
leads_from (Err _) targets = []
leads_from (Ok found) targets = given (target_of found.instr) ++ (given (falls_to found.instr found.next) ++ targets_of found.instr targets)

-- the addresses that the instruction at an address leads to; none if the code has none there
unfoldable pub leads_to : Located → ℕ → List ℕ
leads_to image at = leads_from (fetch_at image.regions (memory_of image.chunks) at) (declared_targets image.regions at)

-- the program may reach an address from one of some roots
pub data MayReach (image : Located) (roots : List ℕ) : ℕ → Type 0 where
  begins : (at : ℕ) → Contains roots at → MayReach image roots at
  goes_on : (at to : ℕ) → MayReach image roots at → Contains (leads_to image at) to → MayReach image roots to

-- an address is marked in a table
abbrev pub IsMarked : List Bool → ℕ → Type 0
IsMarked marks at = get_or marks at false ≡ true

-- exactly the addresses are marked that the program may reach from the roots
pub record AreReachedFrom (image : Located) (roots : List ℕ) (marks : List Bool) : Type 0 where
  pub size : length marks ≡ 65536
  pub exact : (at : ℕ) → IsMarked marks at ↔ MayReach image roots at

-- exactly the addresses are marked that the program may reach from its start and from further entries
abbrev pub AreReached : Located → (entries : List ℕ) → List Bool → Type 0
AreReached image entries marks = AreReachedFrom image (image.start ∷ entries) marks

-- a walk so far: what is marked may be reached, and is what is listed
pub record IsWalk (image : Located) (roots : List ℕ) (marks : List Bool) (order : List ℕ) : Type 0 where
  pub may : (at : ℕ) → IsMarked marks at → MayReach image roots at
  pub listed : (at : ℕ) → IsMarked marks at → Contains order at
  pub marked : (k : ℕ) → k < length order → IsMarked marks (get_or order k 0)

-- what the first addresses of a walk lead to is marked, a given number of them
abbrev pub AreFollowed : Located → List Bool → List ℕ → ℕ → Type 0
AreFollowed image marks order number = (k : ℕ) → k < number → k < length order → All (IsMarked marks) (leads_to image (get_or order k 0))

-- a walk that has reached its end: its roots are marked, and all that the marked addresses lead to
pub record IsDone (image : Located) (roots : List ℕ) (marks : List Bool) (order : List ℕ) : Type 0 where
  pub size : length marks ≡ 65536
  pub walk : IsWalk image roots marks order
  pub begun : All (IsMarked marks) roots
  pub followed : AreFollowed image marks order (length order)

-- addresses are entered: they are marked, nothing that was marked or listed is lost, and a walk stays one
pub record Enters (marks : List Bool) (order : List ℕ) (to : List ℕ) (marks' : List Bool) (order' : List ℕ) : Type 0 where
  pub size : length marks' ≡ 65536
  pub marked : All (IsMarked marks') to
  pub kept : (at : ℕ) → IsMarked marks at → IsMarked marks' at
  pub longer : length order ≤ length order'
  pub same : (k : ℕ) → k < length order → get_or order' k 0 ≡ get_or order k 0
  pub walk : (image : Located) (roots : List ℕ) → IsWalk image roots marks order → All (MayReach image roots) to → IsWalk image roots marks' order'
