-- What holds of the sums while calls are absorbed into them, and of the calls that are left. (This project's own.)
use Rattle.std.specs.Prelude.{◌≡◌, ◌<◌, ◌≤◌, ◌+◌, ◌*◌, ◌==◌, ◌⊎◌, ℕ, ℤ, pos, ◌≤ℤ◌, Bool, true, false, List, [], Contains, All, length, count_by, slice_index, slice_index_or, slice_set}
use Rattle.std.specs.List.{flat_map}
use Rattle.frames80.specs.declared.procedure.Procedure.{Procedure}
use Rattle.frames80.specs.declared.procedure.Procedure.TheVariants.{Entry}
use Rattle.verify80_bounds.specs.declared.graph.Depth.{Depth}
use Rattle.verify80_bounds.specs.declared.graph.CallSite.{CallSite}
use Rattle.verify80_bounds.specs.Chains.{bytes_of, HasLast, CallsBy, through_call, Chain, Reaches, AreEntered, IsModest}
use Rattle.frames80.specs.Procedures.{slot_of}

-- every chain of the lists' calls from a procedure on ends
pub data Ends (calls : List CallSite) : Procedure → Type 0 where
  ends : (p : Procedure) → ((call : CallSite) → CallsBy calls p call → Ends calls (Entry call.target)) → Ends calls p

-- no call of the list is one of the procedure's
pub record IsSettled (pending : List CallSite) (p : Procedure) : Type 0 where
  pub none : (call : CallSite) → CallsBy pending p call → ⊥

-- the call is in the sums: its callee's sum stands, and the caller's is no less
pub record IsAbsorbed (calls : List CallSite) (sums : List ℕ) (pending : List CallSite) (call : CallSite) : Type 0 where
  pub settled : IsSettled pending (Entry call.target)
  pub ends : Ends calls (Entry call.target)
  pub above : through_call call (pos (bytes_of sums (Entry call.target))) ≤ℤ pos (bytes_of sums call.caller)

-- how much more than its callee's a sum may be with each call, and at first
abbrev pub most_step : ℕ
most_step = 4194304

-- the sums hold every depth and every call but those that are pending
pub record AreSums (depths : List Depth) (calls : List CallSite) (sums : List ℕ) (open_calls : List CallSite) : Type 0 where
  pub reached : AreEntered depths calls → (p : Procedure) → HasLast depths p (pos 0) →
      Chain depths calls p (pos (bytes_of sums p))
  pub deep : (depth : Depth) → Contains depths depth → depth.depth ≤ℤ pos (bytes_of sums depth.procedure)
  pub call : (call : CallSite) → Contains calls call → Contains open_calls call ⊎ IsAbsorbed calls sums open_calls call
  pub of_list : (call : CallSite) → Contains open_calls call → Contains calls call

-- the sums with a given number of calls to come: none can grow past what an i64 holds
pub record AreSmall (sums : List ℕ) (to_come : ℕ) : Type 0 where
  pub small : (slot : ℕ) → slice_index sums slot + most_step * to_come ≤ most_step * 262145

-- a sum raised to a number of bytes
pub record IsRaised (old : ℕ) (bytes : ℤ) (new : ℕ) : Type 0 where
  pub no_less : old ≤ new
  pub above : bytes ≤ℤ pos new
  pub one_of : (new ≡ old) ⊎ (pos new ≡ bytes)

-- the depths that have been read are in the sums
pub record AreDepths (seen : List Depth) (sums : List ℕ) : Type 0 where
  pub reached : (slot : ℕ) → (slice_index sums slot ≡ 0)
      ⊎ ((p : Procedure) → slot_of p ≡ slot → HasLast seen p (pos (slice_index sums slot)))
  pub deep : (depth : Depth) → Contains seen depth → depth.depth ≤ℤ pos (bytes_of sums depth.procedure)
  pub small : (slot : ℕ) → slice_index sums slot ≤ most_step

-- all the calls of some lists
abbrev pub joined : List (List CallSite) → List CallSite
joined lists = flat_map (λ calls. calls) lists

-- how many of the calls are those of the procedure that has this slot
abbrev pub calls_of : ℕ → List CallSite → ℕ
calls_of slot calls = count_by (λ call. slot_of call.caller == slot) calls

-- lists of calls by the slots of their callees, and how many of these calls the procedure of each slot has
pub record AreCounted (lists : List (List CallSite)) (counts : List ℕ) : Type 0 where
  pub callee : (slot : ℕ) (call : CallSite) → Contains (slice_index_or lists slot []) call → slot_of (Entry call.target) ≡ slot
  pub counted : (slot : ℕ) → slice_index counts slot ≡ calls_of slot (joined lists)
  pub places : length lists ≡ 65537
  pub count_places : length counts ≡ 65537

-- the lists have each of the calls, and no others
pub record AreGrouped (calls : List CallSite) (lists : List (List CallSite)) (counts : List ℕ) : Type 0 where
  pub counted : AreCounted lists counts
  pub all : (call : CallSite) → Contains calls call → Contains (joined lists) call
  pub of_list : (call : CallSite) → Contains (joined lists) call → Contains calls call
  pub as_many : length (joined lists) ≡ length calls

-- of the first slots those of procedures that have callers and no calls
pub record AreIdle (lists : List (List CallSite)) (counts : List ℕ) (looked : ℕ) (slots : List ℕ) : Type 0 where
  pub none : (slot : ℕ) → Contains slots slot → (slot < looked) × (slice_index counts slot ≡ 0)
  pub all : (slot : ℕ) → slot < looked → slice_index counts slot ≡ 0 → Contains slots slot ⊎ (slice_index_or lists slot [] ≡ [])

-- while calls are absorbed: those that are left by their callees, how many each procedure has, and the settled procedures, which
-- have none, if they have callers
pub record IsWorklist (sums : List ℕ) (lists : List (List CallSite)) (counts settled : List ℕ) : Type 0 where
  pub counted : AreCounted lists counts
  pub small : AreSmall sums (length (joined lists))
  pub modest : All (λ (call : CallSite). IsModest call.depth) (joined lists)
  pub places : length sums ≡ 65537
  pub none : (slot : ℕ) → Contains settled slot → (slot < 65537) × (slice_index counts slot ≡ 0)
  pub all : (slot : ℕ) → slice_index counts slot ≡ 0 → Contains settled slot ⊎ (slice_index_or lists slot [] ≡ [])

-- a call is absorbed, or a procedure without callers is taken off the worklist
pub record IsAdvance (old : List ℕ) (old_lists : List (List CallSite)) (old_settled sums : List ℕ) (lists : List (List CallSite))
    (counts settled : List ℕ) : Type 0 where
  pub worklist : IsWorklist sums lists counts settled
  pub hold : (depths : List Depth) (calls : List CallSite) → AreSums depths calls old (joined old_lists) →
      AreSums depths calls sums (joined lists)
  pub fewer : 2 * length (joined lists) + length settled < 2 * length (joined old_lists) + length old_settled

-- the calls whose callees have calls that are left
pub record AreLeft (calls : List CallSite) (counts : List ℕ) (pending : List CallSite) : Type 0 where
  pub of_list : (call : CallSite) → Contains pending call → Contains calls call
  pub counted : (call : CallSite) → Contains pending call → 0 < slice_index counts (slot_of (Entry call.target))
  pub all : (call : CallSite) → Contains calls call → 0 < slice_index counts (slot_of (Entry call.target)) → Contains pending call

-- the sum of a call's caller is raised to what goes through the call
pub record IsSumAfter (sums : List ℕ) (call : CallSite) (after : List ℕ) : Type 0 where
  pub bytes : ℕ
  pub raised : IsRaised (bytes_of sums call.caller) (through_call call (pos (bytes_of sums (Entry call.target)))) bytes
  pub is : after ≡ slice_set sums (slot_of call.caller) bytes
  pub within : slot_of call.caller < length sums

-- each pending call's callee has a pending call itself
pub record AreStuck (pending : List CallSite) : Type 0 where
  pub next : (call : CallSite) → Contains pending call → (after : CallSite) × CallsBy pending (Entry call.target) after

-- for each procedure that has one of the calls that have been read, one of its pending calls
pub record AreFollowed (pending seen table : List CallSite) : Type 0 where
  pub next : (p : Procedure) (call : CallSite) → CallsBy seen p call → (d : CallSite) →
      CallsBy pending p (slice_index_or table (slot_of p) d)

-- a call that the table has for its caller
pub record IsFollowed (calls table : List CallSite) (call : CallSite) : Type 0 where
  pub by : CallsBy calls call.caller call
  pub now : (d : CallSite) → slice_index_or table (slot_of call.caller) d ≡ call

-- while calls are followed: the table's call of each procedure that was met leads on to the caller of the call that is read
pub record IsFollowing (calls table : List CallSite) (met : List Bool) (call : CallSite) : Type 0 where
  pub followed : AreFollowed calls calls table
  pub at : IsFollowed calls table call
  pub back : (p : Procedure) → slice_index_or met (slot_of p) false ≡ true → (d : CallSite) →
      Reaches calls (Entry (slice_index_or table (slot_of p) d).target) call.caller
  pub places : length table ≡ 65537
  pub met_places : length met ≡ 65537
