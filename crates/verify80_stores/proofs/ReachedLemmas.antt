-- What is reached at an address.
use Rattle.verify80_stores.proofs.Names.{◌≡◌, ◌<◌, ℕ, Bool, true, zero, suc, List, [], ◌∷◌, Option, None, Some, Ok, length, slice_index_or}
use Rattle.verify80_stores.proofs.Names.{refl, arith, Instr, Fetched, Code, AreReached, IsReached, IsReachedAs, found_at, is_kind}

-- an entry that is there is within the table
pub entry_within : {A : Type 0} (table : List (Option A)) (at : ℕ) (x : A) → slice_index_or table at None ≡ Some x → at < length table
entry_within [] at x h = cc
entry_within (entry ∷ table) zero x h = omega arith
entry_within (entry ∷ table) (suc at) x h = let rest = entry_within table at x h in omega (arith, rest)

module _ (code : Code) (reached : List (Option Fetched)) (are : AreReached code reached) where
  pub record IsThere (at : ℕ) : Type 0 where
    pub found : Fetched
    pub there : found_at reached at ≡ Some found
    pub looked : code.look at ≡ Ok found
    pub within : at < length reached

  found_or_not : (at : ℕ) (o : Option Fetched) → found_at reached at ≡ o → IsReached code at → IsThere at
  found_or_not at None e walk = absurd (are.none at e walk)
  found_or_not at (Some found) e walk = record { found = found; there = e; looked = (are.found at found e).1; within = entry_within reached at found e }

  pub there_if_reached : (at : ℕ) → IsReached code at → IsThere at
  there_if_reached at walk = found_or_not at (found_at reached at) refl walk

  -- an instruction of a kind that the table has
  pub kind_there : (kind : Instr → Bool) (at : ℕ) (o : Option Fetched) → found_at reached at ≡ o → is_kind kind o ≡ true → IsReachedAs code kind at
  kind_there kind at None e is = cc
  kind_there kind at (Some found) e is =
      let walk = are.found at found e in
      record { reached = walk.0; found = found; looked = walk.1; is = is }
