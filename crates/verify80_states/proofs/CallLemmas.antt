-- What is owed to open calls along a step.
use Rattle.verify80_states.proofs.Names.{◌≡◌, ◌⊎◌, ℕ, Bool, true, false, List, [], ◌∷◌, drop, refl, sym, subst, inl, inr, true≢false}
use Rattle.verify80_states.proofs.Names.{Flow, Jumps, JumpsIf, JumpsToHl, Calls, CallsIf, Returns, ReturnsIf, Halts, Flags, is_return_taken}
use Rattle.verify80_states.proofs.Names.{places_by, CallsEntry, AccountsFor, AccountsForCall, ReturnFacts, IsWithin, Owes, no_returns}
use Rattle.verify80_states.proofs.WayLemmas.{Leads}

module _ (returns : ReturnFacts) where
  -- a step goes to an address that accounts for less
  pub owes_within : (behind : ℕ → Type 0) (at to : ℕ) (places : List ℕ) → IsWithin returns at to → Owes returns behind at places → Owes returns behind to places
  owes_within behind at to [] within owes = tt
  owes_within behind at to (place ∷ older) within owes = λ may. let owed = owes (within.may may) in (by owed.0, owed.1) where
    by : (returns.known at ≡ true) ⊎ behind place → (returns.known to ≡ true) ⊎ behind place
    by (inl so) = inl (within.known so)
    by (inr there) = inr there

  -- what is behind calls stays so
  pub owes_stay : (behind after : ℕ → Type 0) (at : ℕ) (places : List ℕ) → ((place : ℕ) → behind place → after place) → Owes returns behind at places → Owes returns after at places
  owes_stay behind after at [] stay owes = tt
  owes_stay behind after at (place ∷ older) stay owes = λ may. let owed = owes may in (by owed.0, owes_stay behind after place older stay owed.1) where
    by : (returns.known at ≡ true) ⊎ behind place → (returns.known at ≡ true) ⊎ after place
    by (inl so) = inl so
    by (inr there) = inr (stay place there)

pub nothing_owed : (behind : ℕ → Type 0) (at : ℕ) (places : List ℕ) → Owes no_returns behind at places
nothing_owed behind at [] = tt
nothing_owed behind at (place ∷ older) = λ may. absurd (true≢false (sym may))

-- an address whose instruction returns accounts for that
pub returns_here : (returns : ReturnFacts) (targets : List ℕ) (at next : ℕ) (f : Flow) (flags : Flags) → AccountsFor returns targets at next f → is_return_taken f flags ≡ true → returns.may at ≡ true
returns_here returns targets at next Returns flags accounts taken = accounts
returns_here returns targets at next (ReturnsIf condition) flags accounts taken = accounts.0
returns_here returns targets at next w flags accounts taken = absurd (true≢false (sym taken))

-- and takes the newest place away
pub returned_places : (f : Flow) (next : ℕ) (flags : Flags) (places : List ℕ) → is_return_taken f flags ≡ true → places_by f next flags places ≡ drop 1 places
returned_places Returns next flags places taken = refl
returned_places (ReturnsIf condition) next flags places taken = rw taken refl
returned_places w next flags places taken = absurd (true≢false (sym taken))

-- any other step
module _ (returns : ReturnFacts) (behind : ℕ → Type 0) where
  abbrev OwesAt : (at : ℕ) → List ℕ → Type 0
  OwesAt at places = Owes returns behind at places

  called_by : (at entry next : ℕ) (places : List ℕ) → AccountsForCall returns at entry next → (returns.may entry ≡ true → returns.known entry ≡ false → behind next) → OwesAt at places → OwesAt entry (next ∷ places)
  called_by at entry next places call left owes = λ may. (by may (returns.known entry) refl, owes_within returns behind at next places (call may) owes) where
    by : returns.may entry ≡ true → (known : Bool) → returns.known entry ≡ known → (returns.known entry ≡ true) ⊎ behind next
    by may true is = inl is
    by may false is = inr (left may is)

  module _ (targets : List ℕ) (at next hl to : ℕ) (flags : Flags) (places : List ℕ) (owes : OwesAt at places) where
    goes_to : (address : ℕ) → to ≡ address → IsWithin returns at address → OwesAt to places
    goes_to address same within = subst (λ n. OwesAt n places) (sym same) (owes_within returns behind at address places within owes)

    calls_to : (entry : ℕ) → to ≡ entry → AccountsForCall returns at entry next → (returns.may entry ≡ true → returns.known entry ≡ false → behind next) → OwesAt to (next ∷ places)
    calls_to entry same call left =
        subst (λ n. OwesAt n (next ∷ places)) (sym same) (called_by at entry next places call left owes)

    pub owed_on : (f : Flow) → AccountsFor returns targets at next f → ((entry : ℕ) → CallsEntry f entry → returns.may entry ≡ true → returns.known entry ≡ false → behind next) →
        Leads f flags targets next hl to → OwesAt to (places_by f next flags places)
    owed_on (Jumps address) accounts left way = goes_to address way accounts
    owed_on (JumpsIf condition address) accounts left (inl way) = goes_to address way.1 accounts.0
    owed_on (JumpsIf condition address) accounts left (inr way) = goes_to next way.1 accounts.1
    owed_on JumpsToHl accounts left way = goes_to to refl (accounts to way.0)
    owed_on (Calls entry) accounts left way = calls_to entry way accounts (left entry refl)
    owed_on (CallsIf condition entry) accounts left (inl way) = rw way.0 (calls_to entry way.1 accounts.0 (left entry refl))
    owed_on (CallsIf condition entry) accounts left (inr way) = rw way.0 (goes_to next way.1 accounts.1)
    owed_on Returns accounts left way = absurd way
    owed_on (ReturnsIf condition) accounts left way = rw way.0 (goes_to next way.1 accounts.1)
    owed_on Halts accounts left way = absurd way
    owed_on w accounts left way = goes_to next way accounts
