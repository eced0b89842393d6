-- Where the states of a table stand is among where those of all tables stand.
use Rattle.std.specs.Prelude.{ℕ, List, [], ◌∷◌, ◌++◌, All, Contains, map}
use Rattle.std.specs.List.{flat_map}
use Rattle.std.proofs.Common.{append_assoc, arith, refl, subst}
use Rattle.std.proofs.lemmas.List.Elements.{All-cons, All-contains, All-nil, Contains-append_left, Contains-append_right}
use Rattle.verify80_follow.specs.declared.{calls.Summary.Summary, fit.Table.Table, followed.FollowedState.FollowedState, handling.Handler.Handler}
use Rattle.verify80_follow.specs.{Follows.places_among, Reaching.places_of}
use Rattle.verify80_follow.proofs.HeldLemmas.{all_of}

abbrev pub place : FollowedState → ℕ
place s = s.at

abbrev pub inner_places : Summary → List ℕ
inner_places summary = map place summary.states.items

abbrev pub handler_places : Handler → List ℕ
handler_places handler = map place handler.table.states.items

-- among their own
pub own_places : (states : List FollowedState) → All (λ s. Contains (map place states) s.at) states
own_places [] = All-nil (λ s. Contains (map place []) s.at)
own_places (x ∷ xs) =
    All-cons (λ s. Contains (map place (x ∷ xs)) s.at) x xs (0, omega arith, refl)
    (all_of (λ s. Contains (map place xs) s.at) (λ s. Contains (map place (x ∷ xs)) s.at) xs
    (λ s is. Contains-append_right (x.at ∷ []) (map place xs) s.at is) (own_places xs))

-- places of one of several
pub places_within : {X : Type 0} (f : X → List ℕ) (xs : List X) → All (λ x. (at : ℕ) → Contains (f x) at → Contains (flat_map f xs) at) xs
places_within f [] = All-nil (λ x. (at : ℕ) → Contains (f x) at → Contains (flat_map f []) at)
places_within f (x ∷ xs) =
    All-cons (λ y. (at : ℕ) → Contains (f y) at → Contains (flat_map f (x ∷ xs)) at) x xs
    (λ at is. Contains-append_left (f x) (flat_map f xs) at is)
    (all_of (λ y. (at : ℕ) → Contains (f y) at → Contains (flat_map f xs) at) (λ y. (at : ℕ) → Contains (f y) at → Contains (flat_map f (x ∷ xs)) at) xs
    (λ y more at is. Contains-append_right (f x) (flat_map f xs) at (more at is)) (places_within f xs))

-- of the program's table, and of a summary's
pub main_placed : (states : List FollowedState) (summaries : List Summary) → All (λ s. Contains (places_among states summaries) s.at) states
main_placed states summaries =
    all_of (λ s. Contains (map place states) s.at) (λ s. Contains (places_among states summaries) s.at) states
    (λ s is. Contains-append_left (map place states) (flat_map inner_places summaries) s.at is) (own_places states)

pub inner_placed : (states : List FollowedState) (summaries : List Summary) (p : Summary) → Contains summaries p → All (λ s. Contains (places_among states summaries) s.at) p.states.items
inner_placed states summaries p among =
    all_of (λ s. Contains (inner_places p) s.at) (λ s. Contains (places_among states summaries) s.at) p.states.items
    (λ s is. Contains-append_right (map place states) (flat_map inner_places summaries) s.at
    (All-contains (λ q. (at : ℕ) → Contains (inner_places q) at → Contains (flat_map inner_places summaries) at) summaries p (places_within inner_places summaries) among s.at is))
    (own_places p.states.items)

-- beside handlers
pub program_placed : (table : Table) (handlers : List Handler) (at : ℕ) → Contains (places_among table.states.items table.summaries.items) at → Contains (places_of table handlers) at
program_placed table handlers at is =
    let states = map place table.states.items in
    let inner = flat_map inner_places table.summaries.items in
    let outer = flat_map handler_places handlers in
    subst (λ (places : List ℕ). Contains places at) (append_assoc states inner outer) (Contains-append_left (states ++ inner) outer at is)

pub handler_placed : (table : Table) (handlers : List Handler) → All (λ h. All (λ s. Contains (places_of table handlers) s.at) h.table.states.items) handlers
handler_placed table handlers =
    let states = map place table.states.items in
    let inner = flat_map inner_places table.summaries.items in
    all_of (λ h. (at : ℕ) → Contains (handler_places h) at → Contains (flat_map handler_places handlers) at) (λ h. All (λ s. Contains (places_of table handlers) s.at) h.table.states.items) handlers
    (λ h within. all_of (λ s. Contains (handler_places h) s.at) (λ s. Contains (places_of table handlers) s.at) h.table.states.items
    (λ s is. Contains-append_right states (inner ++ flat_map handler_places handlers) s.at (Contains-append_right inner (flat_map handler_places handlers) s.at (within s.at is)))
    (own_places h.table.states.items))
    (places_within handler_places handlers)
