-- Slots that lines take, and their marks.
use Rattle.std.proofs.Common.{◌≡◌, ℕ, ◌+◌, ◌<◌, ◌≤◌, Bool, true, false, ◌||◌, nat_le, nat_lt, List, [], ◌∷◌, ◌++◌, refl, ap, sym, subst, ◌∙◌}
use Rattle.std.specs.Prelude.{◌↔◌, IsTrue}
use Rattle.std.specs.List.{list_any}
use Rattle.std.proofs.lemmas.Bool.{and_parts, and_from, leb-true, ltb-true, le-leb, lt-ltb}
use Rattle.board80.specs.declared.line.Line.{Line}
use Rattle.board80.specs.declared.slots.Slots.{Slots}
use Rattle.board80.specs.Board.{IsFree, gives_device, in_device, is_taken, takes}
use Rattle.board80.specs.Reading.{AreUnmarked, HasSeen, in_slots, is_marked}

or_false : (a : Bool) → (a || false) ≡ a
or_false true = refl
or_false false = refl

or_assoc : (a b c : Bool) → (a || (b || c)) ≡ ((a || b) || c)
or_assoc true b c = refl
or_assoc false b c = refl

-- one more line is asked too
any_push : (p : Line → Bool) (xs : List Line) (x : Line) → list_any p (xs ++ x ∷ []) ≡ (list_any p xs || p x)
any_push p [] x = or_false (p x)
any_push p (y ∷ ys) x = ap (λ b. p y || b) (any_push p ys x) ∙ or_assoc (p y) (list_any p ys) (p x)

-- nothing was seen
pub seen_none : (taken devices : List Bool) (m n : ℕ) → AreUnmarked taken m → AreUnmarked devices n → HasSeen (record { taken = taken; devices = devices }) []
seen_none taken devices m n taken_none devices_none = record { taken = λ slot. taken_none.none slot; devices = λ address. devices_none.none address }

-- a slot is inside
pub slot_inside : (s : Slots) (k : ℕ) → in_slots s k ≡ true → (s.first ≤ k) × (k < s.first + s.count)
slot_inside s k inside =
    let both = and_parts (nat_le s.first k) (nat_lt k (s.first + s.count)) inside in
    (leb-true s.first k both.0, ltb-true k (s.first + s.count) both.1)

pub inside_slot : (s : Slots) (k : ℕ) → s.first ≤ k → k < s.first + s.count → in_slots s k ≡ true
inside_slot s k low high = and_from (nat_le s.first k) (nat_lt k (s.first + s.count)) (le-leb s.first k low) (lt-ltb k (s.first + s.count) high)

-- all slots are free where none up to the end is marked
pub all_free : (s : Slots) (marks : List Bool) (past : ℕ) → past ≡ s.first + s.count → ((k : ℕ) → s.first ≤ k → k < past → is_marked marks k ≡ false) → (slot : ℕ) → in_slots s slot ≡ true → is_marked marks slot ≡ false
all_free s marks past is none slot inside = let both = slot_inside s slot inside in none slot both.0 (subst (λ p. slot < p) (sym is) both.1)

-- a line is free where its slots are
pub free_is : (taken : List Bool) (devices : List Bool) (s : Slots) (line : Line) (lines : List Line) (r : Bool) → ((slot : ℕ) → takes line slot ≡ in_slots s slot) → HasSeen (record { taken = taken; devices = devices }) lines →
    IsTrue r ↔ ((slot : ℕ) → in_slots s slot ≡ true → is_marked taken slot ≡ false) → IsTrue r ↔ IsFree lines line
free_is taken devices s line lines r same seen answer = (
  λ yes. λ slot takes_it. sym (seen.taken slot) ∙ answer.0 yes slot (sym (same slot) ∙ takes_it),
  λ free. answer.1 (λ slot inside. seen.taken slot ∙ free slot (same slot ∙ inside)),
)

-- the slots of one more line are marked
pub taken_more : (old new : List Bool) (s : Slots) (line : Line) (lines : List Line) → ((slot : ℕ) → is_marked old slot ≡ is_taken lines slot) → ((slot : ℕ) → takes line slot ≡ in_slots s slot) →
    ((slot : ℕ) → is_marked new slot ≡ (is_marked old slot || in_slots s slot)) → (slot : ℕ) → is_marked new slot ≡ is_taken (lines ++ line ∷ []) slot
taken_more old new s line lines seen same marked slot =
    marked slot ∙ ap (λ b. b || in_slots s slot) (seen slot) ∙ ap (λ b. is_taken lines slot || b) (sym (same slot)) ∙ sym (any_push (λ l. takes l slot) lines line)

-- so are the addresses of a device
pub device_more : (old new : List Bool) (line : Line) (lines : List Line) (s : Slots) → ((address : ℕ) → is_marked old address ≡ in_device lines address) → ((address : ℕ) → gives_device line address ≡ in_slots s address) →
    ((address : ℕ) → is_marked new address ≡ (is_marked old address || in_slots s address)) → (address : ℕ) → is_marked new address ≡ in_device (lines ++ line ∷ []) address
device_more old new line lines s seen same marked address =
    marked address ∙ ap (λ b. b || in_slots s address) (seen address) ∙ ap (λ b. in_device lines address || b) (sym (same address)) ∙ sym (any_push (λ l. gives_device l address) lines line)

pub device_same : (old : List Bool) (line : Line) (lines : List Line) → ((address : ℕ) → is_marked old address ≡ in_device lines address) → ((address : ℕ) → gives_device line address ≡ false) →
    (address : ℕ) → is_marked old address ≡ in_device (lines ++ line ∷ []) address
device_same old line lines seen none address =
    seen address ∙ sym (any_push (λ l. gives_device l address) lines line ∙ ap (λ b. in_device lines address || b) (none address) ∙ or_false (in_device lines address))
