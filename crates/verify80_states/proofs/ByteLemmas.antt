-- Memory and waiting inputs of bytes, read and written.
use Rattle.verify80_states.proofs.Names.{All-cons, ◌≡◌, ℕ, List, [], ◌∷◌, Some, All, length, drop, slice_get, slice_index, slice_set}
use Rattle.verify80_states.proofs.Names.{get_or_from_slice_get, slice_get_within, refl, ◌∙◌, arith, subst, zero, suc, length-set, All-nil}
use Rattle.verify80_states.proofs.Names.{All-head, All-tail, All-set, All-drop, stored, waiting, next_input, without_next, IsByte, HasBytes}

-- what holds of each of a list holds of one
pub one_of : {A : Type 0} (P : A → Type 0) (xs : List A) (k : ℕ) (x : A) → All P xs → slice_get xs k ≡ Some x → P x
one_of P xs k x each there = subst P (get_or_from_slice_get xs k x x there) (each k x (slice_get_within xs k x there))

-- read; past its end a memory reads as 0
pub byte_at : (memory : List ℕ) (address : ℕ) → HasBytes memory → IsByte (slice_index memory address)
byte_at [] address bytes = omega arith
byte_at (x ∷ xs) zero bytes = All-head IsByte x xs bytes
byte_at (x ∷ xs) (suc i) bytes = byte_at xs i (All-tail IsByte x xs bytes)

-- what holds of each of one and of two
pub one_each : {A : Type 0} (P : A → Type 0) (x : A) → P x → All P (x ∷ [])
one_each P x is = All-cons P x [] is (All-nil P)

pub two_each : {A : Type 0} (P : A → Type 0) (x y : A) → P x → P y → All P (x ∷ y ∷ [])
two_each P x y is are = All-cons P x (y ∷ []) is (one_each P y are)

-- each byte of a list of stores is one
abbrev pub StoresByte : ℕ × ℕ → Type 0
StoresByte b = IsByte b.1

abbrev pub StoresBytes : List (ℕ × ℕ) → Type 0
StoresBytes bytes = All StoresByte bytes

pub stored_are_bytes : (bytes : List (ℕ × ℕ)) (memory : List ℕ) → StoresBytes bytes → HasBytes memory → HasBytes (stored memory bytes)
stored_are_bytes [] memory small held = held
stored_are_bytes (b ∷ bs) memory small held =
    stored_are_bytes bs (slice_set memory b.0 b.1) (All-tail StoresByte b bs small)
    (All-set IsByte memory b.0 b.1 (All-head StoresByte b bs small) held)

pub stored_length : (bytes : List (ℕ × ℕ)) (memory : List ℕ) → length (stored memory bytes) ≡ length memory
stored_length [] memory = refl
stored_length (b ∷ bs) memory = stored_length bs (slice_set memory b.0 b.1) ∙ length-set memory b.0 b.1

-- the inputs
waiting_bytes : (lists : List (List ℕ)) (port : ℕ) → All HasBytes lists → HasBytes (waiting lists port)
waiting_bytes [] port held = All-nil IsByte
waiting_bytes (x ∷ xs) zero held = All-head HasBytes x xs held
waiting_bytes (x ∷ xs) (suc i) held = waiting_bytes xs i (All-tail HasBytes x xs held)

pub input_is_byte : (lists : List (List ℕ)) (port byte : ℕ) → All HasBytes lists → next_input lists port ≡ Some byte → IsByte byte
input_is_byte lists port byte held is = one_of IsByte (waiting lists port) 0 byte (waiting_bytes lists port held) is

pub inputs_left : (lists : List (List ℕ)) (port : ℕ) → All HasBytes lists → All HasBytes (without_next lists port)
inputs_left lists port held =
    All-set HasBytes lists port (drop 1 (waiting lists port)) (All-drop IsByte 1 (waiting lists port) (waiting_bytes lists port held)) held
