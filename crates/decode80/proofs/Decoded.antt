-- What is decoded is the one instruction whose spelling begins the bytes.
use Rattle.std.proofs.Common.{IfSome, get_or, arith, ◌≡◌, ℕ, ◌<◌, ◌↔◌, Bool, true, false, cond, ◌==◌, subst, List, [], ◌∷◌, ◌++◌, length, drop, Option, Some, None, refl, ap, sym, ◌∙◌, find}
use Rattle.std.specs.Option.{option_map}
use Rattle.std.proofs.lemmas.Bool.{eqb-true}
use Rattle.std.proofs.lemmas.Option.{some_pair_parts}
use Rattle.decode80.specs.declared.instr.Instr.{Instr}
use Rattle.decode80.specs.Spelling.{spelling, opcode, BeginsWith}
use Rattle.decode80.specs.Decoded.{row, with_operand, completed, decoded, length_at, instructions}
use Rattle.decode80.proofs.Opcodes.{row-opcode}
use Rattle.decode80.proofs.Operands.{spelling-cons, length-with_operand, with_operand_said, BeginsWith-with_operand}

-- what a search finds passes its test
at_head : {X : Type 0} (p : X → Bool) (y : X) (ys : List X) (x : X) → (find p ys ≡ Some x → p x ≡ true) → (b : Bool) → p y ≡ b → cond b (Some y) (find p ys) ≡ Some x → p x ≡ true
at_head p y ys x later true passes found = cc
at_head p y ys x later false fails found = later found

find_passes : {X : Type 0} (p : X → Bool) (xs : List X) (x : X) → find p xs ≡ Some x → p x ≡ true
find_passes p [] x found = cc
find_passes p (y ∷ ys) x found = at_head p y ys x (find_passes p ys x) (p y) refl found

-- a row stands at its own opcode
pub opcode-row : (first : ℕ) (i : Instr) → row first ≡ Some i → opcode i ≡ first
unfolding row
opcode-row first i found = eqb-true (opcode i) first (find_passes (λ j. opcode j == first) instructions i found)

-- bytes that begin with a spelling have its first byte
pub first_byte : (a : ℕ) (more : List ℕ) (i : Instr) → BeginsWith (a ∷ more) i → a ≡ opcode i
first_byte a more i begins =
    let parts : spelling i ≡ opcode i ∷ drop 1 (spelling i) = spelling-cons i in
    let same : a ∷ more ≡ spelling i ++ begins.0 = begins.1 in
    let joined : spelling i ++ begins.0 ≡ opcode i ∷ (drop 1 (spelling i) ++ begins.0) = ap (λ (s : List ℕ). s ++ begins.0) parts in
    cc

-- bytes that begin with a spelling are decoded as its instruction
decoded_as : (b c : ℕ) (o : Option Instr) (i : Instr) → o ≡ Some (with_operand 0 0 i) → with_operand b c (with_operand 0 0 i) ≡ i
    → option_map (completed b c) o ≡ Some (i, length (spelling i))
decoded_as b c o i at_row back =
    let size : length (spelling (with_operand 0 0 i)) ≡ length (spelling i) = length-with_operand i 0 0 in
    rw (at_row, back, size) refl

pub decoded-begins : (a b c : ℕ) (more : List ℕ) (i : Instr) → BeginsWith (a ∷ b ∷ c ∷ more) i → decoded a b c ≡ Some (i, length (spelling i))
unfolding decoded
decoded-begins a b c more i begins =
    let at_row : row a ≡ Some (with_operand 0 0 i) = ap row (first_byte a (b ∷ c ∷ more) i begins) ∙ row-opcode i in
    decoded_as b c (row a) i at_row (with_operand_said i a b c more begins.0 begins.1)

-- what is decoded begins the bytes
pub record IsDecoded (a b c : ℕ) (more : List ℕ) (i : Instr) (n : ℕ) : Type 0 where
  pub begins : BeginsWith (a ∷ b ∷ c ∷ more) i
  pub size : n ≡ length (spelling i)

from_row : (a b c : ℕ) (more : List ℕ) (o : Option Instr) (i : Instr) (n : ℕ) → b < 256 → row a ≡ o → option_map (completed b c) o ≡ Some (i, n) → IsDecoded a b c more i n
from_row a b c more None i n small at_row found = absurd (let no : ⊥ = cc in no)
from_row a b c more (Some j) i n small at_row found =
    let parts = some_pair_parts (with_operand b c j) i (length (spelling j)) n found in
    let opcode_is : opcode j ≡ a = opcode-row a j at_row in
    let kept : length (spelling (with_operand b c j)) ≡ length (spelling j) = length-with_operand j b c in
    let begun : BeginsWith (opcode j ∷ b ∷ c ∷ more) (with_operand b c j) = BeginsWith-with_operand j b c more small in
    let moved : BeginsWith (a ∷ b ∷ c ∷ more) (with_operand b c j) = subst (λ (x : ℕ). BeginsWith (x ∷ b ∷ c ∷ more) (with_operand b c j)) opcode_is begun in
    record {
      begins = subst (λ (x : Instr). BeginsWith (a ∷ b ∷ c ∷ more) x) parts.0 moved;
      size = let sized : length (spelling (with_operand b c j)) ≡ length (spelling i) = ap (λ (x : Instr). length (spelling x)) parts.0 in let n_is : length (spelling j) ≡ n = parts.1 in cc;
    }

pub begins-decoded : (a b c : ℕ) (more : List ℕ) (i : Instr) (n : ℕ) → b < 256 → decoded a b c ≡ Some (i, n) → IsDecoded a b c more i n
unfolding decoded
begins-decoded a b c more i n small found = from_row a b c more (row a) i n small refl found

-- The clauses of `decode`, over the definitions.
pub three_bytes : (bytes : List ℕ) → length bytes ≡ 3 → bytes ≡ get_or bytes 0 0 ∷ get_or bytes 1 0 ∷ get_or bytes 2 0 ∷ []
three_bytes [] size = absurd (omega arith)
three_bytes (a ∷ []) size = absurd (omega arith)
three_bytes (a ∷ b ∷ []) size = absurd (omega arith)
three_bytes (a ∷ b ∷ c ∷ []) size = refl
three_bytes (a ∷ b ∷ c ∷ d ∷ more) size = absurd (omega arith)

-- what the bytes decode to
abbrev pub decoded_bytes : List ℕ → Option (Instr × ℕ)
decoded_bytes bytes = decoded (get_or bytes 0 0) (get_or bytes 1 0) (get_or bytes 2 0)

pub decoded_found : (bytes : List ℕ) → length bytes ≡ 3 → get_or bytes 1 0 < 256 → (i : Instr) (n : ℕ) → decoded_bytes bytes ≡ Some (i, n) → BeginsWith bytes i × (n ≡ length (spelling i))
decoded_found bytes size small i n found =
    let all = three_bytes bytes size in
    let is : IsDecoded (get_or bytes 0 0) (get_or bytes 1 0) (get_or bytes 2 0) [] i n = begins-decoded _ _ _ [] i n small found in
    (subst (λ (xs : List ℕ). BeginsWith xs i) (sym all) is.begins, is.size)

pub decoded_only : (bytes : List ℕ) → length bytes ≡ 3 → (i : Instr) → BeginsWith bytes i → decoded_bytes bytes ≡ Some (i, length (spelling i))
decoded_only bytes size i begins =
    decoded-begins _ _ _ [] i (subst (λ (xs : List ℕ). BeginsWith xs i) (three_bytes bytes size) begins)

pub found_clause : (bytes : List ℕ) (r : Option (Instr × ℕ)) → length bytes ≡ 3 → get_or bytes 1 0 < 256 → r ≡ decoded_bytes bytes
    → (i : Instr) (n : ℕ) → (r ≡ Some (i, n)) ↔ (BeginsWith bytes i × (n ≡ length (spelling i)))
found_clause bytes r size small value i n = (
  (λ (found : r ≡ Some (i, n)). decoded_found bytes size small i n (sym value ∙ found)),
  (λ (said : BeginsWith bytes i × (n ≡ length (spelling i))). let only = decoded_only bytes size i said.0 in let sized : n ≡ length (spelling i) = said.1 in cc),
)

none_from : (bytes : List ℕ) (r : Option (Instr × ℕ)) → ((i : Instr) (n : ℕ) → r ≡ Some (i, n) → BeginsWith bytes i) → ((i : Instr) → BeginsWith bytes i → ⊥) → r ≡ None
none_from bytes None found never = refl
none_from bytes (Some x) found never = absurd (never x.0 (found x.0 x.1 refl))

pub none_clause : (bytes : List ℕ) (r : Option (Instr × ℕ)) → length bytes ≡ 3 → get_or bytes 1 0 < 256 → r ≡ decoded_bytes bytes
    → (r ≡ None) ↔ ((i : Instr) → BeginsWith bytes i → ⊥)
none_clause bytes r size small value = (
  (λ (none : r ≡ None) (i : Instr) (begins : BeginsWith bytes i). let only = decoded_only bytes size i begins in let no : ⊥ = cc in no),
  (λ (never : (i : Instr) → BeginsWith bytes i → ⊥). none_from bytes r (λ i n found. (decoded_found bytes size small i n (sym value ∙ found)).0) never),
)

-- The clauses of `length_of`, over the definitions.
length_from : (o : Option Instr) (i : Instr) → o ≡ Some (with_operand 0 0 i) → option_map (λ j. length (spelling j)) o ≡ Some (length (spelling i))
length_from o i at_row =
    let size : length (spelling (with_operand 0 0 i)) ≡ length (spelling i) = length-with_operand i 0 0 in
    rw (at_row, size) refl

pub length_at-opcode : (first : ℕ) (i : Instr) → opcode i ≡ first → length_at first ≡ Some (length (spelling i))
unfolding length_at
length_at-opcode first i same = length_from (row first) i (ap row (sym same) ∙ row-opcode i)

some_from : (first : ℕ) (o : Option Instr) → row first ≡ o → IfSome (option_map (λ j. length (spelling j)) o) (λ n. (i : Instr) × (opcode i ≡ first) × (length (spelling i) ≡ n))
some_from first None found = tt
some_from first (Some i) found = (i, opcode-row first i found, refl)

pub length_at-some : (first : ℕ) → IfSome (length_at first) (λ n. (i : Instr) × (opcode i ≡ first) × (length (spelling i) ≡ n))
unfolding length_at
length_at-some first = some_from first (row first) refl
