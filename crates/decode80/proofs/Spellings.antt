-- Laws of spellings.
use Rattle.std.proofs.lemmas.List.{append-nil}
use Rattle.std.proofs.lemmas.Option.{some_pair_parts}
use Rattle.std.proofs.Common.{arith, lit≤, Contains, ◌≢◌, ◌↔◌, ◌≤◌, ◌/◌, ◌%◌, ◌≡◌, ℕ, ◌<◌, ◌⊎◌, List, [], ◌∷◌, ◌++◌, length, Option, Some, None, refl, ap, sym, ◌∙◌, append_assoc, inl, inr}
use Rattle.decode80.specs.declared.operation.Operand.TheVariants.{Register as InRegister, Memory, Immediate}
use Rattle.decode80.specs.declared.instr.Instr.{Instr}
use Rattle.decode80.specs.declared.instr.Instr.TheVariants.{Mvi, MviMemory, Lxi, Operate, Jmp, JumpIf, Call, CallIf, Shld, Lhld, Sta, Lda, In, Out}
use Rattle.decode80.specs.Spelling.{spelling, opcode, padded, unused_bytes, BeginsWith, HasOperandInRange}
use Rattle.decode80.specs.Decoded.{decoded, row, with_operand, length_at}
use Rattle.decode80.proofs.Decoded.{decoded_only, decoded_bytes, decoded-begins, begins-decoded, found_clause, opcode-row, first_byte, length_at-opcode, IsDecoded}
use Rattle.decode80.proofs.Opcodes.{row-opcode}
use Rattle.decode80.proofs.Unused.{row-None}

-- a filled spelling has three bytes, and begins with the spelling
record IsFilled (i : Instr) : Type 0 where
  pub three : length (padded (spelling i)) ≡ 3
  pub begins : BeginsWith (padded (spelling i)) i

filled : (i : Instr) → IsFilled i
filled (Mvi d b) = record { three = refl; begins = (0 ∷ [], refl) }
filled (MviMemory b) = record { three = refl; begins = (0 ∷ [], refl) }
filled (Operate o (Immediate b)) = record { three = refl; begins = (0 ∷ [], refl) }
filled (Operate o (InRegister s)) = record { three = refl; begins = (0 ∷ 0 ∷ [], refl) }
filled (Operate o Memory) = record { three = refl; begins = (0 ∷ 0 ∷ [], refl) }
filled (In b) = record { three = refl; begins = (0 ∷ [], refl) }
filled (Out b) = record { three = refl; begins = (0 ∷ [], refl) }
filled (Lxi r w) = record { three = refl; begins = ([], refl) }
filled (Jmp w) = record { three = refl; begins = ([], refl) }
filled (JumpIf c w) = record { three = refl; begins = ([], refl) }
filled (Call w) = record { three = refl; begins = ([], refl) }
filled (CallIf c w) = record { three = refl; begins = ([], refl) }
filled (Shld w) = record { three = refl; begins = ([], refl) }
filled (Lhld w) = record { three = refl; begins = ([], refl) }
filled (Sta w) = record { three = refl; begins = ([], refl) }
filled (Lda w) = record { three = refl; begins = ([], refl) }
filled i = record { three = refl; begins = (0 ∷ 0 ∷ [], refl) }

-- what is written is read again
pub round_trip : (i : Instr) → decoded_bytes (padded (spelling i)) ≡ Some (i, length (spelling i))
round_trip i = decoded_only (padded (spelling i)) (filled i).three i (filled i).begins

pub round_trip_at : (i : Instr) (bytes : List ℕ) (n : ℕ) → bytes ≡ padded (spelling i) → n ≡ length (spelling i) → decoded_bytes bytes ≡ Some (i, n)
round_trip_at i bytes n said size =
    let back = round_trip i in
    let same : decoded_bytes bytes ≡ decoded_bytes (padded (spelling i)) = ap decoded_bytes said in
    cc

-- any bytes, with three more, are three and others
record AreThree (xs : List ℕ) : Type 0 where
  pub a : ℕ
  pub b : ℕ
  pub c : ℕ
  pub more : List ℕ
  pub are : xs ++ 0 ∷ 0 ∷ 0 ∷ [] ≡ a ∷ b ∷ c ∷ more

three : (xs : List ℕ) → AreThree xs
three [] = record { a = 0; b = 0; c = 0; more = []; are = refl }
three (a ∷ []) = record { a = a; b = 0; c = 0; more = 0 ∷ []; are = refl }
three (a ∷ b ∷ []) = record { a = a; b = b; c = 0; more = 0 ∷ 0 ∷ []; are = refl }
three (a ∷ b ∷ c ∷ xs) = record { a = a; b = b; c = c; more = xs ++ 0 ∷ 0 ∷ 0 ∷ []; are = refl }

-- bytes begin with one spelling at most
pub one_spelling : (bytes : List ℕ) (i j : Instr) → BeginsWith bytes i → BeginsWith bytes j → i ≡ j
one_spelling bytes i j with_i with_j =
    let t = three bytes in
    let at_i : t.a ∷ t.b ∷ t.c ∷ t.more ≡ spelling i ++ (with_i.0 ++ 0 ∷ 0 ∷ 0 ∷ []) = sym t.are ∙ (ap (λ (xs : List ℕ). xs ++ 0 ∷ 0 ∷ 0 ∷ []) with_i.1 ∙ append_assoc (spelling i) with_i.0 (0 ∷ 0 ∷ 0 ∷ [])) in
    let at_j : t.a ∷ t.b ∷ t.c ∷ t.more ≡ spelling j ++ (with_j.0 ++ 0 ∷ 0 ∷ 0 ∷ []) = sym t.are ∙ (ap (λ (xs : List ℕ). xs ++ 0 ∷ 0 ∷ 0 ∷ []) with_j.1 ∙ append_assoc (spelling j) with_j.0 (0 ∷ 0 ∷ 0 ∷ [])) in
    let as_i = decoded-begins t.a t.b t.c t.more i (_, at_i) in
    let as_j = decoded-begins t.a t.b t.c t.more j (_, at_j) in
    (some_pair_parts i j (length (spelling i)) (length (spelling j)) (sym as_i ∙ as_j)).0

-- no spelling begins another
pub prefix_free : (i j : Instr) (rest : List ℕ) → spelling j ≡ spelling i ++ rest → i ≡ j
prefix_free i j rest longer = one_spelling (spelling j) i j (rest, longer) ([], sym (append-nil (spelling j)))

-- the lengths
pub sizes : (i : Instr) → (1 ≤ length (spelling i)) × (length (spelling i) ≤ 3)
sizes (Operate o (Immediate b)) = (lit≤ tt, lit≤ tt)
sizes (Operate o (InRegister s)) = (lit≤ tt, lit≤ tt)
sizes (Operate o Memory) = (lit≤ tt, lit≤ tt)
sizes i = (lit≤ tt, lit≤ tt)

-- each first byte is one of the twelve or begins a spelling, and not both
in_table : (first : ℕ) (o : Option Instr) → first < 256 → row first ≡ o → Contains unused_bytes first ⊎ ((i : Instr) × (opcode i ≡ first))
in_table first None below found = inl ((row-None first below).0 found)
in_table first (Some i) below found = inr (i, opcode-row first i found)

pub first_bytes : (first : ℕ) → first < 256 → Contains unused_bytes first ⊎ ((i : Instr) × (opcode i ≡ first))
first_bytes first below = in_table first (row first) below refl

pub unused_begins_none : (first : ℕ) → first < 256 → Contains unused_bytes first → (i : Instr) → opcode i ≢ first
unused_begins_none first below listed i = λ (same : opcode i ≡ first).
    let none : row first ≡ None = (row-None first below).1 listed in
    let found : row (opcode i) ≡ Some (with_operand 0 0 i) = row-opcode i in
    let moved : row (opcode i) ≡ row first = ap row same in
    let no : ⊥ = cc in no

-- what is decoded, over numbers
pub decodes : (first second third : ℕ) → second < 256 → (i : Instr) (n : ℕ)
    → (decoded first second third ≡ Some (i, n)) ↔ (BeginsWith (first ∷ second ∷ third ∷ []) i × (n ≡ length (spelling i)))
decodes first second third below i n = found_clause (first ∷ second ∷ third ∷ []) (decoded first second third) refl below refl i n

pub decoded_length : (first second third : ℕ) → second < 256 → (i : Instr) (n : ℕ) → decoded first second third ≡ Some (i, n) → length_at first ≡ Some n
decoded_length first second third below i n found =
    let is : IsDecoded first second third [] i n = begins-decoded first second third [] i n below found in
    let same : first ≡ opcode i = first_byte first (second ∷ third ∷ []) i is.begins in
    let sized : n ≡ length (spelling i) = is.size in
    length_at-opcode first i (sym same) ∙ ap (λ (x : ℕ). Some x) (sym sized)

-- the operand of what is decoded
word_in_range : (a b c w opcode : ℕ) (rest : List ℕ) → b < 256 → c < 256 → a ∷ b ∷ c ∷ [] ≡ opcode ∷ w % 256 ∷ w / 256 ∷ rest → w < 65536
word_in_range a b c w opcode rest b_below c_below same =
    let high : c ≡ w / 256 = cc in
    omega arith

byte_in_range : (a b c n opcode : ℕ) (rest : List ℕ) → b < 256 → a ∷ b ∷ c ∷ [] ≡ opcode ∷ n ∷ rest → n < 256
byte_in_range a b c n opcode rest b_below same =
    let said : b ≡ n = cc in
    omega arith

pub in_range : (a b c : ℕ) (i : Instr) → b < 256 → c < 256 → BeginsWith (a ∷ b ∷ c ∷ []) i → HasOperandInRange i
in_range a b c (Mvi d n) small large said = byte_in_range a b c n _ said.0 small said.1
in_range a b c (MviMemory n) small large said = byte_in_range a b c n _ said.0 small said.1
in_range a b c (Operate o (Immediate n)) small large said = byte_in_range a b c n _ said.0 small said.1
in_range a b c (Operate o (InRegister s)) small large said = tt
in_range a b c (Operate o Memory) small large said = tt
in_range a b c (In n) small large said = byte_in_range a b c n _ said.0 small said.1
in_range a b c (Out n) small large said = byte_in_range a b c n _ said.0 small said.1
in_range a b c (Lxi r w) small large said = word_in_range a b c w _ said.0 small large said.1
in_range a b c (Jmp w) small large said = word_in_range a b c w _ said.0 small large said.1
in_range a b c (JumpIf t w) small large said = word_in_range a b c w _ said.0 small large said.1
in_range a b c (Call w) small large said = word_in_range a b c w _ said.0 small large said.1
in_range a b c (CallIf t w) small large said = word_in_range a b c w _ said.0 small large said.1
in_range a b c (Shld w) small large said = word_in_range a b c w _ said.0 small large said.1
in_range a b c (Lhld w) small large said = word_in_range a b c w _ said.0 small large said.1
in_range a b c (Sta w) small large said = word_in_range a b c w _ said.0 small large said.1
in_range a b c (Lda w) small large said = word_in_range a b c w _ said.0 small large said.1
in_range a b c i small large said = tt

pub decoded_in_range : (first second third : ℕ) → second < 256 → third < 256 → (i : Instr) (n : ℕ) → decoded first second third ≡ Some (i, n) → HasOperandInRange i
decoded_in_range first second third b_below c_below i n found =
    in_range first second third i b_below c_below (begins-decoded first second third [] i n b_below found).begins
