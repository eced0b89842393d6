-- A record that is cut off can be completed, by a right sum or by a wrong one.
use Rattle.std.proofs.Common.{◌≡◌, ℕ, ◌+◌, ◌-◌, ◌<◌, ◌≤◌, ◌%◌, List, [], ◌∷◌, ◌++◌, length, take, replicate, sym, ◌∙◌, ap, subst, arith, append_assoc, Option, None, Some, lit<}
use Rattle.std.specs.List.{All}
use Rattle.std.proofs.lemmas.List.{append-nil, take_all, length-append, length-replicate}
use Rattle.std.proofs.lemmas.List.Elements.{All-append, All-cons, All-nil, All-replicate}
use Rattle.std.proofs.lemmas.List.Sums.{sum_by_push}
use Rattle.std.proofs.lemmas.Bool.Decides.{nat_tests}
use Rattle.std.proofs.lemmas.Nat.{mod_below}
use Rattle.omf_core.specs.declared.fault.RecordFault.{RecordFault}
use Rattle.omf_core.specs.declared.fault.RecordFault.TheVariants.{Truncated, BadSum}
use Rattle.omf_core.specs.Record.{byte_sum, word_at, record_size, fault_at, checksum}
use Rattle.omf_core.specs.Laws.{TruncatedCanBeCompleted}
use Rattle.omf_core.proofs.Spelled.{word_at-append, byte_sum-checksum}

-- the byte after the checksum of these
abbrev past_checksum : List ℕ → ℕ
past_checksum bytes = (checksum bytes + 1) % 256

byte_sum-past_checksum : (bytes : List ℕ) → byte_sum (bytes ++ past_checksum bytes ∷ []) ≡ 1
byte_sum-past_checksum bytes = omega (arith, sum_by_push (λ x. x) bytes (past_checksum bytes))

right_sum : (rest bytes : List ℕ) (at : ℕ) → 0 < word_at rest 1 → record_size rest ≤ length rest
    → byte_sum (take (record_size rest) rest) ≡ byte_sum (bytes ++ checksum bytes ∷ []) → fault_at rest at ≡ None
right_sum rest bytes at counts whole sum =
    let zero : byte_sum (take (record_size rest) rest) ≡ 0 = sum ∙ byte_sum-checksum bytes in
    grind (arith, nat_tests)

wrong_sum : (rest bytes : List ℕ) (at : ℕ) → 0 < word_at rest 1 → record_size rest ≤ length rest
    → byte_sum (take (record_size rest) rest) ≡ byte_sum (bytes ++ past_checksum bytes ∷ []) → fault_at rest at ≡ Some (BadSum at)
wrong_sum rest bytes at counts whole sum =
    let one : byte_sum (take (record_size rest) rest) ≡ 1 = sum ∙ byte_sum-past_checksum bytes in
    grind (arith, nat_tests)

-- The last byte of a whole record, chosen by those before it, gives it this fault or none.
record Gives (last : List ℕ → ℕ) (at : ℕ) (o : Option RecordFault) : Type 0 where
  small : (bytes : List ℕ) → last bytes < 256
  fault : (rest bytes : List ℕ) → 0 < word_at rest 1 → record_size rest ≤ length rest
      → byte_sum (take (record_size rest) rest) ≡ byte_sum (bytes ++ last bytes ∷ []) → fault_at rest at ≡ o

-- a given number of bytes of 0, and the last byte
abbrev filling : (List ℕ → ℕ) → List ℕ → ℕ → List ℕ
filling last front n = replicate n 0 ++ last (front ++ replicate n 0) ∷ []

one_byte : (byte : ℕ) (more : List ℕ) → byte < 256 → All (λ byte. byte < 256) more → All (λ byte. byte < 256) (byte ∷ more)
one_byte byte more small others = All-cons (λ byte. byte < 256) byte more small others

-- A front that holds its length word is made whole by filling it up.
filled_up : (last : List ℕ → ℕ) (at : ℕ) (o : Option RecordFault) → Gives last at o → (front : List ℕ) (n : ℕ)
    → 3 ≤ length front → length front + n + 1 ≡ record_size front → fault_at (front ++ filling last front n) at ≡ o
filled_up last at o g front n three counted =
    let whole = front ++ filling last front n in
    let word : word_at (front ++ filling last front n) 1 ≡ word_at front 1 = word_at-append front (filling last front n) 1 (omega arith) in
    let zeros : length (replicate {A = ℕ} n 0) ≡ n = length-replicate {A = ℕ} n 0 in
    let rest : length (filling last front n) ≡ n + 1 = omega (arith, zeros, length-append (replicate n 0) (last (front ++ replicate n 0) ∷ [])) in
    let size : length (front ++ filling last front n) ≡ record_size (front ++ filling last front n) = omega (arith, length-append front (filling last front n)) in
    let all : take (record_size (front ++ filling last front n)) (front ++ filling last front n) ≡ front ++ filling last front n =
    take_all (record_size (front ++ filling last front n)) (front ++ filling last front n) (omega arith) in
    let parts : front ++ filling last front n ≡ (front ++ replicate n 0) ++ last (front ++ replicate n 0) ∷ [] =
    sym (append_assoc front (replicate n 0) (last (front ++ replicate n 0) ∷ [])) in
    g.fault (front ++ filling last front n) (front ++ replicate n 0) (omega arith) (omega arith) (ap byte_sum (all ∙ parts))

-- The same for a prefix whose first bytes are there.
completed : (last : List ℕ → ℕ) (at : ℕ) (o : Option RecordFault) → Gives last at o → (rest more : List ℕ) (n : ℕ)
    → All (λ byte. byte < 256) more → 3 ≤ length (rest ++ more) → length (rest ++ more) + n + 1 ≡ record_size (rest ++ more)
    → (after : List ℕ) × All (λ byte. byte < 256) after × (fault_at (rest ++ after) at ≡ o)
completed last at o g rest more n small three counted = (
  more ++ filling last (rest ++ more) n,
  All-append (λ byte. byte < 256) more (filling last (rest ++ more) n) small
      (All-append (λ byte. byte < 256) (replicate n 0) (last (rest ++ more ++ replicate n 0) ∷ [])
      (All-replicate (λ byte. byte < 256) n 0 (lit< tt))
      (one_byte (last (rest ++ more ++ replicate n 0)) [] (g.small (rest ++ more ++ replicate n 0)) (All-nil (λ byte. byte < 256)))),
  subst (λ (s : List ℕ). fault_at s at ≡ o) (append_assoc rest more (filling last (rest ++ more) n))
      (filled_up last at o g (rest ++ more) n three counted),
)

truncated_short : (rest : List ℕ) (at : ℕ) → fault_at rest at ≡ Some (Truncated at) → length rest < record_size rest
truncated_short rest at fault = grind (arith, nat_tests)

can_be_completed : (last : List ℕ → ℕ) (at : ℕ) (o : Option RecordFault) → Gives last at o
    → (rest : List ℕ) → fault_at rest at ≡ Some (Truncated at)
    → (more : List ℕ) × All (λ byte. byte < 256) more × (fault_at (rest ++ more) at ≡ o)
can_be_completed last at o g [] fault =
    completed last at o g [] (0 ∷ 1 ∷ 0 ∷ []) 0
    (one_byte 0 (1 ∷ 0 ∷ []) (lit< tt) (one_byte 1 (0 ∷ []) (lit< tt) (one_byte 0 [] (lit< tt) (All-nil (λ byte. byte < 256)))))
    (omega arith) (omega arith)
can_be_completed last at o g (kind ∷ []) fault =
    completed last at o g (kind ∷ []) (1 ∷ 0 ∷ []) 0
    (one_byte 1 (0 ∷ []) (lit< tt) (one_byte 0 [] (lit< tt) (All-nil (λ byte. byte < 256))))
    (omega arith) (omega arith)
can_be_completed last at o g (kind ∷ low ∷ []) fault =
    completed last at o g (kind ∷ low ∷ []) (1 ∷ []) (low + 255) (one_byte 1 [] (lit< tt) (All-nil (λ byte. byte < 256)))
    (omega arith) (omega arith)
can_be_completed last at o g (kind ∷ low ∷ high ∷ tail) fault =
    let missing = record_size (kind ∷ low ∷ high ∷ tail) - length (kind ∷ low ∷ high ∷ tail) - 1 in
    let short = truncated_short (kind ∷ low ∷ high ∷ tail) at fault in
    let same : (kind ∷ low ∷ high ∷ tail) ++ [] ≡ kind ∷ low ∷ high ∷ tail = append-nil (kind ∷ low ∷ high ∷ tail) in
    completed last at o g (kind ∷ low ∷ high ∷ tail) [] missing (All-nil (λ byte. byte < 256))
    (omega (arith, ap length same)) (omega (arith, ap length same))

pub truncated_can_be_completed : TruncatedCanBeCompleted
truncated_can_be_completed rest at small fault =
    can_be_completed checksum at None
    (record { small = λ bytes. mod_below (256 - byte_sum bytes) 256 (lit< tt); fault = λ r bytes. right_sum r bytes at }) rest fault

pub can_be_spoilt : (rest : List ℕ) (at : ℕ) → fault_at rest at ≡ Some (Truncated at)
    → (more : List ℕ) × All (λ byte. byte < 256) more × (fault_at (rest ++ more) at ≡ Some (BadSum at))
can_be_spoilt rest at fault =
    can_be_completed past_checksum at (Some (BadSum at))
    (record { small = λ bytes. mod_below (checksum bytes + 1) 256 (lit< tt); fault = λ r bytes. wrong_sum r bytes at }) rest fault
