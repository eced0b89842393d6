-- Rows of entries: what is spelled is read, and what is read is spelled.
use Rattle.std.proofs.Common.{◌≡◌, ℕ, zero, suc, ◌<◌, ◌≤◌, Bool, true, ◌&&◌, List, [], ◌∷◌, ◌++◌, length, Result, Ok, Err, refl, sym, ap, subst, ◌∙◌, arith, append_assoc, IsTrue}
use Rattle.std.specs.List.{flat_map, list_all}
use Rattle.std.proofs.lemmas.Bool.{and_parts}
use Rattle.std.proofs.lemmas.List.{append-nil, length-append}
use Rattle.std.proofs.lemmas.List.Folds.{list_all-append}
use Rattle.std.proofs.lemmas.Grind.{flat_map-append}
use Rattle.omf_body.specs.declared.fault.FieldFault.{FieldFault}
use Rattle.omf_body.specs.Fields.{◌>>=◌}
use Rattle.omf_body.specs.Layouts.{Layout, IsLayout, SpellsRow, FaultsRow, read_row, entries_or_none, entries_of}

-- a row that isn't empty is read by its first entry
read_more : {E : Type 0} (layout : Layout E) (n : ℕ) (bytes : List ℕ) → 0 < length bytes
    → read_row layout (suc n) bytes ≡ (layout.read bytes >>= λ e. read_row layout n e.1 >>= λ es. Ok (e.0 ∷ es))
read_more layout n [] some = absurd (omega (arith, some))
read_more layout n (b ∷ bytes) some = refl

-- Entries are read before what follows them.
read_front : {E : Type 0} (layout : Layout E) → IsLayout E layout
    → (n : ℕ) (front : List E) (rest : List ℕ) (r : Result (List E) FieldFault)
    → length (flat_map layout.bytes front ++ rest) ≤ n
    → IsTrue (list_all layout.is_sound front)
    → ((m : ℕ) → length rest ≤ m → read_row layout m rest ≡ r)
    → read_row layout n (flat_map layout.bytes front ++ rest) ≡ (r >>= λ more. Ok (front ++ more))
read_front {E} layout laws n [] rest (Ok more) long sound others = others n long
read_front {E} layout laws n [] rest (Err f) long sound others = others n long
read_front {E} layout laws zero (e ∷ es) rest r long sound others =
    absurd (omega (arith, long, laws.some e, length-append (layout.bytes e ++ flat_map layout.bytes es) rest, length-append (layout.bytes e) (flat_map layout.bytes es)))
read_front {E} layout laws (suc n) (e ∷ es) rest r long sound others =
    let parts = and_parts (layout.is_sound e) (list_all layout.is_sound es) sound in
    let joined : layout.bytes e ++ flat_map layout.bytes es ++ rest ≡ layout.bytes e ++ (flat_map layout.bytes es ++ rest) = append_assoc (layout.bytes e) (flat_map layout.bytes es) rest in
    let size = length-append (layout.bytes e) (flat_map layout.bytes es ++ rest) in
    let some = laws.some e in
    let counted = ap (λ (b : List ℕ). length b) joined in
    let first : layout.read (layout.bytes e ++ (flat_map layout.bytes es ++ rest)) ≡ Ok (e, flat_map layout.bytes es ++ rest) = laws.again e (flat_map layout.bytes es ++ rest) parts.0 in
    let later = read_front layout laws n es rest r (omega (arith, long, some, size, counted)) parts.1 others in
    ap (λ (b : List ℕ). read_row layout (suc n) b) joined
    ∙ (read_more layout n (layout.bytes e ++ (flat_map layout.bytes es ++ rest)) (omega (arith, some, size))
    ∙ (ap (λ (x : Result (E × List ℕ) FieldFault). x >>= λ e. read_row layout n e.1 >>= λ es. Ok (e.0 ∷ es)) first
    ∙ (ap (λ (x : Result (List E) FieldFault). x >>= λ es. Ok (e ∷ es)) later
    ∙ twice r e es)))
  where
    twice : (r : Result (List E) FieldFault) (e : E) (es : List E) → ((r >>= λ more. Ok (es ++ more)) >>= λ es. Ok (e ∷ es)) ≡ (r >>= λ more. Ok (e ∷ (es ++ more)))
    twice (Ok more) e es = refl
    twice (Err f) e es = refl

read_none : {E : Type 0} (layout : Layout E) (m : ℕ) → read_row layout m [] ≡ Ok []
read_none layout zero = refl
read_none layout (suc m) = refl

-- What is spelled is read.
pub row_read : {E : Type 0} (layout : Layout E) → IsLayout E layout → (bytes : List ℕ) (entries : List E) → SpellsRow layout bytes entries
    → read_row layout (length bytes) bytes ≡ Ok entries
row_read {E} layout laws bytes entries s =
    let whole : flat_map layout.bytes entries ++ [] ≡ bytes = append-nil (flat_map layout.bytes entries) ∙ sym s.joined in
    let size = ap (λ (b : List ℕ). length b) whole in
    ap (λ (b : List ℕ). read_row layout (length bytes) b) (sym whole)
    ∙ (read_front layout laws (length bytes) entries [] (Ok []) (omega (arith, size)) s.sound (λ m long. read_none layout m)
    ∙ ap (λ (es : List E). Ok es) (append-nil entries))

-- The first fault is read.
pub fault_read : {E : Type 0} (layout : Layout E) → IsLayout E layout → (bytes : List ℕ) (fault : FieldFault) → FaultsRow layout bytes fault
    → read_row layout (length bytes) bytes ≡ Err fault
fault_read {E} layout laws bytes fault a =
    let size = ap (λ (b : List ℕ). length b) a.joined in
    ap (λ (b : List ℕ). read_row layout (length bytes) b) a.joined
    ∙ read_front layout laws (length bytes) a.front a.rest (Err fault) (omega (arith, size)) a.sound (fault_first layout a.rest fault a.some a.here)
  where
    fault_first : {E : Type 0} (layout : Layout E) (rest : List ℕ) (fault : FieldFault) → 0 < length rest → layout.read rest ≡ Err fault
        → (m : ℕ) → length rest ≤ m → read_row layout m rest ≡ Err fault
    fault_first layout rest fault some here zero long = absurd (omega (arith, some, long))
    fault_first {E} layout rest fault some here (suc m) long =
        read_more layout m rest some ∙ ap (λ (x : Result (E × List ℕ) FieldFault). x >>= λ e. read_row layout m e.1 >>= λ es. Ok (e.0 ∷ es)) here

-- Bytes that spell a row show its entries.
pub shown : {E : Type 0} (layout : Layout E) → IsLayout E layout → (bytes : List ℕ) (entries : List E) → SpellsRow layout bytes entries
    → entries_of layout bytes ≡ entries
unfolding entries_of
shown layout laws bytes entries s = ap entries_or_none (row_read layout laws bytes entries s)

pub shown_spelled : {E : Type 0} (layout : Layout E) → IsLayout E layout → (bytes : List ℕ) (entries : List E) → SpellsRow layout bytes entries
    → SpellsRow layout bytes (entries_of layout bytes)
shown_spelled layout laws bytes entries s = subst (λ es. SpellsRow layout bytes es) (sym (shown layout laws bytes entries s)) s

-- ---- reading a row from its front

-- the bytes are those of some entries, and the rest
pub record ReadSoFar {E : Type 0} (layout : Layout E) (bytes rest : List ℕ) : Type 0 where
  pub front : List E
  pub joined : bytes ≡ flat_map layout.bytes front ++ rest
  pub sound : IsTrue (list_all layout.is_sound front)

pub one_more : {E : Type 0} (layout : Layout E) (bytes rest after : List ℕ) (e : E) → ReadSoFar layout bytes rest
    → rest ≡ layout.bytes e ++ after → IsTrue (layout.is_sound e) → ReadSoFar layout bytes after
one_more layout bytes rest after e a spelled sound =
    let flat : flat_map layout.bytes (a.front ++ e ∷ []) ≡ flat_map layout.bytes a.front ++ layout.bytes e = flat_map-append layout.bytes a.front (e ∷ []) ∙ ap (λ b. flat_map layout.bytes a.front ++ b) (append-nil (layout.bytes e)) in
    record {
      front = a.front ++ e ∷ [];
      joined = a.joined ∙ (ap (λ b. flat_map layout.bytes a.front ++ b) spelled ∙ (sym (append_assoc (flat_map layout.bytes a.front) (layout.bytes e) after) ∙ ap (λ b. b ++ after) (sym flat)));
      sound = list_all-append layout.is_sound a.front (e ∷ []) ∙ all_three (list_all layout.is_sound a.front) (layout.is_sound e) a.sound sound;
    }
  where
    all_three : (a b : Bool) → a ≡ true → b ≡ true → (a && (b && true)) ≡ true
    all_three a b p q = cc

pub all_read : {E : Type 0} (layout : Layout E) (bytes rest : List ℕ) (a : ReadSoFar layout bytes rest) → rest ≡ [] → SpellsRow layout bytes a.front
all_read layout bytes rest a end = record {
  joined = a.joined ∙ (ap (λ r. flat_map layout.bytes a.front ++ r) end ∙ append-nil (flat_map layout.bytes a.front));
  sound = a.sound;
}

-- ---- the first entry of a row

pub record Next {E : Type 0} (layout : Layout E) (bytes : List ℕ) (e : E) (rest : List ℕ) : Type 0 where
  pub shows : entries_of layout bytes ≡ e ∷ entries_of layout rest
  pub spelled : SpellsRow layout rest (entries_of layout rest)

next_by : {E : Type 0} (layout : Layout E) → IsLayout E layout → (bytes : List ℕ) (entries : List E) (e : E) (rest : List ℕ)
    → entries_of layout bytes ≡ entries → SpellsRow layout bytes entries → 0 < length bytes → layout.read bytes ≡ Ok (e, rest) → Next layout bytes e rest
next_by layout laws bytes [] e rest are s some read = absurd (omega (arith, some, ap (λ (b : List ℕ). length b) s.joined))
next_by layout laws bytes (x ∷ xs) e rest are s some read =
    let parts = and_parts (layout.is_sound x) (list_all layout.is_sound xs) s.sound in
    let first : layout.read bytes ≡ Ok (x, flat_map layout.bytes xs) = ap layout.read s.joined ∙ laws.again x (flat_map layout.bytes xs) parts.0 in
    let same : (e ≡ x) × (rest ≡ flat_map layout.bytes xs) = same_ok (layout.read bytes) e x rest (flat_map layout.bytes xs) read first in
    let others : SpellsRow layout rest xs = record { joined = same.1; sound = parts.1 } in
    let shows_rest : entries_of layout rest ≡ xs = shown layout laws rest xs others in
    record { shows = cc; spelled = shown_spelled layout laws rest xs others }
  where
    same_ok : {A : Type 0} (r : Result (A × List ℕ) FieldFault) (e x : A) (s t : List ℕ) → r ≡ Ok (e, s) → r ≡ Ok (x, t) → (e ≡ x) × (s ≡ t)
    same_ok {A} r e x s t p q =
        let same : (e, s) ≡ (x, t) = ap (pair_of (e, s)) (sym p ∙ q) in
        (ap (λ (v : A × List ℕ). v.0) same, ap (λ (v : A × List ℕ). v.1) same)
      where
        pair_of : {A : Type 0} → A × List ℕ → Result (A × List ℕ) FieldFault → A × List ℕ
        pair_of d (Ok p) = p
        pair_of d (Err f) = d

pub next : {E : Type 0} (layout : Layout E) → IsLayout E layout → (bytes : List ℕ) (e : E) (rest : List ℕ)
    → SpellsRow layout bytes (entries_of layout bytes) → 0 < length bytes → layout.read bytes ≡ Ok (e, rest) → Next layout bytes e rest
next layout laws bytes e rest s some read = next_by layout laws bytes (entries_of layout bytes) e rest refl s some read

no_fault_by : {E : Type 0} (layout : Layout E) → IsLayout E layout → (bytes : List ℕ) (entries : List E) (fault : FieldFault)
    → SpellsRow layout bytes entries → 0 < length bytes → layout.read bytes ≡ Err fault → ⊥
no_fault_by layout laws bytes [] fault s some read = omega (arith, some, ap (λ (b : List ℕ). length b) s.joined)
no_fault_by layout laws bytes (x ∷ xs) fault s some read =
    let parts = and_parts (layout.is_sound x) (list_all layout.is_sound xs) s.sound in
    let first : layout.read bytes ≡ Ok (x, flat_map layout.bytes xs) = ap layout.read s.joined ∙ laws.again x (flat_map layout.bytes xs) parts.0 in
    cc

pub no_fault : {E : Type 0} (layout : Layout E) → IsLayout E layout → (bytes : List ℕ) (fault : FieldFault)
    → SpellsRow layout bytes (entries_of layout bytes) → 0 < length bytes → layout.read bytes ≡ Err fault → ⊥
no_fault layout laws bytes fault s some read = no_fault_by layout laws bytes (entries_of layout bytes) fault s some read

pub shows_none : {E : Type 0} (layout : Layout E) (bytes : List ℕ) → bytes ≡ [] → entries_of layout bytes ≡ []
unfolding entries_of
shows_none layout bytes none = ap (λ (b : List ℕ). entries_or_none (read_row layout (length b) b)) none
