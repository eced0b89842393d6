-- What a table of the words that each value may be says of where code lies.
use Rattle.std.specs.Prelude.{◌≡◌, ℕ, zero, suc, ◌+◌, ◌%◌, ◌<◌, ◌≤◌, ◌==◌, ◌||◌, not, Bool, true, false, Option, Some, None, List, [], ◌∷◌, length, filter, slice_index_or}
use Rattle.std.specs.List.{AllByRecursion, list_all}
use Rattle.std.specs.Option.{option_map_or}
use Rattle.std.proofs.Common.{refl, sym, ◌∙◌, ap, subst, arith}
use Rattle.std.proofs.lemmas.Bool.{and_parts, and_from, eq-eqb, eqb-true, ne_eqb, true≢false}
use Rattle.std.proofs.lemmas.Bool.Decides.{nat_tests}
use Rattle.rom80_find.specs.Dump.{DumpValue, dump_byte}
use Rattle.rom80_pattern.specs.declared.code_byte.CodeByte.{CodeByte}
use Rattle.rom80_pattern.specs.CodeBytes.{number_of, byte_by, half_of, is_low, is_plain}
use Rattle.rom80_find.specs.declared.candidates.Candidates.{Candidates}
use Rattle.rom80_find.specs.declared.candidates.Candidates.TheVariants.{Any, Low, Window}
use Rattle.rom80_find.specs.Candidates.{is_candidate, is_half}
use Rattle.rom80_find.specs.Places.{LiesWith, LiesAt, fits, is_known, fits_for, allows, Describes, HasNone, AreBelow, fits_if_plain}

-- a word only counts modulo 65536
reduced : (x a : ℕ) → (x % 65536 + a) % 65536 ≡ (x + a) % 65536
reduced x a = omega arith

-- a byte that the dump has is one that fits, and the other way
pub has_fits : (dump : DumpValue) (address : ℕ) (b : CodeByte) (value : ℕ → ℕ)
    → dump_byte dump ((address + b.offset) % 65536) ≡ Some (byte_by value b) → fits dump address b (value (number_of b.target) % 65536) ≡ true
has_fits dump address b value h =
    ap (λ (o : Option ℕ). option_map_or (λ d. is_half b.half b.addend d (value (number_of b.target) % 65536)) o false) h
    ∙ eq-eqb _ _ (ap (half_of b.half) (sym (reduced (value (number_of b.target)) b.addend)))

pub from_fits : (o : Option ℕ) (b : CodeByte) (value : ℕ → ℕ)
    → option_map_or (λ d. is_half b.half b.addend d (value (number_of b.target) % 65536)) o false ≡ true → o ≡ Some (byte_by value b)
from_fits None b value h = elim (true≢false (sym h)) [ ]
from_fits (Some d) b value h = ap (λ (x : ℕ). Some x) (eqb-true d _ h ∙ ap (half_of b.half) (reduced (value (number_of b.target)) b.addend))

-- the bytes that the dump has fit for each number
each_fits : (dump : DumpValue) (address : ℕ) (value : ℕ → ℕ) (code : List CodeByte) (n : ℕ)
    → AllByRecursion (λ (b : CodeByte). dump_byte dump ((address + b.offset) % 65536) ≡ Some (byte_by value b)) code
    → list_all (fits_for dump address n (value n % 65536)) code ≡ true
each_fits dump address value [] n h = refl
each_fits dump address value (b ∷ code) n h =
    and_from _ _ (one (number_of b.target == n) refl) (each_fits dump address value code n h.1)
  where
    one : (t : Bool) → (number_of b.target == n) ≡ t → (not t || fits dump address b (value n % 65536)) ≡ true
    one true e = subst (λ (k : ℕ). fits dump address b (value k % 65536) ≡ true) (eqb-true _ _ e) (has_fits dump address b value h.0)
    one false e = refl

pub known_fits : (address : ℕ) (value : ℕ → ℕ) (n : ℕ) → address < 65536 → value 0 ≡ 0 → value 1 ≡ address → is_known address n (value n % 65536) ≡ true
known_fits address value zero lt z o = rw z refl
known_fits address value (suc zero) lt z o = eq-eqb _ _ (omega arith)
known_fits address value (suc (suc n)) lt z o = rw (ne_eqb (suc (suc n)) 0 (λ e. omega arith), ne_eqb (suc (suc n)) 1 (λ e. omega arith)) refl

-- if code lies with some values, each may be what it is
pub lies_allowed : (dump : DumpValue) (code : List CodeByte) (address : ℕ) (value : ℕ → ℕ) → address < 65536
    → LiesWith dump code address value → (n : ℕ) → allows dump code address n (value n % 65536) ≡ true
lies_allowed dump code address value lt h n =
    and_from _ _ (known_fits address value n lt h.absolute h.here) (each_fits dump address value code n h.bytes)

-- and if each may be, the code lies
all_have : (dump : DumpValue) (address count : ℕ) (value : ℕ → ℕ) (code : List CodeByte) → AreBelow count code
    → ((n : ℕ) → n < count → list_all (fits_for dump address n (value n % 65536)) code ≡ true)
    → AllByRecursion (λ (b : CodeByte). dump_byte dump ((address + b.offset) % 65536) ≡ Some (byte_by value b)) code
all_have dump address count value [] below h = tt
all_have dump address count value (b ∷ code) below h =
    let n = number_of b.target in
    let mine = and_parts _ _ (h n below.0) in
    let fit : fits dump address b (value n % 65536) ≡ true = ap (λ (t : Bool). not t || fits dump address b (value n % 65536)) (sym (eq-eqb n n refl)) ∙ mine.0 in (
      from_fits (dump_byte dump ((address + b.offset) % 65536)) b value fit,
      all_have dump address count value code below.1 (λ k lt. (and_parts _ _ (h k lt)).1),
    )

pub allowed_lies : (dump : DumpValue) (code : List CodeByte) (address count : ℕ) (value : ℕ → ℕ) → AreBelow count code
    → value 0 ≡ 0 → value 1 ≡ address
    → ((n : ℕ) → n < count → allows dump code address n (value n % 65536) ≡ true) → LiesWith dump code address value
allowed_lies dump code address count value below z o h = record {
  absolute = z;
  here = o;
  bytes = all_have dump address count value code below (λ n lt. (and_parts (is_known address n (value n % 65536)) _ (h n lt)).1);
}

-- a candidate
abbrev pub pick : Candidates → ℕ
pick Any = 0
pick (Low low) = low % 256
pick (Window first more) = first % 65536

pick-below : (c : Candidates) → pick c < 65536
pick-below Any = omega arith
pick-below (Low low) = omega arith
pick-below (Window first more) = omega arith

pick-candidate : (c : Candidates) → is_candidate c (pick c) ≡ true
pick-candidate Any = refl
pick-candidate (Low low) = eq-eqb _ _ (omega arith)
pick-candidate (Window first more) = grind (arith, nat_tests)

-- a table with a word for each value gives values with which the code lies
module _ (dump : DumpValue) (code : List CodeByte) (address : ℕ) (table : List Candidates) (lt : address < 65536) (two : 2 ≤ length table) (h : Describes dump code address table) where
  abbrev picked : ℕ → ℕ
  picked n = pick (slice_index_or table n Any)

  picked-allowed : (n : ℕ) → n < length table → allows dump code address n (picked n) ≡ true
  picked-allowed n below = sym (h.each n (picked n) below (pick-below (slice_index_or table n Any))) ∙ pick-candidate (slice_index_or table n Any)

  pub described_lies : AreBelow (length table) code → LiesAt dump code address
  described_lies below = record {
    value = picked;
    lies = allowed_lies dump code address (length table) picked below
        (eqb-true _ _ (and_parts _ _ (picked-allowed 0 (omega arith))).0)
        (eqb-true _ _ (and_parts _ _ (picked-allowed 1 (omega arith))).0)
        (λ n k. subst (λ (x : ℕ). allows dump code address n x ≡ true) (omega (arith, pick-below (slice_index_or table n Any))) (picked-allowed n k));
  }

-- if some value may be no word, the code doesn't lie
pub none_lies : (dump : DumpValue) (code : List CodeByte) (address : ℕ) → address < 65536
    → HasNone dump code address → LiesAt dump code address → ⊥
none_lies dump code address lt none h =
    true≢false (sym (lies_allowed dump code address h.value lt h.lies none.number) ∙ none.none (h.value none.number % 65536) (omega arith))

-- ---- bytes outside fixups, and the others

-- of a plain byte the value is 0
plain-here : (b : CodeByte) (value : ℕ → ℕ) → value 0 ≡ 0 → is_plain b ≡ true → value (number_of b.target) % 65536 ≡ 0
plain-here b value z h =
    let n : number_of b.target ≡ 0 = eqb-true _ _ (and_parts (is_low b.half) (number_of b.target == 0) h).1 in
    rw (n, z) refl

-- if the code lies at an address, its plain bytes fit
pub lies_plain : (dump : DumpValue) (code : List CodeByte) (address : ℕ) → LiesAt dump code address
    → list_all (fits_if_plain dump address) code ≡ true
lies_plain dump code address h = go code h.lies.bytes
  where
    go : (bs : List CodeByte) → AllByRecursion (λ (b : CodeByte). dump_byte dump ((address + b.offset) % 65536) ≡ Some (byte_by h.value b)) bs
        → list_all (fits_if_plain dump address) bs ≡ true
    go [] k = refl
    go (b ∷ bs) k = and_from _ _ (one (is_plain b) refl) (go bs k.1)
      where
        one : (t : Bool) → is_plain b ≡ t → (not t || fits dump address b 0) ≡ true
        one true e = subst (λ (x : ℕ). fits dump address b x ≡ true) (plain-here b h.value h.lies.absolute e) (has_fits dump address b h.value k.0)
        one false e = refl

-- the dump has each of these bytes
abbrev HasAll : (dump : DumpValue) (address : ℕ) (value : ℕ → ℕ) → List CodeByte → Type 0
HasAll dump address value bs = AllByRecursion (λ (b : CodeByte). dump_byte dump ((address + b.offset) % 65536) ≡ Some (byte_by value b)) bs

abbrev not_plain : List CodeByte → List CodeByte
not_plain bs = filter (λ b. not (is_plain b)) bs

join-others : (dump : DumpValue) (address : ℕ) (value : ℕ → ℕ) (bs : List CodeByte) → value 0 ≡ 0
    → list_all (fits_if_plain dump address) bs ≡ true
    → HasAll dump address value (not_plain bs) → HasAll dump address value bs
join-others dump address value [] z p k = tt
join-others dump address value (b ∷ bs) z p k = one (is_plain b) refl (and_parts _ _ p) k (λ q r. join-others dump address value bs z q r)
  where
    one : (t : Bool) → is_plain b ≡ t → (fits_if_plain dump address b ≡ true) × (list_all (fits_if_plain dump address) bs ≡ true)
        → HasAll dump address value (not_plain (b ∷ bs))
        → (list_all (fits_if_plain dump address) bs ≡ true → HasAll dump address value (not_plain bs) → HasAll dump address value bs)
        → HasAll dump address value (b ∷ bs)
    one true e parts k rest =
        let fit : fits dump address b 0 ≡ true = ap (λ (t : Bool). not t || fits dump address b 0) (sym e) ∙ parts.0 in (
          from_fits (dump_byte dump ((address + b.offset) % 65536)) b value
              (subst (λ (x : ℕ). fits dump address b x ≡ true) (sym (plain-here b value z e)) fit),
          rest parts.1 (rw e at k),
        )
    one false e parts k rest =
        let all = rw e at k in
        (all.0, rest parts.1 all.1)

-- together they say that the code lies there
pub parts_lie : (dump : DumpValue) (code : List CodeByte) (address : ℕ)
    → list_all (fits_if_plain dump address) code ≡ true
    → LiesAt dump (filter (λ b. not (is_plain b)) code) address → LiesAt dump code address
parts_lie dump code address plain h = record {
  value = h.value;
  lies = record { absolute = h.lies.absolute; here = h.lies.here; bytes = join-others dump address h.value code h.lies.absolute plain h.lies.bytes };
}

-- of a list that is below a count
pub below_filter : (count : ℕ) (p : CodeByte → Bool) (code : List CodeByte) → AreBelow count code → AreBelow count (filter p code)
below_filter count p [] h = tt
below_filter count p (b ∷ bs) h = one (p b) refl (below_filter count p bs h.1)
  where
    one : (t : Bool) → p b ≡ t → AreBelow count (filter p bs) → AreBelow count (filter p (b ∷ bs))
    one true e rest = rw e (h.0, rest)
    one false e rest = rw e rest
