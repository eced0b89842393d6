-- What the sieve says of bytes outside fixups, and of the others.
use Rattle.std.specs.Prelude.{◌≡◌, ℕ, ◌+◌, ◌%◌, ◌<◌, ◌==◌, ◌||◌, not, nat_lt, Bool, true, false, Option, Some, None, List, [], ◌∷◌, filter}
use Rattle.std.specs.List.{AllByRecursion, list_all}
use Rattle.std.specs.Option.{option_map_or}
use Rattle.std.proofs.Common.{refl, sym, ◌∙◌, ap, arith}
use Rattle.std.proofs.lemmas.Bool.{and_parts, and_from, eqb-true, eq-eqb, ne_eqb, true≢false, lt-ltb}
use Rattle.rom80_find.specs.Dump.{DumpValue, dump_byte}
use Rattle.rom80_pattern.specs.declared.code_byte.Half.{Half}
use Rattle.rom80_pattern.specs.declared.code_byte.Half.TheVariants.{Low, High}
use Rattle.rom80_pattern.specs.declared.code_byte.CodeByte.{CodeByte}
use Rattle.rom80_pattern.specs.CodeBytes.{number_of, byte_by, half_of, is_low, is_plain}
use Rattle.rom80_find.specs.Fixups.{are_there}
use Rattle.rom80_find.specs.Marks.{is_in_row, passes}
use Rattle.rom80_find.specs.Places.{LiesAt, fits, fits_if_plain}
use Rattle.rom80_find.proofs.CodeLieLemmas.{lies_plain}
use Rattle.rom80_find.proofs.SolveLemmas.{iff_bool}

abbrev pub HasAll : (dump : DumpValue) (address : ℕ) (value : ℕ → ℕ) → List CodeByte → Type 0
HasAll dump address value bs = AllByRecursion (λ (b : CodeByte). dump_byte dump ((address + b.offset) % 65536) ≡ Some (byte_by value b)) bs

-- a byte outside fixups passes exactly if it fits
small : (a : ℕ) → a % 256 < 256
small a = omega arith

not_last : (a : ℕ) → (a % 256 == 256) ≡ false
not_last a = ne_eqb (a % 256) 256 (λ e. omega (arith, small a, e))

in_plain_row : (d a : ℕ) → is_in_row (a % 256) d ≡ (d == a % 256)
in_plain_row d a = iff_bool _ _
    (λ e. let parts = and_parts (a % 256 == d || a % 256 == 256) (nat_lt d 256) e in
    eq-eqb d (a % 256) (sym (eqb-true (a % 256) d (sym (or-no (a % 256 == d) (a % 256 == 256) (not_last a)) ∙ parts.0))))
    (λ e. let is = eqb-true d (a % 256) e in
    and_from (a % 256 == d || a % 256 == 256) (nat_lt d 256)
    (or-no (a % 256 == d) (a % 256 == 256) (not_last a) ∙ eq-eqb (a % 256) d (sym is))
    (lt-ltb d 256 (omega (arith, is, small a))))
  where
    or-no : (x y : Bool) → y ≡ false → (x || y) ≡ x
    or-no true y e = refl
    or-no false y e = e

low-byte : (h : Half) (a : ℕ) → is_low h ≡ true → half_of h ((0 + a) % 65536) ≡ a % 256
low-byte Low a e = omega arith
low-byte High a e = elim (true≢false (sym e)) [ ]

passes_plain : (dump : DumpValue) (address : ℕ) (b : CodeByte) → is_plain b ≡ true → passes dump address b ≡ fits dump address b 0
passes_plain dump address b e =
    let low = and_parts (is_low b.half) (number_of b.target == 0) e in
    rw e (each (dump_byte dump ((address + b.offset) % 65536)) (low-byte b.half b.addend low.0))
  where
    each : (o : Option ℕ) → half_of b.half ((0 + b.addend) % 65536) ≡ b.addend % 256
        → option_map_or (is_in_row (b.addend % 256)) o false ≡ option_map_or (λ (d : ℕ). d == half_of b.half ((0 + b.addend) % 65536)) o false
    each None is = refl
    each (Some d) is = in_plain_row d b.addend ∙ ap (λ (x : ℕ). d == x) (sym is)

pub all_plain : (dump : DumpValue) (address : ℕ) (code : List CodeByte) → list_all (passes dump address) code ≡ true
    → list_all (fits_if_plain dump address) code ≡ true
all_plain dump address [] h = refl
all_plain dump address (b ∷ bs) h =
    let parts = and_parts (passes dump address b) (list_all (passes dump address) bs) h in
    and_from (fits_if_plain dump address b) (list_all (fits_if_plain dump address) bs) (one (is_plain b) refl parts.0) (all_plain dump address bs parts.1)
  where
    one : (t : Bool) → is_plain b ≡ t → passes dump address b ≡ true → fits_if_plain dump address b ≡ true
    one true e p = ap (λ (t : Bool). not t || fits dump address b 0) e ∙ (sym (passes_plain dump address b e) ∙ p)
    one false e p = ap (λ (t : Bool). not t || fits dump address b 0) e

-- what lies somewhere passes there
pub half_small : (h : Half) (w : ℕ) → half_of h w < 256
half_small Low w = omega arith
half_small High w = omega arith

-- the dump has a byte there
pub to_any : (o : Option ℕ) (d : ℕ) → o ≡ Some d → d < 256 → option_map_or (is_in_row 256) o false ≡ true
to_any o d e lt = ap (λ (o : Option ℕ). option_map_or (is_in_row 256) o false) e ∙ and_from (256 == d || true) (nat_lt d 256) (second (256 == d)) (lt-ltb d 256 lt)
  where
    second : (x : Bool) → (x || true) ≡ true
    second true = refl
    second false = refl

pub lies_passes : (dump : DumpValue) (code : List CodeByte) (address : ℕ) → LiesAt dump code address
    → list_all (passes dump address) code ≡ true
lies_passes dump code address h = go code (lies_plain dump code address h) h.lies.bytes
  where
    go : (bs : List CodeByte) → list_all (fits_if_plain dump address) bs ≡ true → HasAll dump address h.value bs → list_all (passes dump address) bs ≡ true
    go [] p k = refl
    go (b ∷ bs) p k =
        let parts = and_parts (fits_if_plain dump address b) (list_all (fits_if_plain dump address) bs) p in
        and_from (passes dump address b) (list_all (passes dump address) bs) (one (is_plain b) refl parts.0 k.0) (go bs parts.1 k.1)
      where
        one : (t : Bool) → is_plain b ≡ t → fits_if_plain dump address b ≡ true
            → dump_byte dump ((address + b.offset) % 65536) ≡ Some (byte_by h.value b) → passes dump address b ≡ true
        one true e fit is = passes_plain dump address b e ∙ (sym (ap (λ (t : Bool). not t || fits dump address b 0) e) ∙ fit)
        one false e fit is =
            rw e (to_any (dump_byte dump ((address + b.offset) % 65536)) (byte_by h.value b) is
            (half_small b.half ((h.value (number_of b.target) + b.addend) % 65536)))

-- and the sieve says that there are the others
pub passes_there : (dump : DumpValue) (address : ℕ) (code : List CodeByte) → list_all (passes dump address) code ≡ true
    → are_there dump address (filter (λ b. not (is_plain b)) code) ≡ true
passes_there dump address [] h = refl
passes_there dump address (b ∷ bs) h =
    let parts = and_parts (passes dump address b) (list_all (passes dump address) bs) h in
    one (is_plain b) refl parts.0 (passes_there dump address bs parts.1)
  where
    one : (t : Bool) → is_plain b ≡ t → passes dump address b ≡ true → are_there dump address (filter (λ b. not (is_plain b)) bs) ≡ true
        → are_there dump address (filter (λ b. not (is_plain b)) (b ∷ bs)) ≡ true
    one true e p rest = rw e rest
    one false e p rest = rw e (and_from _ _ (rw e at p) rest)

-- ---- some of the bytes

keep-some : (dump : DumpValue) (address : ℕ) (value : ℕ → ℕ) (p : CodeByte → Bool) (bs : List CodeByte)
    → HasAll dump address value bs → HasAll dump address value (filter p bs)
keep-some dump address value p [] k = tt
keep-some dump address value p (b ∷ bs) k = one (p b) refl (keep-some dump address value p bs k.1)
  where
    one : (t : Bool) → p b ≡ t → HasAll dump address value (filter p bs) → HasAll dump address value (filter p (b ∷ bs))
    one true e rest = rw e (k.0, rest)
    one false e rest = rw e rest

pub lies_some : (dump : DumpValue) (code : List CodeByte) (address : ℕ) (p : CodeByte → Bool) → LiesAt dump code address
    → LiesAt dump (filter p code) address
lies_some dump code address p h = record {
  value = h.value;
  lies = record { absolute = h.lies.absolute; here = h.lies.here; bytes = keep-some dump address h.value p code h.lies.bytes };
}
