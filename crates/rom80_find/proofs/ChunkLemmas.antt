-- The last of a module's contents in CODE over an address, as a chunk and as a byte of the pattern.
use Rattle.std.specs.Prelude.{◌≡◌, ℕ, ◌+◌, ◌-◌, ◌%◌, ◌<◌, ◌≤◌, ◌&&◌, ◌||◌, nat_lt, nat_le, cond, Bool, true, false}
use Rattle.std.specs.Prelude.{Option, Some, None, is_none, option_map, List, [], ◌∷◌, length, map, filter, slice_index}
use Rattle.std.specs.List.{AllByRecursion, list_any, last_or}
use Rattle.std.proofs.Common.{refl, sym, ◌∙◌, ap, subst, arith, inl, inr}
use Rattle.std.proofs.lemmas.Bool.{and_parts, eqb-true, lt-ltb, le-ltb, le-leb, lt-leb, ltb-true, leb-true, true≢false, cases_lt}
use Rattle.std.proofs.lemmas.List.FromFn.{length-map-range_with_len, get_or-map-range_with_len}
use Rattle.omf_core.specs.SegmentId.{code_id}
use Rattle.omf_model.specs.Contents.{ContentValue}
use Rattle.omf_model.specs.Modules.{ModuleValue}
use Rattle.omf_model.specs.Rules.{end_of}
use Rattle.omf_model.specs.Place.{Bases, place_in}
use Rattle.omf_model.specs.ImageByte.{ByteChunk, patch_with, target_word, chunk_of, chunk_covers, distance, last_over}
use Rattle.omf_model.specs.Patches.{byte_with}
use Rattle.omf_model.specs.SoundModules.{RulesOf, LiesIn, HasItsFixups, PartsOfOneStartAtZero}
use Rattle.rom80_pattern.specs.CodeBytes.{byte_by}
use Rattle.rom80_pattern.specs.Modules.{covers, covers_code, byte_in, code_length}
use Rattle.rom80_find.specs.Chunks.{is_code, code_chunks, chunk_byte}
use Rattle.rom80_find.proofs.BaseLemmas.{Agrees}
use Rattle.rom80_find.proofs.ByteLemmas.{byte_same}

pub none_some : {A : Type 0} (y : A) → None ≡ Some y → ⊥
none_some {A} y e = true≢false (ap (λ (o : Option A). is_none o) e)

-- ---- the last of a list

pub last_map : {A B : Type 0} (f : A → B) (o : Option A) (xs : List A) → last_or (option_map f o) (map f xs) ≡ option_map f (last_or o xs)
last_map f o [] = refl
last_map f o (x ∷ xs) = last_map f (Some x) xs

-- one that is the last of those that pass a test passes it; and what holds of each holds of it
pub last_passes : {A : Type 0} (p : A → Bool) (P : A → Type 0) (o : Option A) (xs : List A) (y : A)
    → AllByRecursion P xs → ((z : A) → o ≡ Some z → (p z ≡ true) × P z) → last_or o (filter p xs) ≡ Some y → (p y ≡ true) × P y
last_passes p P o [] y h ho e = ho y e
last_passes {A} p P o (x ∷ xs) y h ho e = go (last_passes p P o xs y h.1 ho) (λ h' e'. last_passes p P (Some x) xs y h.1 h' e') (p x) refl e
  where
    go : (last_or o (filter p xs) ≡ Some y → (p y ≡ true) × P y)
        → (((z : A) → Some x ≡ Some z → (p z ≡ true) × P z) → last_or (Some x) (filter p xs) ≡ Some y → (p y ≡ true) × P y)
        → (t : Bool) → p x ≡ t → last_or o (cond t (x ∷ filter p xs) (filter p xs)) ≡ Some y → (p y ≡ true) × P y
    go skip take true k e = take (λ z s. subst (λ (z : A). (p z ≡ true) × P z) (some_is x z s) (k, h.0)) e
      where
        some_is : (x z : A) → Some x ≡ Some z → x ≡ z
        some_is x z s = ap (λ (o : Option A). from o) s
          where
            from : Option A → A
            from None = x
            from (Some z) = z
    go skip take false k e = skip e

-- if one passes, there is a last one
pub last_is : {A : Type 0} (p : A → Bool) (xs : List A) → list_any p xs ≡ true → (y : A) × (last_or None (filter p xs) ≡ Some y)
last_is {A} p [] e = elim (true≢false (sym e)) [ ]
last_is {A} p (x ∷ xs) e = go (last_is p xs) (p x) refl
  where
    some : (x : A) (ys : List A) → (y : A) × (last_or (Some x) ys ≡ Some y)
    some x [] = (x, refl)
    some x (y ∷ ys) = some y ys

    go : (list_any p xs ≡ true → (y : A) × (last_or None (filter p xs) ≡ Some y)) → (t : Bool) → p x ≡ t → (y : A) × (last_or None (cond t (x ∷ filter p xs) (filter p xs)) ≡ Some y)
    go rest true k = some x (filter p xs)
    go rest false k = rest (sym (ap (λ (t : Bool). t || list_any p xs) k) ∙ e)

pub any_last : {A : Type 0} (p : A → Bool) (xs : List A) (y : A) → last_or None (filter p xs) ≡ Some y → list_any p xs ≡ true
any_last {A} p [] y e = elim (none_some y e) [ ]
any_last {A} p (x ∷ xs) y e = go (any_last p xs y) (p x) refl e
  where
    go : (last_or None (filter p xs) ≡ Some y → list_any p xs ≡ true) → (t : Bool) → p x ≡ t → last_or None (cond t (x ∷ filter p xs) (filter p xs)) ≡ Some y → (p x || list_any p xs) ≡ true
    go rest true k e = ap (λ (t : Bool). t || list_any p xs) k
    go rest false k e = ap (λ (t : Bool). t || list_any p xs) k ∙ rest e

-- an option that a function was mapped over
pub mapped_from : {A B : Type 0} (f : A → B) (o : Option A) (y : B) → option_map f o ≡ Some y → (x : A) × (o ≡ Some x) × (f x ≡ y)
mapped_from {A} {B} f None y e = elim (none_some y e) [ ]
mapped_from {A} {B} f (Some x) y e = (x, refl, ap (λ (o : Option B). from o) e)
  where
    from : Option B → B
    from None = f x
    from (Some z) = z

-- ---- contents at an address

-- how far an address lies after that of CODE
abbrev pub offset_at : (address a : ℕ) → ℕ
offset_at address a = distance address a

pub there_again : (address o : ℕ) → address < 65536 → o < 65536 → offset_at address ((address + o) % 65536) ≡ o
there_again address o la lo = omega arith

pub back_there : (address a : ℕ) → address < 65536 → a < 65536 → (address + offset_at address a) % 65536 ≡ a
back_there address a la lt = omega arith

near : (address a begin : ℕ) → address < 65536 → a < 65536 → begin < 65536 → begin ≤ offset_at address a
    → distance ((address + begin) % 65536) a ≡ offset_at address a - begin
near address a begin la lt lb le = omega arith

far : (address a begin long : ℕ) → address < 65536 → a < 65536 → begin + long < 65536 → offset_at address a < begin
    → long ≤ distance ((address + begin) % 65536) a
far address a begin long la lt lb le = omega arith

over_same : (address a begin long : ℕ) → address < 65536 → a < 65536 → begin + long < 65536
    → (nat_lt a 65536 && nat_lt (distance ((address + begin) % 65536) a) long)
    ≡ (nat_le begin (offset_at address a) && nat_lt (offset_at address a - begin) long)
over_same address a begin long la lt small = elim (cases_lt (offset_at address a) begin) [
  | inl before ↦
      ap (λ (t : Bool). t && nat_lt (distance ((address + begin) % 65536) a) long) (lt-ltb a 65536 lt)
      ∙ le-ltb (distance ((address + begin) % 65536) a) long (far address a begin long la lt small before)
      ∙ sym (ap (λ (t : Bool). t && nat_lt (offset_at address a - begin) long) (lt-leb begin (offset_at address a) before))
  | inr after ↦
      let begins : begin < 65536 = omega (arith, small) in
      ap (λ (t : Bool). t && nat_lt (distance ((address + begin) % 65536) a) long) (lt-ltb a 65536 lt)
      ∙ ap (λ (n : ℕ). nat_lt n long) (near address a begin la lt begins after)
      ∙ sym (ap (λ (t : Bool). t && nat_lt (offset_at address a - begin) long) (le-leb begin (offset_at address a) after))
]

module _ (m : ModuleValue) (bases : Bases) (address : ℕ) (la : address < 65536) (here : bases.code ≡ address)
    (at_zero : PartsOfOneStartAtZero) (short : code_length m < 65536) where
  abbrev pub chunk : ContentValue → ByteChunk
  chunk c = chunk_of bases (m ∷ []) (0, m) c

  pub place_is : (c : ContentValue) → is_code c ≡ true → (chunk c).place ≡ (address + c.offset) % 65536
  place_is c code =
      ap (λ (id : ℕ). place_in bases (m ∷ []) 0 m id c.offset) (eqb-true c.segment code_id code)
      ∙ ap (λ (n : ℕ). (bases.code + n + c.offset) % 65536) (at_zero m code_id)
      ∙ ap (λ (n : ℕ). (n + 0 + c.offset) % 65536) here
      ∙ ap (λ (n : ℕ). (n + c.offset) % 65536) none
    where
      none : address + 0 ≡ address
      none = omega arith

  pub length_is : (c : ContentValue) → length (chunk c).bytes ≡ length c.bytes
  length_is c = length-map-range_with_len (byte_with (map (patch_with (target_word bases (m ∷ []) (0, m)) c.offset) c.fixups) c.bytes) 0 (length c.bytes)

  within_code : (c : ContentValue) → LiesIn m c → is_code c ≡ true → c.offset + length c.bytes < 65536
  within_code c lies code =
      let k : end_of m.segments c.segment ≡ code_length m = ap (λ (id : ℕ). end_of m.segments id) (eqb-true c.segment code_id code) in
      omega (arith, lies.within, k, short)

  pub covers_same : (a : ℕ) → a < 65536 → (c : ContentValue) → LiesIn m c → is_code c ≡ true
      → chunk_covers a (chunk c) ≡ covers (offset_at address a) c
  covers_same a lt c lies code =
      ap (λ (n : ℕ). nat_lt a 65536 && nat_lt (distance (chunk c).place a) n) (length_is c)
      ∙ ap (λ (n : ℕ). nat_lt a 65536 && nat_lt (distance n a) (length c.bytes)) (place_is c code)
      ∙ over_same address a c.offset (length c.bytes) la lt (within_code c lies code)

  pub chunks_over : (a : ℕ) → a < 65536 → (cs : List ContentValue) → AllByRecursion (LiesIn m) cs
      → filter (chunk_covers a) (map (chunk_of bases (m ∷ []) (0, m)) (filter is_code cs)) ≡ map (chunk_of bases (m ∷ []) (0, m)) (filter (covers_code (offset_at address a)) cs)
  chunks_over a lt [] lie = refl
  chunks_over a lt (c ∷ cs) lie = go (chunks_over a lt cs lie.1) (is_code c) refl
    where
      by_cover : filter (chunk_covers a) (map (chunk_of bases (m ∷ []) (0, m)) (filter is_code cs)) ≡ map (chunk_of bases (m ∷ []) (0, m)) (filter (covers_code (offset_at address a)) cs)
          → (t : Bool) → cond t (chunk c ∷ filter (chunk_covers a) (map (chunk_of bases (m ∷ []) (0, m)) (filter is_code cs))) (filter (chunk_covers a) (map (chunk_of bases (m ∷ []) (0, m)) (filter is_code cs)))
          ≡ map (chunk_of bases (m ∷ []) (0, m)) (cond t (c ∷ filter (covers_code (offset_at address a)) cs) (filter (covers_code (offset_at address a)) cs))
      by_cover rest true = ap (λ (l : List ByteChunk). chunk c ∷ l) rest
      by_cover rest false = rest

      go : filter (chunk_covers a) (map (chunk_of bases (m ∷ []) (0, m)) (filter is_code cs)) ≡ map (chunk_of bases (m ∷ []) (0, m)) (filter (covers_code (offset_at address a)) cs)
          → (t : Bool) → is_code c ≡ t
          → filter (chunk_covers a) (map (chunk_of bases (m ∷ []) (0, m)) (cond t (c ∷ filter is_code cs) (filter is_code cs)))
          ≡ map (chunk_of bases (m ∷ []) (0, m)) (cond (t && covers (offset_at address a) c) (c ∷ filter (covers_code (offset_at address a)) cs) (filter (covers_code (offset_at address a)) cs))
      go rest true code =
          ap (λ (t : Bool). cond t (chunk c ∷ filter (chunk_covers a) (map (chunk_of bases (m ∷ []) (0, m)) (filter is_code cs))) (filter (chunk_covers a) (map (chunk_of bases (m ∷ []) (0, m)) (filter is_code cs)))) (covers_same a lt c lie.0 code)
          ∙ by_cover rest (covers (offset_at address a) c)
      go rest false code = rest

  -- the last content in CODE over an offset
  pub last_over_is : (rules : RulesOf m) (a : ℕ) → a < 65536
      → last_over (code_chunks bases m) a ≡ option_map (chunk_of bases (m ∷ []) (0, m)) (last_or None (filter (covers_code (offset_at address a)) m.contents))
  last_over_is rules a lt =
      ap (λ (l : List ByteChunk). last_or None l) (chunks_over a lt m.contents rules.contents)
      ∙ last_map (chunk_of bases (m ∷ []) (0, m)) None (filter (covers_code (offset_at address a)) m.contents)

  -- its byte
  pub content_byte : (value : ℕ → ℕ) → (rules : RulesOf m) → Agrees m bases value → (a : ℕ) → a < 65536 → (c : ContentValue)
      → LiesIn m c → HasItsFixups m c → covers_code (offset_at address a) c ≡ true
      → chunk_byte (chunk c) a ≡ byte_by value (byte_in m (offset_at address a) c)
  content_byte value rules agrees a lt c lies fixups over =
      let parts = and_parts (is_code c) (covers (offset_at address a) c) over in
      let bounds = and_parts (nat_le c.offset (offset_at address a)) (nat_lt (offset_at address a - c.offset) (length c.bytes)) parts.1 in
      let small = within_code c lies parts.0 in
      let begins : c.offset < 65536 = omega (arith, small) in
      let i-lt : offset_at address a - c.offset < length c.bytes = ltb-true (offset_at address a - c.offset) (length c.bytes) bounds.1 in
      let i-is : distance (chunk c).place a ≡ offset_at address a - c.offset =
      ap (λ (n : ℕ). distance n a) (place_is c parts.0)
      ∙ near address a c.offset la lt begins (leb-true c.offset (offset_at address a) bounds.0) in
      ap (λ (n : ℕ). slice_index (chunk c).bytes n % 256) i-is
      ∙ ap (λ (n : ℕ). n % 256) (get_or-map-range_with_len (byte_with (map (patch_with (target_word bases (m ∷ []) (0, m)) c.offset) c.fixups) c.bytes) 0 (length c.bytes) (offset_at address a - c.offset) (offset_at address a - c.offset) 0 i-lt (omega arith))
      ∙ sym (byte_same m bases value rules agrees c (offset_at address a - c.offset) c.fixups fixups.targets)
