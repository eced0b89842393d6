-- The bytes of contents, placed one content and one fixup after another.
use Rattle.std.specs.Prelude.{◌≡◌, ℕ, zero, suc, ◌+◌, ◌-◌, ◌<◌, ◌≤◌, ◌&&◌, if◌then◌else◌, Bool, true, false, Option, Some, None, List, [], ◌∷◌, length, map, filter_map, find}
use Rattle.std.specs.List.{AllByRecursion, cons_option, list_all, range_with_len}
use Rattle.std.specs.Option.{option_map_or}
use Rattle.std.proofs.Common.{refl, sym, ◌∙◌, ap, arith, get_or, drop, drop-cons}
use Rattle.std.proofs.lemmas.Bool.{and_parts}
use Rattle.omf_model.specs.declared.fixup.Fixup.{Fixup}
use Rattle.omf_model.specs.Contents.{ContentValue}
use Rattle.omf_model.specs.Modules.{ModuleValue}
use Rattle.omf_model.specs.Patches.{is_inside_bytes}
use Rattle.omf_model.specs.SoundModules.{as_patch, HasItsFixups}
use Rattle.rom80_pattern.specs.declared.code_byte.CodeByte.{CodeByte}
use Rattle.rom80_pattern.specs.Modules.{IsWithin, covers, has_byte, fixup_byte, byte_by_fixups, plain_byte}

-- what holds of each holds at an index
each_at : {A : Type 0} (P : A → Type 0) (xs : List A) (i : ℕ) (d : A) → AllByRecursion P xs → i < length xs → P (get_or xs i d)
each_at P [] i d h lt = elim lt [ ]
each_at P (x ∷ xs) zero d h lt = h.0
each_at P (x ∷ xs) (suc i) d h lt = each_at P xs i d h.1 (omega arith)

inside_at : (size first : ℕ) (word : Fixup → ℕ) (fs : List Fixup) (i : ℕ) (d : Fixup) → list_all (is_inside_bytes size) (map (as_patch first word) fs) ≡ true
    → i < length fs → is_inside_bytes size (as_patch first word (get_or fs i d)) ≡ true
inside_at size first word [] i d h lt = elim lt [ ]
inside_at size first word (f ∷ fs) zero d h lt = (and_parts (is_inside_bytes size (as_patch first word f)) (list_all (is_inside_bytes size) (map (as_patch first word) fs)) h).0
inside_at size first word (f ∷ fs) (suc i) d h lt =
    inside_at size first word fs i d (and_parts (is_inside_bytes size (as_patch first word f)) (list_all (is_inside_bytes size) (map (as_patch first word) fs)) h).1 (omega arith)

pub within_at : (m : ModuleValue) (c : ContentValue) (i : ℕ) (d : Fixup) → HasItsFixups m c → i < length c.fixups → IsWithin c (get_or c.fixups i d)
within_at m c i d h lt = record {
  begin = each_at (λ (f : Fixup). c.offset ≤ f.offset) c.fixups i d h.begin lt;
  inside = inside_at (length c.bytes) c.offset (λ _. 0) c.fixups i d (h.inside (λ _. 0)) lt;
}

-- one more fixup in front
one_more : (m : ModuleValue) (c : ContentValue) (i : ℕ) (f : Fixup) (fs : List Fixup)
    → byte_by_fixups m c i (f ∷ fs) ≡ (if has_byte c i f then fixup_byte m c i f else byte_by_fixups m c i fs)
one_more m c i f fs = go (has_byte c i f)
  where
    go : (t : Bool) → option_map_or (fixup_byte m c i) (if t then Some f else find (has_byte c i) fs) (plain_byte c i) ≡ (if t then fixup_byte m c i f else byte_by_fixups m c i fs)
    go true = refl
    go false = refl

choose : {A : Type 0} (over has : Bool) (here more rest : A) (new old before : Option A)
    → new ≡ (if over && has then Some here else old) → old ≡ (if over then Some rest else before) → more ≡ (if has then here else rest)
    → new ≡ (if over then Some more else before)
choose true true here more rest new old before a b e = a ∙ ap (λ x. Some x) (sym e)
choose true false here more rest new old before a b e = a ∙ (b ∙ ap (λ x. Some x) (sym e))
choose false has here more rest new old before a b e = a ∙ b

pub place_more : (m : ModuleValue) (c : ContentValue) (xs : List Fixup) (done o : ℕ) (d : Fixup) (new old before : Option CodeByte) → done < length xs
    → new ≡ (if covers o c && has_byte c (o - c.offset) (get_or xs (length xs - 1 - done) d)
    then Some (fixup_byte m c (o - c.offset) (get_or xs (length xs - 1 - done) d)) else old)
    → old ≡ (if covers o c then Some (byte_by_fixups m c (o - c.offset) (drop (length xs - done) xs)) else before)
    → new ≡ (if covers o c then Some (byte_by_fixups m c (o - c.offset) (drop (length xs - (done + 1)) xs)) else before)
place_more m c xs done o d new old before lt a b =
    let j = length xs - 1 - done in
    let jk : length xs - (done + 1) ≡ j = omega arith in
    let next : suc j ≡ length xs - done = omega arith in
    let cut : drop (length xs - (done + 1)) xs ≡ get_or xs j d ∷ drop (length xs - done) xs =
    ap (λ (k : ℕ). drop k xs) jk ∙ (drop-cons xs j d (omega arith) ∙ ap (λ (k : ℕ). get_or xs j d ∷ drop k xs) next) in
    choose (covers o c) (has_byte c (o - c.offset) (get_or xs j d)) (fixup_byte m c (o - c.offset) (get_or xs j d)) _ (byte_by_fixups m c (o - c.offset) (drop (length xs - done) xs)) new old before a b
    (ap (λ (fs : List Fixup). byte_by_fixups m c (o - c.offset) fs) cut ∙ one_more m c (o - c.offset) (get_or xs j d) (drop (length xs - done) xs))

-- a table read from the front
cons_same : (f : ℕ → Option CodeByte) (a b : Option CodeByte) (l k : List CodeByte) → a ≡ b → l ≡ k → cons_option a l ≡ cons_option b k
cons_same f a b l k e r = ap (λ (o : Option CodeByte). cons_option o l) e ∙ ap (λ (l : List CodeByte). cons_option b l) r

pub given : (f : ℕ → Option CodeByte) (table : List (Option CodeByte)) (start : ℕ)
    → ((o : ℕ) → o < length table → get_or table o None ≡ f (start + o))
    → filter_map (λ b. b) table ≡ filter_map f (range_with_len start (length table))
given f [] start h = refl
given f (x ∷ xs) start h =
    let zero-at : start + 0 ≡ start = omega arith in
    let here : x ≡ f start = h 0 (omega arith) ∙ ap f zero-at in
    cons_same f x (f start) _ _ here (given f xs (start + 1) (λ o lt. let k : start + suc o ≡ start + 1 + o = omega arith in h (suc o) (omega arith) ∙ ap f k))
