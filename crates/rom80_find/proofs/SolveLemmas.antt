-- Bytes that are checked one after another.
use Rattle.std.specs.Prelude.{◌≡◌, ℕ, zero, suc, ◌+◌, ◌<◌, ◌&&◌, Bool, true, false, List, [], ◌∷◌, length}
use Rattle.std.specs.List.{AllByRecursion, list_all}
use Rattle.std.proofs.Common.{refl, sym, ◌∙◌, arith, get_or, take}
use Rattle.std.proofs.lemmas.Bool.{and_parts, and_from}
use Rattle.std.proofs.lemmas.List.Folds.{list_all_more}
use Rattle.omf_model.specs.declared.fixup.Target.TheVariants as target
use Rattle.rom80_pattern.specs.declared.code_byte.Half.TheVariants as half
use Rattle.rom80_pattern.specs.declared.code_byte.CodeByte.{CodeByte}

-- a byte, for terms that need one
abbrev pub some_byte : CodeByte
some_byte = record { offset = 0; half = half.Low; target = target.Segment 0; addend = 0 }

pub iff_bool : (a b : Bool) → (a ≡ true → b ≡ true) → (b ≡ true → a ≡ true) → a ≡ b
iff_bool true b f g = sym (f refl)
iff_bool false true f g = g refl
iff_bool false false f g = refl

-- what holds of all holds of the first ones
pub all_first : {A : Type 0} (p : A → Bool) (xs : List A) (k : ℕ) → list_all p xs ≡ true → list_all p (take k xs) ≡ true
all_first p xs zero h = refl
all_first p [] (suc k) h = refl
all_first p (x ∷ xs) (suc k) h =
    let parts = and_parts (p x) (list_all p xs) h in
    and_from (p x) (list_all p (take k xs)) parts.0 (all_first p xs k parts.1)

-- if a byte fails after the ones before it, all of them fail
pub all_fail : {A : Type 0} (known : Bool) (p : A → Bool) (xs : List A) (i : ℕ) (d : A) → i < length xs
    → ((known && list_all p (take i xs)) && p (get_or xs i d)) ≡ false → (known && list_all p xs) ≡ false
all_fail known p xs i d lt h = iff_bool _ false
    (λ e. let parts = and_parts known (list_all p xs) e in
    let before = all_first p xs i parts.1 in
    let more = all_first p xs (i + 1) parts.1 in
    let here = and_parts _ _ (sym (list_all_more p xs i d lt) ∙ more) in
    sym h ∙ and_from _ _ (and_from _ _ parts.0 before) here.1)
    (λ e. grind arith)

-- what holds of each holds at an index
pub each_at : {A : Type 0} (P : A → Type 0) (xs : List A) (i : ℕ) (d : A) → AllByRecursion P xs → i < length xs → P (get_or xs i d)
each_at P [] i d h lt = elim lt [ ]
each_at P (x ∷ xs) zero d h lt = h.0
each_at P (x ∷ xs) (suc i) d h lt = each_at P xs i d h.1 (omega arith)
