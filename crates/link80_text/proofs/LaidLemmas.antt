-- Parts one after another: their starts, and the end of the last.
use Rattle.std.specs.Prelude.{◌≡◌, ℕ, suc, ◌+◌, ◌≤◌, ◌<◌, ◌⊎◌, ◌==◌, Bool, true, false, List, [], ◌∷◌, ◌++◌, map, drop, slice_index, slice_index_or, length, refl}
use Rattle.std.specs.List.{flat_map, enumerate_from}
use Rattle.std.proofs.Common.{◌∙◌, ap, sym, arith, inl, inr, cond, append_assoc}
use Rattle.std.proofs.lemmas.Bool.{cases_Bool, eqb-true}
use Rattle.std.proofs.lemmas.Bool.Decides.{nat_tests}
use Rattle.std.proofs.lemmas.List.{drop_more}
use Rattle.omf_model.specs.declared.segment.Segment.{Segment}
use Rattle.omf_model.specs.declared.symbols.Common.{Common}
use Rattle.omf_model.specs.Segments.{segment_in}
use Rattle.omf_model.specs.Modules.{ModuleValue}
use Rattle.omf_model.specs.Place.{rounded, is_laid_out, starts_from, part_start}
use Rattle.link80.specs.Linked.{linked_commons, part_of, parts_end}
use Rattle.link80.specs.LinkLaws.{PartsEndLater}
use Rattle.link80_text.specs.Parts.{part_line, part_text, segment_text}
use Rattle.link80_text.specs.Words.{laid_text, joined_text}

-- ---- ends

above_rounded : (paged : Bool) (n : ℕ) → n ≤ rounded paged n
above_rounded true n = omega arith
above_rounded false n = omega arith

-- what is left begins with the one that is read
pub left_of : {A B : Type 0} (f : A → B) (xs : List A) (i : ℕ) (x : A) → i < length xs → x ≡ slice_index_or xs i x
    → map f (drop i xs) ≡ f x ∷ map f (drop (i + 1) xs)
left_of f xs i x inside is = ap (map f) (drop_more xs i x inside) ∙ ap (λ y. f y ∷ map f (drop (i + 1) xs)) (sym is)

pub record Fit (before : ℕ) (s : Segment) : Type 0 where
  pub first : before ≤ 65535
  pub start : rounded s.paged before ≤ 65535
  pub end : rounded s.paged before + s.length ≤ 65535

pub part_fits : PartsEndLater → (id before total : ℕ) (m : ModuleValue) (next all : List ModuleValue) → all ≡ m ∷ next → parts_end id before all ≡ total
    → total ≤ 65535 → Fit before (segment_in m.segments id)
part_fits ends_later id before total m next all is ends fits =
    let s : Segment = segment_in m.segments id in
    let up = above_rounded s.paged before in
    let later = ends_later id (rounded s.paged before + s.length) next in
    let whole : parts_end id (rounded s.paged before + s.length) next ≡ total = sym (ap (parts_end id before) is) ∙ ends in
    record {
      first = omega (arith, up, later, whole, fits);
      start = omega (arith, later, whole, fits);
      end = omega (arith, later, whole, fits);
    }

pub record Laid (commons : List Common) (id end : ℕ) (text made : List ℕ) (next all : List ModuleValue) (total : ℕ) : Type 0 where
  pub lines : text ++ laid_text commons id end next ≡ made
  pub ends : parts_end id end next ≡ total

pub one_more : (commons : List Common) (id before end total : ℕ) (text after made : List ℕ) (m : ModuleValue) (next all : List ModuleValue)
    → all ≡ m ∷ next → text ++ laid_text commons id before all ≡ made → parts_end id before all ≡ total →
    after ≡ text ++ part_line commons id (rounded (segment_in m.segments id).paged before) (segment_in m.segments id) m.name
    → end ≡ rounded (segment_in m.segments id).paged before + (segment_in m.segments id).length
    → Laid commons id end after made next all total
one_more commons id before end total text after made m next all is lines ends grown end_is =
    let s : Segment = segment_in m.segments id in
    record {
      lines =
          ap (λ t. t ++ laid_text commons id end next) grown
          ∙ append_assoc text (part_line commons id (rounded s.paged before) s m.name) (laid_text commons id end next)
          ∙ ap (λ e. text ++ (part_line commons id (rounded s.paged before) s m.name ++ laid_text commons id e next)) end_is
          ∙ ap (λ l. text ++ laid_text commons id before l) (sym is) ∙ lines;
      ends = ap (λ e. parts_end id e next) end_is ∙ ap (parts_end id before) (sym is) ∙ ends;
    }

-- ---- the segments that are laid out

laid_out_cases : (id : ℕ) → is_laid_out id ≡ true → (id ≡ 1) ⊎ ((id ≡ 2) ⊎ (id ≡ 3))
laid_out_cases id laid = elim (cases_Bool (id == 1)) [
  | inl e ↦ inl (eqb-true id 1 e)
  | inr a ↦ elim (cases_Bool (id == 2)) [
    | inl e ↦ inr (inl (eqb-true id 2 e))
    | inr b ↦ inr (inr (third id laid a b))
  ]
]
  where
    third : (id : ℕ) → is_laid_out id ≡ true → (id == 1) ≡ false → (id == 2) ≡ false → id ≡ 3
    third id laid a b = grind (arith, nat_tests, laid, a, b)

-- ---- starts

-- what a laid segment's lines are made of
abbrev laid_line : List Common → (starts : List ℕ) → ℕ → ℕ × ModuleValue → List ℕ
laid_line commons starts id m = part_line commons id (slice_index starts m.0) (segment_in m.1.segments id) m.1.name

laid_from : (commons : List Common) (starts : List ℕ) (id number before : ℕ) (ms : List ModuleValue)
    → ((k : ℕ) → slice_index starts (number + k) ≡ slice_index (starts_from id before ms) k)
    → laid_text commons id before ms ≡ flat_map (laid_line commons starts id) (enumerate_from number ms)
laid_from commons starts id number before [] same = refl
laid_from commons starts id number before (m ∷ ms) same =
    let s : Segment = segment_in m.segments id in
    let here : ℕ = rounded s.paged before in
    let at : slice_index starts number ≡ here = ap (slice_index starts) (plus_zero number) ∙ same 0 in
    ap (λ n. part_line commons id n s m.name ++ laid_text commons id (here + s.length) ms) (sym at)
    ∙ ap (λ t. laid_line commons starts id (number, m) ++ t)
    (laid_from commons starts id (number + 1) (here + s.length) ms
    (λ k. ap (slice_index starts) (next_number number k) ∙ same (suc k)))
  where
    plus_zero : (n : ℕ) → n ≡ n + 0
    plus_zero n = omega arith

    next_number : (n k : ℕ) → n + 1 + k ≡ n + suc k
    next_number n k = omega arith

flat_same : {A B : Type 0} (f g : A → List B) → ((x : A) → f x ≡ g x) → (xs : List A) → flat_map f xs ≡ flat_map g xs
flat_same f g same [] = refl
flat_same f g same (x ∷ xs) = ap (λ l. l ++ flat_map f xs) (same x) ∙ ap (λ l. g x ++ l) (flat_same f g same xs)

is_fixed : (modules : List ModuleValue) (id : ℕ) (m : ModuleValue) → is_laid_out id ≡ true
    → part_of (linked_commons modules) m id ≡ segment_in m.segments id
is_fixed modules id m laid = elim (laid_out_cases id laid) [
  | inl e ↦ rw e refl
  | inr later ↦ elim later [ inl e ↦ rw e refl | inr e ↦ rw e refl ]
]

pub laid_is : (modules : List ModuleValue) (id : ℕ) → is_laid_out id ≡ true
    → laid_text (linked_commons modules) id 0 modules ≡ segment_text modules id
laid_is modules id laid =
    laid_from (linked_commons modules) (starts_from id 0 modules) id 0 0 modules (λ k. ap (slice_index (starts_from id 0 modules)) (zero_plus k))
    ∙ flat_same (laid_line (linked_commons modules) (starts_from id 0 modules) id) (part_text modules id) (λ m.
    ap (λ n. part_line (linked_commons modules) id n (segment_in m.1.segments id) m.1.name)
    (sym (ap (λ b. cond b (slice_index (starts_from id 0 modules) m.0) 0) laid))
    ∙ ap (λ s. part_line (linked_commons modules) id (part_start modules m.0 id) s m.1.name)
    (sym (is_fixed modules id m.1 laid))) (enumerate_from 0 modules)
  where
    zero_plus : (k : ℕ) → 0 + k ≡ k
    zero_plus k = omega arith

-- ---- parts over one another

unnumbered : {A B : Type 0} (f : A → List B) (number : ℕ) (xs : List A)
    → flat_map f xs ≡ flat_map (λ (e : ℕ × A). f e.1) (enumerate_from number xs)
unnumbered f number [] = refl
unnumbered f number (x ∷ xs) = ap (λ l. f x ++ l) (unnumbered f (number + 1) xs)

pub joined_is : (modules : List ModuleValue) (id : ℕ) → is_laid_out id ≡ false
    → joined_text (linked_commons modules) id modules ≡ segment_text modules id
joined_is modules id joined =
    unnumbered (λ (m : ModuleValue). part_line (linked_commons modules) id 0 (part_of (linked_commons modules) m id) m.name) 0 modules
    ∙ flat_same (λ (m : ℕ × ModuleValue). part_line (linked_commons modules) id 0 (part_of (linked_commons modules) m.1 id) m.1.name)
    (part_text modules id) (λ m.
    ap (λ n. part_line (linked_commons modules) id n (part_of (linked_commons modules) m.1 id) m.1.name)
    (sym (ap (λ b. cond b (slice_index (starts_from id 0 modules) m.0) 0) joined))) (enumerate_from 0 modules)
