-- Tables of names, and what an external stands for by them.
use Rattle.std.specs.Prelude.{◌≡◌, ℕ, suc, ◌+◌, ◌<◌, nat_eq, nat_lt, if◌then◌else◌, Bool, true, false, Option, Some, None}
use Rattle.std.specs.Prelude.{option_map, List, [], ◌∷◌, ◌++◌, length, map, find, take, unwrap_or, slice_get, IsTrue}
use Rattle.std.specs.Option.{option_or, option_map_or}
use Rattle.std.specs.Map.{lookup}
use Rattle.std.specs.Cmp.Lexicographic.{pointwise}
use Rattle.std.proofs.Common.{refl, sym, ◌∙◌, ap, subst, arith, inl, inr, get_or}
use Rattle.std.proofs.lemmas.Bool.{cases_Bool}
use Rattle.std.proofs.lemmas.Bool.Decides.{nat_tests}
use Rattle.std.proofs.lemmas.List.{take_more, get_or_append_left, length-append, length-take}
use Rattle.std.proofs.lemmas.Option.{slice_get-get_or, slice_get_read, slice_get_within}
use Rattle.std.proofs.Math.Seq.{get_or-append_seam}
use Rattle.omf_model.specs.declared.fixup.Target.{Target}
use Rattle.omf_model.specs.declared.fixup.Target.TheVariants as target
use Rattle.omf_model.specs.declared.symbols.Common.{Common}
use Rattle.omf_model.specs.declared.symbols.Public.{Public}
use Rattle.omf_model.specs.Modules.{ModuleValue}
use Rattle.omf_model.specs.Rules.{has_target}
use Rattle.omf_model.specs.ImageByte.{name_at}
use Rattle.rom80_pattern.specs.declared.resolving.Resolved.{Resolved}
use Rattle.rom80_pattern.specs.Modules.{first_with, resolved_external}
use Rattle.rom80_pattern.specs.Names.{place_of_public, declared_at, word_of_external, index_in, meaning_in, AreNames, AddsName, AreExternals}

-- a table with keys that stand for others
pub meaning_mapped : {K : Type 0} (f : K → List ℕ) (name : List ℕ) (es : List (K × Resolved))
    → meaning_in (map (λ e. (f e.0, e.1)) es) name ≡ lookup (λ k. pointwise nat_eq name (f k)) es
meaning_mapped f name [] = refl
meaning_mapped f name (e ∷ es) = ap (λ (o : Option Resolved). if pointwise nat_eq name (f e.0) then Some e.1 else o) (meaning_mapped f name es)

-- ---- one more external at the end

index_more : (ns : List (List ℕ)) (x name : List ℕ)
    → index_in (ns ++ x ∷ []) name ≡ option_or (index_in ns name) (if pointwise nat_eq x name then Some (length ns) else None)
index_more [] x name = refl
index_more (n ∷ ns) x name =
    elim (pointwise nat_eq n name) as (λ b. (if b then Some 0 else option_map suc (index_in (ns ++ x ∷ []) name))
    ≡ option_or (if b then Some 0 else option_map suc (index_in ns name)) (if pointwise nat_eq x name then Some (suc (length ns)) else None)) [
      | true ↦ refl
      | false ↦ ap (option_map suc) (index_more ns x name) ∙ later (index_in ns name) (pointwise nat_eq x name)
    ]
  where
    later : (o : Option ℕ) (b : Bool) → option_map suc (option_or o (if b then Some (length ns) else None))
        ≡ option_or (option_map suc o) (if b then Some (suc (length ns)) else None)
    later (Some k) b = refl
    later None true = refl
    later None false = refl

pub externals_more : (publics : List Public) (ns : List (List ℕ)) (i : ℕ) (x : List ℕ) (old new : List (List ℕ × Resolved)) → i < length ns
    → x ≡ get_or ns i x → AddsName x (word_of_external i) old new → AreNames publics (take i ns) old → AreNames publics (take (i + 1) ns) new
externals_more publics ns i x old new lt is adds are = record {
  each = λ name. adds.added name ∙ ap (λ (o : Option Resolved). option_or o (if pointwise nat_eq x name then Some (word_of_external i) else None)) (are.each name)
      ∙ or_more (declared_at publics name) (index_in (take i ns) name) (pointwise nat_eq x name)
      ∙ ap (λ (o : Option ℕ). option_or (declared_at publics name) (option_map word_of_external o))
      (sym (ap (λ (l : List (List ℕ)). index_in l name) (take_more ns i x lt ∙ ap (λ (y : List ℕ). take i ns ++ y ∷ []) (sym is)) ∙ index_more (take i ns) x name
      ∙ ap (λ (k : ℕ). option_or (index_in (take i ns) name) (if pointwise nat_eq x name then Some k else None)) (taken i ns lt)));
}
  where
    or_more : (p : Option Resolved) (o : Option ℕ) (b : Bool)
        → option_or (option_or p (option_map word_of_external o)) (if b then Some (word_of_external i) else None)
        ≡ option_or p (option_map word_of_external (option_or o (if b then Some i else None)))
    or_more (Some r) o b = refl
    or_more None (Some k) b = refl
    or_more None None true = refl
    or_more None None false = refl

    taken : (k : ℕ) (l : List (List ℕ)) → k < length l → length (take k l) ≡ k
    taken k l h = omega (arith, length-take k l)

-- ---- an external by the table

first_is : (ns : List (List ℕ)) (name : List ℕ) → first_with ns name ≡ option_map_or (λ (k : ℕ). k) (index_in ns name) (length ns)
first_is [] name = refl
first_is (n ∷ ns) name =
    elim (pointwise nat_eq n name) as (λ b. (if b then 0 else suc (first_with ns name))
    ≡ option_map_or (λ (k : ℕ). k) (if b then Some 0 else option_map suc (index_in ns name)) (suc (length ns))) [
      | true ↦ refl
      | false ↦ ap suc (first_is ns name) ∙ later (index_in ns name)
    ]
  where
    later : (o : Option ℕ) → suc (option_map_or (λ (k : ℕ). k) o (length ns)) ≡ option_map_or (λ (k : ℕ). k) (option_map suc o) (suc (length ns))
    later (Some k) = refl
    later None = refl

pub external_is : (m : ModuleValue) (i : ℕ) (x : List ℕ) (names : List (List ℕ × Resolved)) → i < length m.externals → x ≡ get_or m.externals i x
    → AreNames m.publics (take i m.externals) names → unwrap_or (meaning_in names x) (word_of_external i) ≡ resolved_external m i
external_is m i x names lt is are =
    ap (λ (o : Option Resolved). unwrap_or o (word_of_external i)) (are.each x)
    ∙ cases (find (λ p. pointwise nat_eq p.name x) m.publics) (index_in (take i m.externals) x)
    (first_is (take i m.externals) x ∙ ap (λ (n : ℕ). option_map_or (λ (k : ℕ). k) (index_in (take i m.externals) x) n) (omega (arith, length-take i m.externals)))
    ∙ ap (λ (name : List ℕ). option_map_or place_of_public (find (λ p. pointwise nat_eq p.name name) m.publics) (word_of_external (first_with (take i m.externals) name))) named
  where
    named : x ≡ name_at m.externals i
    named = sym (ap (λ (o : Option (List ℕ)). unwrap_or o []) (slice_get_read m.externals (length m.externals) i x refl lt is))

    cases : (p : Option Public) (o : Option ℕ) → first_with (take i m.externals) x ≡ option_map_or (λ (k : ℕ). k) o i
        → unwrap_or (option_or (option_map place_of_public p) (option_map word_of_external o)) (word_of_external i)
        ≡ option_map_or place_of_public p (word_of_external (first_with (take i m.externals) x))
    cases (Some p) o e = refl
    cases None (Some k) e = ap word_of_external (sym e)
    cases None None e = ap word_of_external (sym e)

-- one more of the list
pub listed_more : (m : ModuleValue) (i : ℕ) (made : List Resolved) (next : Resolved) → length made ≡ i
    → ((j : ℕ) → j < i → slice_get made j ≡ Some (resolved_external m j)) → next ≡ resolved_external m i
    → (j : ℕ) → j < i + 1 → slice_get (made ++ next ∷ []) j ≡ Some (resolved_external m j)
listed_more m i made next size old is j lt = elim (cases_Bool (nat_lt j i)) [
  | inl b ↦ let before : j < i = grind (arith, nat_tests, b) in slice_get-get_or (made ++ next ∷ []) j next (omega (arith, length-append made (next ∷ [])))
      ∙ ap (λ (r : Resolved). Some r) (get_or_append_left made (next ∷ []) next j (omega arith))
      ∙ sym (slice_get-get_or made j next (omega arith)) ∙ old j before
  | inr b ↦ let same : length made ≡ j = grind (arith, nat_tests, b) in
      slice_get-get_or (made ++ next ∷ []) j next (omega (arith, length-append made (next ∷ [])))
      ∙ ap (λ (r : Resolved). Some r) (ap (λ (k : ℕ). get_or (made ++ next ∷ []) k next) (sym same) ∙ get_or-append_seam made next [] next ∙ is)
      ∙ ap (λ (k : ℕ). Some (resolved_external m k)) (omega arith)
]

-- ---- the list by a target

pub target_within : (commons : List Common) (count index : ℕ) (t : Target) → t ≡ target.External index → IsTrue (has_target commons count t) → index < count
target_within commons count index t is has =
    let there : nat_lt index count ≡ true = subst (λ (u : Target). IsTrue (has_target commons count u)) is has in grind (arith, nat_tests, there)

pub external_within : (m n : ModuleValue) (externals : List Resolved) (index : ℕ) → m ≡ n → AreExternals m externals → index < length n.externals → index < 65536
    → index < length externals
external_within m n externals index same are lt small =
    let own = subst (λ (v : ModuleValue). AreExternals v externals) same are in
    slice_get_within externals index (resolved_external n index) (own.each index lt small)

pub external_at : (m n : ModuleValue) (externals : List Resolved) (index from : ℕ) (r : Resolved) → m ≡ n → AreExternals m externals → index < length n.externals
    → index < 65536 → from ≡ index → r ≡ get_or externals from r → r ≡ resolved_external n index
external_at m n externals index from r same are lt small is read =
    let own = subst (λ (v : ModuleValue). AreExternals v externals) same are in
    let listed = own.each index lt small in
    let within = external_within m n externals index same are lt small in
    let at : slice_get externals index ≡ Some r = ap (slice_get externals) (sym is) ∙ slice_get_read externals (length externals) from r refl (omega (arith, within, is)) read in
    some_is r (resolved_external n index) (sym at ∙ listed)
  where
    some_is : (a b : Resolved) → Some a ≡ Some b → a ≡ b
    some_is a b e = cc
