-- The names of all publics, and the main programs.
use Rattle.std.specs.Prelude.{◌≡◌, ◌<◌, ℕ, ◌+◌, nat_eq, true, false, ◌||◌, if◌then◌else◌, Option, Some, None, option_map, List, [], ◌∷◌, ◌++◌, drop, length, map, slice_get, is_some, refl}
use Rattle.std.specs.List.{list_any, flat_map, enumerate_from, cons_option}
use Rattle.std.specs.Cmp.Lexicographic.{pointwise}
use Rattle.std.proofs.Common.{◌∙◌, ap, sym, arith}
use Rattle.omf_model.specs.declared.symbols.Public.{Public}
use Rattle.omf_model.specs.Modules.{ModuleValue}
use Rattle.link80.specs.FirstSight.{is_among}
use Rattle.link80.specs.Gathered.{names_of_publics, again_in, mains_from}
use Rattle.link80.specs.Linked.{linked_public, linked_publics}
use Rattle.link80.specs.LinkFault.{first_again}
use Rattle.link80.proofs.FirstSightLemmas.{same_both_ways}
use Rattle.link80.proofs.ListLemmas.{map_append}
use Rattle.link80.proofs.LoopLemmas.{left_at}

-- ---- publics by their names

stands_before : (before : List Public) (name : List ℕ)
    → list_any (λ q. pointwise nat_eq q.name name) before ≡ is_among (map (λ q. q.name) before) name
stands_before [] name = refl
stands_before (b ∷ bs) name = ap (λ t. t || list_any (λ q. pointwise nat_eq q.name name) bs) (same_both_ways b.name name)
    ∙ ap (λ t. pointwise nat_eq name b.name || t) (stands_before bs name)

pub again_by_names : (before ps : List Public)
    → first_again before ps ≡ again_in (map (λ p. p.name) before) (map (λ p. p.name) ps)
again_by_names before [] = refl
again_by_names before (p ∷ ps) =
    ap (λ b. if b then Some p.name else first_again (before ++ p ∷ []) ps) (stands_before before p.name)
    ∙ ap (λ o. if is_among (map (λ q. q.name) before) p.name then Some p.name else o) (again_by_names (before ++ p ∷ []) ps
    ∙ ap (λ l. again_in l (map (λ q. q.name) ps)) (map_append (λ (q : Public). q.name) before (p ∷ [])))

names_from : (all : List ModuleValue) (n : ℕ) (ms : List ModuleValue)
    → map (λ p. p.name) (flat_map (λ m. map (linked_public all m) m.1.publics) (enumerate_from n ms))
    ≡ flat_map names_of_publics ms
names_from all n [] = refl
names_from all n (m ∷ ms) =
    map_append (λ (p : Public). p.name) (map (linked_public all (n, m)) m.publics)
    (flat_map (λ k. map (linked_public all k) k.1.publics) (enumerate_from (n + 1) ms))
    ∙ ap (λ l. l ++ map (λ p. p.name) (flat_map (λ k. map (linked_public all k) k.1.publics) (enumerate_from (n + 1) ms)))
    (kept m.publics)
    ∙ ap (λ l. names_of_publics m ++ l) (names_from all (n + 1) ms)
  where
    kept : (ps : List Public) → map (λ p. p.name) (map (linked_public all (n, m)) ps) ≡ map (λ p. p.name) ps
    kept [] = refl
    kept (p ∷ ps) = ap (λ l. p.name ∷ l) (kept ps)

pub names_linked : (modules : List ModuleValue) → map (λ p. p.name) (linked_publics modules) ≡ flat_map names_of_publics modules
names_linked modules = names_from modules 0 modules

pub again_linked : (modules : List ModuleValue)
    → first_again [] (linked_publics modules) ≡ again_in [] (flat_map names_of_publics modules)
again_linked modules = again_by_names [] (linked_publics modules) ∙ ap (again_in []) (names_linked modules)

-- ---- main programs

pub mains_at : (ms : List ModuleValue) (n : ℕ) (m : ModuleValue) → slice_get ms n ≡ Some m →
    mains_from n (drop n ms) ≡ cons_option (option_map (λ start. n) m.start) (mains_from (n + 1) (drop (n + 1) ms))
mains_at ms n m at = ap (mains_from n) (left_at ms n m at)

pub a_main : {A : Type 0} (start : Option A) (n : ℕ) → is_some start ≡ true → option_map (λ s. n) start ≡ Some n
a_main None n is = absurd cc
a_main (Some s) n is = refl

pub no_main : {A : Type 0} (start : Option A) (n : ℕ) → is_some start ≡ false → option_map (λ s. n) start ≡ None
no_main None n is = refl
no_main (Some s) n is = absurd cc

pub two_are : (main : Option ℕ) (n : ℕ) (rest : List ℕ) → is_some main ≡ true → 1 < length (cons_option main (n ∷ rest))
two_are None n rest is = absurd cc
two_are (Some k) n rest is = omega arith

pub names_at : (ms : List ModuleValue) (n : ℕ) (m : ModuleValue) → slice_get ms n ≡ Some m →
    flat_map names_of_publics (drop n ms) ≡ names_of_publics m ++ flat_map names_of_publics (drop (n + 1) ms)
names_at ms n m at = ap (flat_map names_of_publics) (left_at ms n m at)

no_other : (main : Option ℕ) (ns : List ℕ) → is_some main ≡ false → ns ≡ cons_option main ns
no_other None ns is = refl
no_other (Some k) ns is = absurd cc

-- the first main program, and another module
pub main_here : (ms : List ModuleValue) (n : ℕ) (m : ModuleValue) (main : Option ℕ) → slice_get ms n ≡ Some m
    → is_some m.start ≡ true → is_some main ≡ false →
    cons_option (Some n) (mains_from (n + 1) (drop (n + 1) ms)) ≡ cons_option main (mains_from n (drop n ms))
main_here ms n m main at is none =
    ap (λ o. cons_option o (mains_from (n + 1) (drop (n + 1) ms))) (sym (a_main m.start n is))
    ∙ sym (mains_at ms n m at) ∙ no_other main (mains_from n (drop n ms)) none

pub no_main_here : (ms : List ModuleValue) (n : ℕ) (m : ModuleValue) (main : Option ℕ) → slice_get ms n ≡ Some m
    → is_some m.start ≡ false →
    cons_option main (mains_from (n + 1) (drop (n + 1) ms)) ≡ cons_option main (mains_from n (drop n ms))
no_main_here ms n m main at is =
    ap (cons_option main) (ap (λ o. cons_option o (mains_from (n + 1) (drop (n + 1) ms))) (sym (no_main m.start n is))
    ∙ sym (mains_at ms n m at))
