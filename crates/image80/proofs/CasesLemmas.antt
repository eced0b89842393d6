-- The cases of case lines.
use Rattle.std.proofs.Common.{◌≡◌, ℕ, zero, suc, ◌+◌, ◌<◌, ◌≤◌, ◌==◌, ◌||◌, ◌&&◌, Bool, true, false, eqb, List, [], ◌∷◌, ◌++◌, length, get_or, take, map, refl, ap, sym, subst, ◌∙◌, arith}
use Rattle.std.specs.Prelude.{All, IsPermutation, Contains, Option}
use Rattle.std.specs.List.{IsDistinct, cons_option, dedup}
use Rattle.std.specs.List.Sorted.{IsNonDecreasingBy, IsSorted}
use Rattle.std.specs.Ordering.{nat_cmp}
use Rattle.std.proofs.lemmas.Bool.{eq-eqb, eqb-true}
use Rattle.std.proofs.lemmas.Bool.Decides.{nat_tests}
use Rattle.std.proofs.lemmas.List.{map-append, take_more}
use Rattle.std.proofs.lemmas.List.Elements.{All-push, filter_map-append}
use Rattle.std.proofs.lemmas.List.Filters.{All-dedup}
use Rattle.std.proofs.lemmas.List.Folds.{list_any-append}
use Rattle.std.proofs.lemmas.List.Kept.{AllPairs-from_increasing, Contains-dedup_nat, Contains-from_dedup}
use Rattle.std.proofs.lemmas.List.Sorted.{IsPermutation-map, IsPermutation-sym, All-permutation, Contains-permutation, list_any-IsPermutation}
use Rattle.std.proofs.lemmas.Map.Keys.{IsDistinct-IsPermutation, apart_from_distinct, IsStrictlyIncreasing-dedup}
use Rattle.image80.specs.declared.entry.Entry.{Entry}
use Rattle.image80.specs.Case.{DeclaredCase, IsCase, is_target, has_target}
use Rattle.image80.specs.CaseLine.{IsCaseLine}
use Rattle.image80.specs.RegionsText.{case_of, case_lines}
use Rattle.image80.specs.Reading.{IsCaseOf, AreCasesOf}

-- ---- the targets of one case

-- a number is a target exactly where the list contains it
contains_target : (ts : List ℕ) (t : ℕ) → is_target ts t ≡ true → Contains ts t
contains_target [] t is = cc
contains_target (x ∷ xs) t is =
    (elim (x == t) as (λ b. (x == t) ≡ b → (b || is_target xs t) ≡ true → Contains (x ∷ xs) t) [
      | true ↦ λ here _. (0, omega arith, eqb-true x t here)
      | false ↦ λ _ later. let found : Contains xs t = contains_target xs t later in (suc found.0, omega (arith, found.1), found.2)
    ]) refl is

target_contained : (ts : List ℕ) (t k : ℕ) → k < length ts → get_or ts k t ≡ t → is_target ts t ≡ true
target_contained [] t k inside is = absurd (omega arith)
target_contained (x ∷ xs) t zero inside is = ap (λ b. b || is_target xs t) (eq-eqb x t is)
target_contained (x ∷ xs) t (suc k) inside is = ap (λ b. (x == t) || b) (target_contained xs t k (omega arith) is) ∙ or_true (x == t)
  where
    or_true : (b : Bool) → (b || true) ≡ true
    or_true true = refl
    or_true false = refl

same_test : (a b : Bool) → (a ≡ true → b ≡ true) → (b ≡ true → a ≡ true) → a ≡ b
same_test true b there back = sym (there refl)
same_test false true there back = back refl
same_test false false there back = refl

-- targets that were sorted and made distinct are the same set
pub same_set : (before sorted : List ℕ) (t : ℕ) → IsPermutation before sorted → is_target (dedup eqb sorted) t ≡ is_target before t
same_set before sorted t moved = same_test (is_target (dedup eqb sorted) t) (is_target before t)
    (λ is. let found : Contains before t = Contains-permutation sorted before t (IsPermutation-sym before sorted moved) (Contains-from_dedup eqb sorted t (contains_target (dedup eqb sorted) t is)) in
    target_contained before t found.0 found.1 found.2)
    (λ is. let found : Contains (dedup eqb sorted) t = Contains-dedup_nat sorted t (Contains-permutation before sorted t moved (contains_target before t is)) in
    target_contained (dedup eqb sorted) t found.0 found.1 found.2)

some_left : (xs : List ℕ) (x : ℕ) → is_target xs x ≡ true → 0 < length xs
some_left [] x is = cc
some_left (y ∷ ys) x is = omega arith

has_some : (ts : List ℕ) → 0 < length ts → (t : ℕ) × (is_target ts t ≡ true)
has_some [] some = absurd (omega arith)
has_some (t ∷ ts) some = (t, ap (λ b. b || is_target ts t) (eq-eqb t t refl))

-- the case of a line
pub case_of_line : (line : DeclaredCase) (copied sorted distinct : List ℕ) → IsCaseLine line → copied ≡ line.targets → IsPermutation copied sorted → IsSorted nat_cmp sorted →
    distinct ≡ dedup eqb sorted → IsCaseOf line (record { at = line.at; targets = distinct })
case_of_line line copied sorted distinct rules copied_is moved' up distinct_is =
    let moved : IsPermutation line.targets sorted = subst (λ l. IsPermutation l sorted) copied_is moved' in
    let one = has_some line.targets rules.some in
    let make : List ℕ → DeclaredCase = λ ts. record { at = line.at; targets = ts } in
    subst (λ ts. IsCaseOf line (make ts)) (sym distinct_is)
    (record {
      at = refl;
      targets = λ t. same_set line.targets sorted t moved;
      rules = record {
        word = rules.word;
        some = some_left (dedup eqb sorted) one.0 (same_set line.targets sorted one.0 moved ∙ one.1);
        words = All-dedup eqb (λ target. target < 65536) sorted (All-permutation (λ target. target < 65536) line.targets sorted moved rules.words);
        ascending = AllPairs-from_increasing (dedup eqb sorted) (IsStrictlyIncreasing-dedup sorted up);
      };
    })

-- ---- the cases of all lines

-- the cases of lines, in their order
pub record AreDrawn (lines cases : List DeclaredCase) : Type 0 where
  pub each : All IsCase cases
  pub addresses : map (λ case. case.at) cases ≡ map (λ case. case.at) lines
  pub pairs : (address target : ℕ) → has_target cases address target ≡ has_target lines address target

-- one more line
pub drawn_more : (lines cases : List DeclaredCase) (line case : DeclaredCase) → AreDrawn lines cases → IsCaseOf line case → AreDrawn (lines ++ line ∷ []) (cases ++ case ∷ [])
drawn_more lines cases line case drawn one = record {
  each = All-push IsCase cases case drawn.each one.rules;
  addresses =
      map-append (λ c. c.at) cases (case ∷ [])
      ∙ ap (λ l. l ++ case.at ∷ []) drawn.addresses ∙ ap (λ a. map (λ c. c.at) lines ++ a ∷ []) one.at
      ∙ sym (map-append (λ c. c.at) lines (line ∷ []));
  pairs = λ a t.
      list_any-append (λ c. c.at == a && is_target c.targets t) cases (case ∷ [])
      ∙ ap (λ b. b || ((case.at == a && is_target case.targets t) || false)) (drawn.pairs a t)
      ∙ ap (λ n. has_target lines a t || ((n == a && is_target case.targets t) || false)) one.at
      ∙ ap (λ b. has_target lines a t || ((line.at == a && b) || false)) (one.targets t)
      ∙ sym (list_any-append (λ c. c.at == a && is_target c.targets t) lines (line ∷ []));
}

-- the case lines with one more line
pub lines_more : (entries : List Entry) (i : ℕ) (d : Entry) → i < length entries → (o : Option DeclaredCase) → case_of (get_or entries i d) ≡ o →
    case_lines (take (i + 1) entries) ≡ case_lines (take i entries) ++ cons_option o []
lines_more entries i d inside o is =
    ap case_lines (take_more entries i d inside)
    ∙ filter_map-append case_of (take i entries) (get_or entries i d ∷ [])
    ∙ ap (λ p. case_lines (take i entries) ++ cons_option p []) is

get_or-at : (cases : List DeclaredCase) (i : ℕ) (d : DeclaredCase) → get_or (map (λ c. c.at) cases) i d.at ≡ (get_or cases i d).at
get_or-at [] i d = refl
get_or-at (c ∷ cs) zero d = refl
get_or-at (c ∷ cs) (suc i) d = get_or-at cs i d

length-at : (cases : List DeclaredCase) → length (map (λ (c : DeclaredCase). c.at) cases) ≡ length cases
length-at [] = refl
length-at (c ∷ cs) = ap suc (length-at cs)

flips : (x y : ℕ) → eqb x y ≡ eqb y x
flips x y = grind (arith, nat_tests)

-- put by address
pub by_address_from : (lines drawn cases : List DeclaredCase) → AreDrawn lines drawn → IsPermutation drawn cases → IsNonDecreasingBy (λ case. case.at) cases →
    IsDistinct eqb (map (λ case. case.at) lines) → AreCasesOf lines cases
by_address_from lines drawn cases is moved up distinct =
    let apart : IsDistinct eqb (map (λ (c : DeclaredCase). c.at) cases) =
    IsDistinct-IsPermutation eqb flips (map (λ c. c.at) drawn) (map (λ c. c.at) cases) (IsPermutation-map (λ c. c.at) drawn cases moved) (subst (λ l. IsDistinct eqb l) (sym is.addresses) distinct) in
    record {
      by_address = λ i j d order inside.
          let rises : (get_or cases i d).at ≤ (get_or cases j d).at = up i j d (omega arith) inside in
          let unlike : eqb (get_or (map (λ (c : DeclaredCase). c.at) cases) i d.at) (get_or (map (λ (c : DeclaredCase). c.at) cases) j d.at) ≡ false =
          apart_from_distinct eqb (map (λ c. c.at) cases) i j d.at apart order (subst (λ n. j < n) (sym (length-at cases)) inside) in
          let other : eqb (get_or cases i d).at (get_or cases j d).at ≡ false = ap (λ a. eqb a (get_or cases j d).at) (sym (get_or-at cases i d)) ∙ ap (λ b. eqb (get_or (map (λ (c : DeclaredCase). c.at) cases) i d.at) b) (sym (get_or-at cases j d)) ∙ unlike in
          grind (arith, nat_tests);
      each = All-permutation IsCase drawn cases moved is.each;
      pairs = λ a t. sym (list_any-IsPermutation (λ c. c.at == a && is_target c.targets t) drawn cases moved) ∙ is.pairs a t;
    }
