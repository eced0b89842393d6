-- The nearest of some publics, and of one more.
use Rattle.std.specs.Prelude.{◌≡◌, ℕ, ◌≤◌, ◌<◌, Bool, true, false, nat_le, if◌then◌else◌, Option, Some, None, List, [], ◌∷◌, ◌++◌, find, refl}
use Rattle.std.specs.List.{AllByRecursion}
use Rattle.std.specs.Option.{option_or}
use Rattle.std.proofs.Common.{◌∙◌, ap, sym, subst, arith, cond, append_assoc, append-nil}
use Rattle.std.proofs.lemmas.Bool.{leb-true, true≢false}
use Rattle.std.proofs.lemmas.Bool.Decides.{nat_tests}
use Rattle.std.proofs.lemmas.List.Folds.{find-append}
use Rattle.image80.specs.declared.range.Range.{Range}
use Rattle.omf_model.specs.declared.symbols.Public.{Public}
use Rattle.image80_text.specs.Names.{is_at, lies_below, IsNearest, IsNearestIn}

-- the nearer one of the nearest public so far and a later one
abbrev pub nearer_of : Option Public → Public → Option Public
nearer_of None p = Some p
nearer_of (Some earlier) p = if nat_le p.offset earlier.offset then Some earlier else Some p

abbrev pub nearer : Range → ℕ → Option Public → Public → Option Public
nearer range address nearest p = if lies_below range address p then nearer_of nearest p else nearest

all_more : (P : Public → Type 0) (xs : List Public) (x : Public) → AllByRecursion P xs → P x → AllByRecursion P (xs ++ x ∷ [])
all_more P [] x all this = (this, tt)
all_more P (y ∷ ys) x all this = (all.0, all_more P ys x all.1 this)

all_weaker : (P Q : Public → Type 0) → ((x : Public) → P x → Q x) → (xs : List Public) → AllByRecursion P xs → AllByRecursion Q xs
all_weaker P Q weaker [] all = tt
all_weaker P Q weaker (x ∷ xs) all = (weaker x all.0, all_weaker P Q weaker xs all.1)

-- what none of them passes isn't found
pub none_found : (test : Public → Bool) (xs : List Public) → AllByRecursion (λ x. test x ≡ false) xs → find test xs ≡ None
none_found test [] all = refl
none_found test (x ∷ xs) all = rw (all.0) (none_found test xs all.1)

module _ (range : Range) (address : ℕ) where
  -- one at the address of another in the range is in the range
  pub other_place : (x q : Public) → lies_below range address x ≡ true
      → (lies_below range address q ≡ true → q.offset < x.offset) → is_at x.offset q ≡ false
  other_place x q lies below = grind (arith, nat_tests)

  own_place : (x : Public) → lies_below range address x ≡ true → is_at x.offset x ≡ true
  own_place x lies = grind (arith, nat_tests)

  pub lies_at_most : (x : Public) → lies_below range address x ≡ true → x.offset ≤ address
  lies_at_most x lies = grind (arith, nat_tests)

  -- one above all others is the nearest
  above : (seen : List Public) (x : Public) → lies_below range address x ≡ true →
      AllByRecursion (λ q. lies_below range address q ≡ true → q.offset < x.offset) seen →
      IsNearest range address (seen ++ x ∷ []) x
  above seen x lies below = record {
    lies = lies;
    greatest = all_more _ seen x (all_weaker _ _ (λ q less is. omega (arith, less is)) seen below) (λ is. omega arith);
    first =
        find-append (is_at x.offset) seen (x ∷ [])
        ∙ ap (λ o. option_or o (find (is_at x.offset) (x ∷ [])))
        (none_found (is_at x.offset) seen (all_weaker _ _ (λ q less. other_place x q lies less) seen below))
        ∙ rw (own_place x lies) refl;
  }

  -- one that isn't above the nearest leaves it
  kept : (seen : List Public) (p x : Public) → IsNearest range address seen p
      → (lies_below range address x ≡ true → x.offset ≤ p.offset) → IsNearest range address (seen ++ x ∷ []) p
  kept seen p x nearest most = record {
    lies = nearest.lies;
    greatest = all_more _ seen x nearest.greatest most;
    first =
        find-append (is_at p.offset) seen (x ∷ []) ∙ ap (λ o. option_or o (find (is_at p.offset) (x ∷ []))) nearest.first;
  }

  passed : (seen : List Public) (best : Option Public) (x : Public) → IsNearestIn range address seen best
      → lies_below range address x ≡ false → IsNearestIn range address (seen ++ x ∷ []) best
  passed seen None x none off = all_more _ seen x none off
  passed seen (Some p) x nearest off = kept seen p x nearest (λ is. absurd (true≢false (sym is ∙ off)))

  taken : (seen : List Public) (best : Option Public) (x : Public) → IsNearestIn range address seen best
      → lies_below range address x ≡ true → IsNearestIn range address (seen ++ x ∷ []) (nearer_of best x)
  taken seen None x none lies = above seen x lies (all_weaker _ _ (λ q off is. absurd (true≢false (sym is ∙ off))) seen none)
  taken seen (Some p) x nearest lies =
      elim (nat_le x.offset p.offset) as (λ b. nat_le x.offset p.offset ≡ b
      → IsNearestIn range address (seen ++ x ∷ []) (cond b (Some p) (Some x))) [
        | true ↦ λ e. kept seen p x nearest (λ is. leb-true x.offset p.offset e)
        | false ↦ λ e. above seen x lies
            (all_weaker _ _ (λ q most is. let le : q.offset ≤ p.offset = most is in grind (arith, nat_tests)) seen nearest.greatest)
      ] refl

  pub nearest_more : (seen : List Public) (best : Option Public) (x : Public) → IsNearestIn range address seen best →
      IsNearestIn range address (seen ++ x ∷ []) (nearer range address best x)
  nearest_more seen best x nearest =
      elim (lies_below range address x) as (λ b. lies_below range address x ≡ b
      → IsNearestIn range address (seen ++ x ∷ []) (cond b (nearer_of best x) best)) [
        | true ↦ taken seen best x nearest
        | false ↦ passed seen best x nearest
      ] refl

  -- of any publics one is the nearest, or none is in the range
  pub nearest_of_more : (left seen : List Public) (best : Option Public) → IsNearestIn range address seen best
      → (o : Option Public) × IsNearestIn range address (seen ++ left) o
  nearest_of_more [] seen best nearest =
      (best, subst (λ (ps : List Public). IsNearestIn range address ps best) (sym (append-nil seen)) nearest)
  nearest_of_more (x ∷ xs) seen best nearest =
      subst (λ (ps : List Public). (o : Option Public) × IsNearestIn range address ps o) (append_assoc seen (x ∷ []) xs)
      (nearest_of_more xs (seen ++ x ∷ []) (nearer range address best x) (nearest_more seen best x nearest))

  pub nearest_exists : (publics : List Public) → (o : Option Public) × IsNearestIn range address publics o
  nearest_exists publics = nearest_of_more publics [] None tt
