-- Ways gone backwards, calls that lead on; and that points which come from earlier ones are reached.
use Rattle.std.proofs.Common.{◌≡◌, ◌<◌, inl, inr, ℕ, zero, suc, List, [], ◌∷◌, ◌++◌, Some, length, get_or, reverse, slice_get, refl, sym, ◌∙◌, ap, subst, arith}
use Rattle.std.specs.Prelude.{Option}
use Rattle.std.proofs.lemmas.Option.{same_Some, slice_get-get_or, slice_get_within}
use Rattle.std.proofs.lemmas.List.{reverse-append}
use Rattle.frames80.specs.declared.procedure.Procedure.{Procedure}
use Rattle.frames80.specs.declared.procedure.Procedure.TheVariants.{Entry}
use Rattle.frames80.specs.Code.{Code}
use Rattle.frames80.specs.Lists.{there_is}
use Rattle.verify80_flow.specs.Walks.{Returns, Walk, begins, goes_on, enters, comes_back}
use Rattle.verify80_walks.specs.declared.point.Point.{Point}
use Rattle.verify80_walks.specs.declared.route.Call.{Call}
use Rattle.verify80_walks.specs.declared.search.Origin.{Origin}
use Rattle.verify80_walks.specs.declared.search.Origin.TheVariants.{Begins, GoesOn, Enters, ComesBack}
use Rattle.verify80_walks.specs.Ways.{Follows, IsCalled, IsWalked, Lead, Starts}
use Rattle.verify80_walks.specs.Reached.{AreReached, AreWalked, Comes as ComesFrom}
use Rattle.verify80_walks.specs.Backwards.{IsBackwards, IsBefore, IsNext, IsStart, IsWayTo}

-- a way gone backwards has one point more
pub back-step : (code : Code) (points : List Point) (from before : ℕ) (back : List Point) (last one : Point) → IsBackwards code points from back last → IsNext code points before from → slice_get points before ≡ Some one →
    IsBackwards code points before (back ++ one ∷ []) last
back-step code points from before back last one h n e = record {
  first = one;
  rest = h.first ∷ h.rest;
  is_first = e;
  is = reverse-append back (one ∷ []) ∙ ap (λ xs. one ∷ xs) h.is;
  way = (subst (λ p. Follows code p h.first) (same_Some n.one one (sym n.is_one ∙ e)) (subst (Follows code n.one) (same_Some n.other h.first (sym n.is_other ∙ h.is_first)) n.follows), h.way);
}

pub back-begin : (code : Code) (points : List Point) (from : ℕ) (last one : Point) → slice_get points from ≡ Some last → slice_get points from ≡ Some one → IsBackwards code points from (one ∷ []) last
back-begin code points from last one e f = record { first = one; rest = []; is_first = f; is = refl; way = same_Some one last (sym f ∙ e) }

-- a way that has been gone backwards to its start
pub way-to : (code : Code) (points : List Point) (from : ℕ) (back items : List Point) (last : Point) → IsBackwards code points from back last → IsStart code points from → items ≡ reverse back → IsWayTo code items last
way-to code points from back items last b s e = record {
  first = b.first;
  rest = b.rest;
  is = e ∙ b.is;
  starts = subst (Starts code) (same_Some s.point b.first (sym s.is ∙ b.is_first)) s.starts;
  way = b.way;
}

-- a call more that leads on
pub lead-push : (code : Code) (p : Procedure) (led : List Call) (q : Procedure) (call : Call) → Lead code p led q → call.caller ≡ q → IsCalled code call → Lead code p (led ++ call ∷ []) (Entry call.target)
lead-push code p [] q call e of called = (of ∙ sym e, called, refl)
lead-push code p (one ∷ led) q call c of called = (c.0, c.1, lead-push code (Entry one.target) led q call c.2 of called)

-- one step of a walk, from what is walked before it
walk_step : (code : Code) (points : List Point) (n : ℕ) (point : Point) → ((i : ℕ) → i < n → (p : Point) → slice_get points i ≡ Some p → IsWalked code p) → (origin : Origin) → ComesFrom code points n point origin → IsWalked code point
walk_step code points n point before Begins c = begins point.procedure point.at point.frame c
walk_step code points n point before (GoesOn i) c =
    let walk = before i c.earlier c.point c.is in
    subst (λ p. Walk code p point.at point.frame) (sym c.there.procedure) (goes_on c.point.procedure c.point.at c.point.frame point.at point.frame walk c.there.on)
walk_step code points n point before (Enters i) c =
    let walk = before i c.earlier c.point c.is in
    enters c.point.procedure c.point.at c.point.frame c.there.target c.there.next point.procedure point.at point.frame walk c.there.call c.there.enter
walk_step code points n point before (ComesBack call exit) c =
    let one = c.point in
    let callee = c.there.point in
    let back = c.there.there in
    let walk = before call c.earlier one c.is in
    let inside = before exit c.there.earlier callee c.there.is in
    subst (λ p. Walk code p point.at point.frame) (sym back.procedure)
    (comes_back one.procedure one.at one.frame back.target point.at callee.at callee.frame back.taken point.frame walk back.call
    (subst (λ p. Walk code p callee.at callee.frame) back.inside inside)
    (subst (λ p. Returns code p callee.at callee.frame back.taken) back.inside back.return)
    back.after)

module _ (code : Code) (points : List Point) (origins : List Origin) (h : AreReached code points origins) where
  origin_at : (n : ℕ) (point : Point) → slice_get points n ≡ Some point → (origin : Origin) × (slice_get origins n ≡ Some origin)
  origin_at n point e = let w = slice_get_within points n point e in there_is origins n (omega (arith, w, h.paired))

  walk_below : (fuel n : ℕ) → n < fuel → (point : Point) → slice_get points n ≡ Some point → IsWalked code point
  walk_below zero n below point e = absurd (omega (arith, below))
  walk_below (suc fuel) n below point e =
      let found = origin_at n point e in
      walk_step code points n point (λ i less p is. walk_below fuel i (omega (arith, less, below)) p is) found.0 (h.comes n point found.0 e found.1)

  pub walked : AreWalked code points
  walked = record { each = λ n point e. walk_below (suc n) n (omega arith) point e }

  -- the point before, by the origin
  module _ (n : ℕ) (there : n < length points) where
    here : (point : Point) × (slice_get points n ≡ Some point)
    here = there_is points n there

    pub next-on : (i : ℕ) → slice_get origins n ≡ Some (GoesOn i) → IsNext code points i n
    next-on i o = let c = h.comes n here.0 (GoesOn i) here.1 o in record { one = c.point; other = here.0; is_one = c.is; is_other = here.1; follows = inl c.there }

    pub next-back : (call exit : ℕ) → slice_get origins n ≡ Some (ComesBack call exit) → IsNext code points call n
    next-back call exit o =
        let c = h.comes n here.0 (ComesBack call exit) here.1 o in
        let callee = c.there.point in
        let back = c.there.there in
        let inside = walked.each exit callee c.there.is in
        record {
          one = c.point;
          other = here.0;
          is_one = c.is;
          is_other = here.1;
          follows = inr (record {
            procedure = back.procedure;
            target = back.target;
            call = back.call;
            inside = callee.at;
            callee = callee.frame;
            taken = back.taken;
            walk = subst (λ p. Walk code p callee.at callee.frame) back.inside inside;
            return = subst (λ p. Returns code p callee.at callee.frame back.taken) back.inside back.return;
            after = back.after;
          });
        }

    -- the origin that is read
    read : (origin : Origin) → get_or origins n Begins ≡ origin → slice_get origins n ≡ Some origin
    read origin e = let paired = h.paired in slice_get-get_or origins n Begins (omega (arith, there, paired)) ∙ ap (λ o. Some o) e

    pub before-on : (from : ℕ) → get_or origins n Begins ≡ GoesOn from → (found : Option ℕ) → (from < n → found ≡ Some from) → IsBefore code points n found
    before-on from e found is =
        let o = read (GoesOn from) e in
        let c = h.comes n here.0 (GoesOn from) here.1 o in
        subst (IsBefore code points n) (sym (is c.earlier)) (next-on from o)

    pub before-back : (call exit : ℕ) → get_or origins n Begins ≡ ComesBack call exit → (found : Option ℕ) → (call < n → found ≡ Some call) → IsBefore code points n found
    before-back call exit e found is =
        let o = read (ComesBack call exit) e in
        let c = h.comes n here.0 (ComesBack call exit) here.1 o in
        subst (IsBefore code points n) (sym (is c.earlier)) (next-back call exit o)

    pub start-begins : get_or origins n Begins ≡ Begins → IsStart code points n
    start-begins e = record { point = here.0; is = here.1; starts = inl (h.comes n here.0 Begins here.1 (read Begins e)) }

    pub start-enters : (i : ℕ) → get_or origins n Begins ≡ Enters i → IsStart code points n
    start-enters i e = let c = h.comes n here.0 (Enters i) here.1 (read (Enters i) e) in record { point = here.0; is = here.1; starts = inr (c.there.target, c.there.enter) }
