-- The last point of a route is one that a walk reaches, and a ring of calls is a recursion.
use Rattle.std.proofs.Common.{◌≡◌, ◌⊎◌, inl, inr, ℕ, List, [], ◌∷◌, refl, sym, ◌∙◌, ap, subst}
use Rattle.frames80.specs.declared.procedure.Procedure.{Procedure}
use Rattle.frames80.specs.declared.procedure.Procedure.TheVariants.{Main, Entry}
use Rattle.frames80.specs.Code.{Code}
use Rattle.verify80_flow.specs.Walks.{Calls, Walk, begins, goes_on, enters, comes_back}
use Rattle.verify80_flow.specs.Faults.{Recurs, CallsFrom, Leads, here, further}
use Rattle.verify80_walks.specs.declared.point.Point.{Point}
use Rattle.verify80_walks.specs.declared.route.Call.{Call}
use Rattle.verify80_walks.specs.declared.route.Route.{Route}
use Rattle.verify80_explain.specs.declared.explanation.Explanation.{Explanation}
use Rattle.verify80_explain.specs.declared.explanation.Explanation.TheVariants.{Way as OneWay, Ways as TwoWays, Ring}
use Rattle.verify80_walks.specs.Ways.{IsWalked, Follows, Way, Starts, IsCalled, Lead, IsRoute}
use Rattle.verify80_walks.specs.Ways.{point_of}
use Rattle.verify80_explain.specs.Shows.{RingOf, ByRing}

module _ (code : Code) where
  followed : (one other : Point) → Follows code one other → IsWalked code one → IsWalked code other
  followed one other (inl on) walk =
      subst (λ p. Walk code p other.at other.frame) (sym on.procedure) (goes_on one.procedure one.at one.frame other.at other.frame walk on.on)
  followed one other (inr back) walk =
      subst (λ p. Walk code p other.at other.frame) (sym back.procedure)
      (comes_back one.procedure one.at one.frame back.target other.at back.inside back.callee back.taken other.frame walk back.call back.walk back.return back.after)

  same_procedure : (one other : Point) → Follows code one other → other.procedure ≡ one.procedure
  same_procedure one other (inl on) = on.procedure
  same_procedure one other (inr back) = back.procedure

  walked : (one : Point) (rest : List Point) (last : Point) → Way code one rest last → IsWalked code one → IsWalked code last
  walked one [] last way walk = subst (IsWalked code) way walk
  walked one (other ∷ rest) last way walk = walked other rest last way.1 (followed one other way.0 walk)

  within : (one : Point) (rest : List Point) (last : Point) → Way code one rest last → last.procedure ≡ one.procedure
  within one [] last way = ap (λ (p : Point). p.procedure) (sym way)
  within one (other ∷ rest) last way = within other rest last way.1 ∙ same_procedure one other way.0

  -- a procedure that calls lead to is called on a walk, unless it is the first
  entered : (p q : Procedure) (calls : List Call) → Lead code p calls q → (p ≡ q) ⊎ ((call : Call) × IsCalled code call × (Entry call.target ≡ q))
  entered p q [] e = inl e
  entered p q (call ∷ rest) e = by (entered (Entry call.target) q rest e.2)
    where
      by : (Entry call.target ≡ q) ⊎ ((c : Call) × IsCalled code c × (Entry c.target ≡ q)) → (p ≡ q) ⊎ ((c : Call) × IsCalled code c × (Entry c.target ≡ q))
      by (inl is) = inr (call, e.1, is)
      by (inr found) = inr found

  main_is_no_entry : (target : ℕ) → Main ≡ Entry target → ⊥
  main_is_no_entry target e = cc

  same_target : (a b : ℕ) → Entry a ≡ Entry b → a ≡ b
  same_target a b e = cc

  -- a route to a point is one to the point of these parts
  pub to_point : (route : Route) (last : Point) (p : Procedure) (at : ℕ) → IsRoute code route last → last.procedure ≡ p → last.at ≡ at → IsRoute code route (point_of p at last.frame)
  to_point route last p at is of_p is_at = subst (IsRoute code route) (λ i. record { procedure = of_p i; at = is_at i; frame = last.frame }) is

  pub reached : (route : Route) (last : Point) → IsRoute code route last → IsWalked code last
  reached route last is = walked is.first is.rest last is.way (begun is.starts)
    where
      begun : Starts code is.first → IsWalked code is.first
      begun (inl begin) = begins is.first.procedure is.first.at is.first.frame begin
      begun (inr enter) = by (entered Main last.procedure route.calls.items is.calls)
        where
          to_first : last.procedure ≡ Entry enter.0
          to_first = within is.first is.rest last is.way ∙ enter.1.procedure

          by : (Main ≡ last.procedure) ⊎ ((call : Call) × IsCalled code call × (Entry call.target ≡ last.procedure)) → IsWalked code is.first
          by (inl main) = absurd (main_is_no_entry enter.0 (main ∙ to_first))
          by (inr found) =
              let call = found.0 in
              let called = found.1 in
              let same : call.target ≡ enter.0 = same_target call.target enter.0 (found.2 ∙ to_first) in
              let calls : Calls code call.caller call.at called.frame enter.0 called.next = subst (λ t. Calls code call.caller call.at called.frame t called.next) same called.calls in
              enters call.caller call.at called.frame enter.0 called.next is.first.procedure is.first.at is.first.frame called.walk calls enter.1

  -- calls that lead on lead from one procedure to another
  leads : (p q r : Procedure) (calls : List Call) → Leads code p q → Lead code q calls r → Leads code p r
  leads p q r [] so_far e = subst (Leads code p) e so_far
  leads p q r (call ∷ rest) so_far e =
      leads p (Entry call.target) r rest (further p q (Entry call.target) call.target so_far (from call q e.0 e.1) refl) e.2
    where
      from : (call : Call) (q : Procedure) → call.caller ≡ q → IsCalled code call → CallsFrom code q call.target
      from call q is called = subst (λ p. CallsFrom code p call.target) is (record { at = call.at; frame = called.frame; next = called.next; walk = called.walk; call = called.calls })

  -- a ring recurs
  pub recurs : (at : ℕ) (shown : Explanation) → ByRing code at shown → Recurs code at
  recurs at (Ring calls ring) s = by calls.items ring.items s
    where
      by : (calls ring : List Call) → RingOf code at calls ring → Recurs code at
      by calls [] s = absurd s
      by calls (first ∷ rest) s =
          let called = s.back.1 in
          record {
            procedure = first.caller;
            frame = called.frame;
            target = first.target;
            next = called.next;
            walk = subst (λ a. Walk code first.caller a called.frame) s.is_at called.walk;
            call = subst (λ a. Calls code first.caller a called.frame first.target called.next) s.is_at called.calls;
            back = leads (Entry first.target) (Entry first.target) first.caller rest (here (Entry first.target) (Entry first.target) refl) s.back.2;
          }
  recurs at (OneWay a) s = absurd s
  recurs at (TwoWays a b) s = absurd s
