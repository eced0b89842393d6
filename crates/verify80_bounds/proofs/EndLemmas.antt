-- At the end: the sums are the greatest, and no call leads back.
use Rattle.std.proofs.Common.{ℕ, List, [], refl, sym, subst, ◌∙◌}
use Rattle.frames80.specs.declared.procedure.Procedure.{Procedure}
use Rattle.frames80.specs.declared.procedure.Procedure.TheVariants.{Entry}
use Rattle.verify80_bounds.specs.declared.graph.Depth.{Depth}
use Rattle.verify80_bounds.specs.declared.graph.CallSite.{CallSite}
use Rattle.verify80_bounds.specs.Chains.{CallsBy, Reaches, here, further, Cycles, AreEntered, AreGreatest}
use Rattle.verify80_bounds.specs.Sums.{Ends, ends, AreSums}
use Rattle.verify80_bounds.proofs.BoundLemmas.{chain_below, all_end}

-- a first call, and then others
record Onward (calls : List CallSite) (p q : Procedure) : Type 0 where
  call : CallSite
  by : CallsBy calls p call
  back : Reaches calls (Entry call.target) q

onward : (calls : List CallSite) (p q : Procedure) (call : CallSite) → Reaches calls p q → CallsBy calls q call → Onward calls p (Entry call.target)
onward calls _ _ call (here p q same) by =
    record { call = call; by = record { there = by.there; caller = by.caller ∙ sym same }; back = here (Entry call.target) (Entry call.target) refl }
onward calls _ _ call (further p q r before_call before before_by is) by =
    let first = onward calls p q before_call before before_by in
    record {
      call = first.call;
      by = first.by;
      back = further (Entry first.call.target) r (Entry call.target) call
          (subst (λ (s : Procedure). Reaches calls (Entry first.call.target) s) (sym is) first.back) by refl;
    }

-- where every chain of calls ends none leads back
no_way_back : (calls : List CallSite) (p : Procedure) → Ends calls p → Onward calls p p → ⊥
no_way_back calls _ (ends p each) way =
    no_way_back calls (Entry way.call.target) (each way.call way.by) (onward calls (Entry way.call.target) p way.call way.back way.by)

-- so none leads back
pub no_cycle : (depths : List Depth) (calls : List CallSite) (sums : List ℕ) → AreSums depths calls sums [] → (at : ℕ) → Cycles calls at → ⊥
no_cycle depths calls sums are at cycle = no_way_back calls cycle.call.caller (all_end depths calls sums are cycle.call.caller) (record {
  call = cycle.call;
  by = record { there = cycle.there; caller = refl };
  back = cycle.back;
})

-- and the sums are the greatest
pub are_greatest : (depths : List Depth) (calls : List CallSite) (sums : List ℕ) → AreSums depths calls sums [] → AreEntered depths calls → AreGreatest depths calls sums
are_greatest depths calls sums are entered = record {
  greatest = λ p first. record {
    above = λ sum chain. chain_below depths calls sums are p sum chain;
    reached = are.reached entered p first;
  };
}
