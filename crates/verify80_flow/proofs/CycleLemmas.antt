-- From the lists of a program's depths and calls to its walks, and back: chains, calls that lead back, and what follows at the end.
use Rattle.std.proofs.Common.{◌≡◌, ℕ, List, refl, sym, ap, subst, ◌∙◌}
use Rattle.std.specs.Prelude.{ℤ, pos, ◌+ℤ◌}
use Rattle.std.proofs.lemmas.List.Elements.{All-contains}
use Rattle.frames80.specs.StackFrame.{StackFrame, entry_frame}
use Rattle.frames80.specs.Calls.{depth_of}
use Rattle.frames80.specs.declared.procedure.Procedure.{Procedure}
use Rattle.frames80.specs.declared.procedure.Procedure.TheVariants.{Main, Entry}
use Rattle.verify80_bounds.specs.declared.graph.Depth.{Depth}
use Rattle.verify80_bounds.specs.declared.graph.CallSite.{CallSite}
use Rattle.frames80.specs.Code.{Code, role_of}
use Rattle.verify80_flow.specs.Walks.{Walk, begins, goes_on, enters, comes_back, Calls}
use Rattle.verify80_flow.specs.Use.{Use, last as use_last, through as use_through, EndsChain, Chains}
use Rattle.verify80_flow.specs.Faults.{CallsFrom, Leads, here as leads_here, further as leads_further, Recurs}
use Rattle.verify80_bounds.specs.Chains.{bytes_of, HasLast, CallsBy, Chain, last, through, Reaches, here, further, Cycles, AreEntered, AreGreatest}
use Rattle.verify80_flow.specs.Graph.{HasDepth, HasCall, IsGraph, AreBounds, NoneRecurs}

-- a depth of a walk is one of the list's
last_from : (code : Code) (depths : List Depth) (calls : List CallSite) → IsGraph code depths calls → (p : Procedure) (depth : ℤ) →
    HasDepth code p depth → HasLast depths p depth
last_from code depths calls graph p depth has =
    let any = graph.every_depth p depth has in
    record { depth = any.1; there = (any.0, any.2, any.3); procedure = any.4.0; is = sym any.4.1 }

-- every procedure that has a walk begins with no bytes
first_depth : (code : Code) (p : Procedure) (at : ℕ) (f : StackFrame) → Walk code p at f → HasDepth code p (pos 0)
first_depth code _ _ _ (begins p at f begin) =
    record {
      at = at;
      frame = f;
      walk = begins p at f begin;
      is = subst (λ (q : Procedure). pos 0 ≡ depth_of (role_of code q) f) (sym begin.procedure)
          (subst (λ (g : StackFrame). pos 0 ≡ depth_of (role_of code Main) g) (sym begin.frame) refl);
    }
first_depth code _ _ _ (goes_on p at f to g walk on) = first_depth code p at f walk
first_depth code _ _ _ (enters p at f target next q start g walk call enter) =
    record {
      at = start;
      frame = g;
      walk = enters p at f target next q start g walk call enter;
      is = subst (λ (r : Procedure). pos 0 ≡ depth_of (role_of code r) g) (sym enter.procedure)
          (subst (λ (h : StackFrame). pos 0 ≡ depth_of (role_of code (Entry target)) h) (sym enter.frame) refl);
    }
first_depth code _ _ _ (comes_back p at f target next exit h taken g walk call inside return after) = first_depth code p at f walk

-- each callee is entered
pub entered : (code : Code) (depths : List Depth) (calls : List CallSite) → IsGraph code depths calls → AreEntered depths calls
entered code depths calls graph = record {
  entered = λ c there.
      let site = All-contains (λ (c : CallSite). HasCall code c.caller c.at c.depth c.target) calls c graph.call there in
      last_from code depths calls graph (Entry c.target) (pos 0)
      (first_depth code (Entry c.target) c.target entry_frame
      (enters c.caller c.at site.frame c.target site.next (Entry c.target) c.target entry_frame site.walk site.call
      (record { procedure = refl; start = refl; frame = refl })));
}

-- a chain of the lists is one of the program
pub use_from_chain : (code : Code) (depths : List Depth) (calls : List CallSite) → IsGraph code depths calls → (p : Procedure) (bytes : ℤ) →
    Chain depths calls p bytes → Use code p bytes
use_from_chain code depths calls graph _ _ (last p bytes has) =
    let d = has.depth in
    let walk = All-contains (λ (d : Depth). HasDepth code d.procedure d.depth) depths d graph.depth has.there in
    use_last p bytes (subst (λ (q : Procedure). EndsChain code q bytes) has.procedure
    (record { at = walk.at; frame = walk.frame; walk = walk.walk; sum = has.is ∙ walk.is }))
use_from_chain code depths calls graph _ _ (through p call below bytes by rest is) =
    let site = All-contains (λ (c : CallSite). HasCall code c.caller c.at c.depth c.target) calls call graph.call by.there in
    use_through p call.target below bytes (use_from_chain code depths calls graph (Entry call.target) below rest)
    (subst (λ (q : Procedure). Chains code q call.target below bytes) by.caller
    (record {
      at = call.at;
      next = site.next;
      frame = site.frame;
      walk = site.walk;
      call = site.call;
      sum = is ∙ ap (λ (d : ℤ). (d +ℤ pos 2) +ℤ below) site.is;
    }))

-- and each chain of the program is one of the lists
pub chain_from_use : (code : Code) (depths : List Depth) (calls : List CallSite) → IsGraph code depths calls → (p : Procedure) (bytes : ℤ) →
    Use code p bytes → Chain depths calls p bytes
chain_from_use code depths calls graph _ _ (use_last p bytes end) =
    last p bytes (last_from code depths calls graph p bytes (record { at = end.at; frame = end.frame; walk = end.walk; is = end.sum }))
chain_from_use code depths calls graph _ _ (use_through p target below bytes rest link) =
    let depth = depth_of (role_of code p) link.frame in
    let any = graph.every_call p link.at depth target (record { next = link.next; frame = link.frame; walk = link.walk; call = link.call; is = refl }) in
    let inner = chain_from_use code depths calls graph (Entry target) below rest in
    through p any.1 below bytes (record { there = (any.0, any.2, any.3); caller = any.4.0 })
    (subst (λ (t : ℕ). Chain depths calls (Entry t) below) (sym any.4.1) inner)
    (link.sum ∙ ap (λ (d : ℤ). (d +ℤ pos 2) +ℤ below) (sym any.4.2))

-- the greatest sums of the lists are the program's bounds
pub are_bounds : (code : Code) (depths : List Depth) (calls : List CallSite) (sums : List ℕ) → IsGraph code depths calls →
    (AreEntered depths calls → AreGreatest depths calls sums) → AreBounds code sums
are_bounds code depths calls sums graph greatest = record {
  bound = λ p at f walk.
      let most = (greatest (entered code depths calls graph)).greatest p (last_from code depths calls graph p (pos 0) (first_depth code p at f walk)) in
      record {
        above = λ sum used. most.above sum (chain_from_use code depths calls graph p sum used);
        reached = use_from_chain code depths calls graph p (pos (bytes_of sums p)) most.reached;
      };
}

-- a call of the program is one of the lists'
record Listed (calls : List CallSite) (p : Procedure) (target : ℕ) : Type 0 where
  call : CallSite
  by : CallsBy calls p call
  target_is : call.target ≡ target

listed : (code : Code) (depths : List Depth) (calls : List CallSite) → IsGraph code depths calls → (p : Procedure) (at : ℕ) (f : StackFrame) (target next : ℕ) →
    Walk code p at f → Calls code p at f target next → Listed calls p target
listed code depths calls graph p at f target next walk call =
    let any = graph.every_call p at (depth_of (role_of code p) f) target (record { next = next; frame = f; walk = walk; call = call; is = refl }) in
    record { call = any.1; by = record { there = (any.0, any.2, any.3); caller = any.4.0 }; target_is = any.4.1 }

-- what leads in the program leads by the lists
reaches_from_leads : (code : Code) (depths : List Depth) (calls : List CallSite) → IsGraph code depths calls → (p q : Procedure) →
    Leads code p q → Reaches calls p q
reaches_from_leads code depths calls graph _ _ (leads_here p q same) = here p q same
reaches_from_leads code depths calls graph _ _ (leads_further p q r target before from is) =
    let one = listed code depths calls graph q from.at from.frame target from.next from.walk from.call in
    further p q r one.call (reaches_from_leads code depths calls graph p q before) one.by (is ∙ ap Entry (sym one.target_is))

leads_from_reaches : (code : Code) (depths : List Depth) (calls : List CallSite) → IsGraph code depths calls → (p q : Procedure) →
    Reaches calls p q → Leads code p q
leads_from_reaches code depths calls graph _ _ (here p q same) = leads_here p q same
leads_from_reaches code depths calls graph _ _ (further p q r call before by is) =
    let site = All-contains (λ (c : CallSite). HasCall code c.caller c.at c.depth c.target) calls call graph.call by.there in
    leads_further p q r call.target (leads_from_reaches code depths calls graph p q before)
    (subst (λ (s : Procedure). CallsFrom code s call.target) by.caller
    (record { at = call.at; frame = site.frame; next = site.next; walk = site.walk; call = site.call }))
    is

-- a call of the list that leads back recurs
pub recurs : (code : Code) (depths : List Depth) (calls : List CallSite) (at : ℕ) → IsGraph code depths calls → Cycles calls at → Recurs code at
recurs code depths calls at graph cycle =
    let c = cycle.call in
    let site = All-contains (λ (c : CallSite). HasCall code c.caller c.at c.depth c.target) calls c graph.call cycle.there in
    subst (λ (n : ℕ). Recurs code n) (sym cycle.is) (record {
      procedure = c.caller;
      frame = site.frame;
      target = c.target;
      next = site.next;
      walk = site.walk;
      call = site.call;
      back = leads_from_reaches code depths calls graph (Entry c.target) c.caller cycle.back;
    })

-- where none of the list leads back, none recurs
pub none_recurs : (code : Code) (depths : List Depth) (calls : List CallSite) → IsGraph code depths calls → ((at : ℕ) → Cycles calls at → ⊥) → NoneRecurs code
none_recurs code depths calls graph none = record {
  none = λ at recur.
      let one = listed code depths calls graph recur.procedure at recur.frame recur.target recur.next recur.walk recur.call in
      none one.call.at (record {
        call = one.call;
        there = one.by.there;
        is = refl;
        back = subst (λ (q : Procedure). Reaches calls (Entry one.call.target) q) (sym one.by.caller)
            (subst (λ (t : ℕ). Reaches calls (Entry t) recur.procedure) (sym one.target_is)
            (reaches_from_leads code depths calls graph (Entry recur.target) recur.procedure recur.back));
      });
}
