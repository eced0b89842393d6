-- A program's chain ends at a procedure that has a walk whose depth is its bound.
use Rattle.std.proofs.Common.{◌≡◌, ℕ, zero, suc, ◌+◌, ◌≤◌, ℤ, pos, Bool, true, false, cond, List, [], ◌∷◌, All, Contains}
use Rattle.std.proofs.Common.{length, map, Option, Some, None, is_some, refl, ap, sym, subst, ◌∙◌, true≢false, arith}
use Rattle.std.proofs.lemmas.Int.{ints}
use Rattle.std.specs.Prelude.{◌||◌, ◌+ℤ◌, ◌≤ℤ◌, find}
use Rattle.std.specs.Option.{option_and_then, option_map_or}
use Rattle.std.proofs.lemmas.Bool.Decides.{Decides-int_eq}
use Rattle.std.proofs.lemmas.List.Elements.{All-map}
use Rattle.std.proofs.lemmas.Option.{same_Some}
use Rattle.frames80.specs.StackFrame.{entry_frame}
use Rattle.frames80.specs.Calls.{depth_of}
use Rattle.frames80.specs.Code.{Code, role_of}
use Rattle.frames80.specs.declared.procedure.Procedure.{Procedure}
use Rattle.frames80.specs.declared.procedure.Procedure.TheVariants.{Main, Entry}
use Rattle.frames80.specs.PointNumbers.{is_same, same_is, same_procedure}
use Rattle.verify80.specs.Vouched.{Voucher}
use Rattle.verify80.specs.Looking.{code_of}
use Rattle.verify80_flow.specs.Faults.{CallsFrom, Leads, Recurs}
use Rattle.verify80_flow.specs.Faults.Leads.{here, further}
use Rattle.verify80_flow.specs.Rows.{Occurs}
use Rattle.verify80_flow.specs.Use.{Chains, EndsChain, IsBound, Use}
use Rattle.verify80_flow.specs.Use.Use.{last, through}
use Rattle.verify80_flow.specs.Walks.Walk.{enters}
use Rattle.verify80_flow.specs.declared.refusal.Refusal.TheVariants.{Recursion}
use Rattle.verify80_calls.specs.declared.calls.Call.{Call}
use Rattle.verify80_calls.specs.declared.graph.call_graph.Node.{Node}
use Rattle.verify80_calls.specs.declared.graph.chain.Link.{Link}
use Rattle.verify80_calls.specs.Calls.{AreCalls, HasCall, IsCall}
use Rattle.verify80_calls.specs.Chain.{chain_from, deepest_call, first_deepest, link, reaches}
use Rattle.verify80_calls.specs.Laws.{AreNodesOf, ChainsEndInWalks, end_of}
use Rattle.verify80_calls.specs.Nodes.{HasItsCalls, Heading, bound_of, heading_of, headings, is_node_of, main_heading, needs, node_of, row_heading}

-- what a search finds, and that it finds something
module _ {X : Type 0} (test : X → Bool) where
  found_there : (xs : List X) (found : X) → find test xs ≡ Some found → Contains xs found × (test found ≡ true)
  found_there [] found e = absurd (true≢false (sym (ap is_some e)))
  found_there (x ∷ xs) found e = by (test x) refl e (found_there xs found)
    where
      by : (b : Bool) → test x ≡ b → cond b (Some x) (find test xs) ≡ Some found → (find test xs ≡ Some found → Contains xs found × (test found ≡ true)) →
          Contains (x ∷ xs) found × (test found ≡ true)
      by true is same later = ((0, omega arith, same_Some x found same), subst (λ y. test y ≡ true) (same_Some x found same) is)
      by false is same later =
          let rest = later same in
          ((suc rest.0.0, omega (arith, rest.0.1), rest.0.2), rest.1)

  finds : (xs : List X) (x : X) → Contains xs x → test x ≡ true → (found : X) × (find test xs ≡ Some found)
  finds [] x has is = absurd (omega (arith, has.1))
  finds (first ∷ xs) x has is = by (test first) refl (finds xs x)
    where
      behind : test first ≡ false → Contains (first ∷ xs) x → Contains xs x
      behind fails (zero, inside, same) = absurd (true≢false (sym is ∙ ap test (sym same) ∙ fails))
      behind fails (suc k, inside, same) = (k, omega (arith, inside), same)

      by : (b : Bool) → test first ≡ b → (Contains xs x → test x ≡ true → (found : X) × (find test xs ≡ Some found)) → (found : X) × (cond b (Some first) (find test xs) ≡ Some found)
      by true passes later = (first, refl)
      by false fails later = later (behind fails has) is

of_each : {X : Type 0} (P : X → Type 0) (xs : List X) (x : X) → All P xs → Contains xs x → P x
of_each P xs x all has = subst P has.2 (all has.0 x has.1)

from_mapped : {X Y : Type 0} (f : X → Y) (xs : List X) (y : Y) → Contains (map f xs) y → (x : X) × Contains xs x × (f x ≡ y)
from_mapped f [] y has = absurd (omega (arith, has.1))
from_mapped f (x ∷ xs) y (zero, inside, same) = (x, (0, omega arith, refl), same)
from_mapped f (x ∷ xs) y (suc k, inside, same) =
    let rest = from_mapped f xs y (k, omega (arith, inside), same) in
    (rest.0, (suc rest.1.0, omega (arith, rest.1.1), rest.1.2), rest.2)

mapped : {X Y : Type 0} (f : X → Y) (xs : List X) (x : X) → Contains xs x → Contains (map f xs) (f x)
mapped f [] x has = absurd (omega (arith, has.1))
mapped f (y ∷ xs) x (zero, inside, same) = (0, omega arith, ap f same)
mapped f (y ∷ xs) x (suc k, inside, same) =
    let rest = mapped f xs x (k, omega (arith, inside), same) in
    (suc rest.0, omega (arith, rest.1), rest.2)

unmapped : {X Y : Type 0} (P : Y → Type 0) (f : X → Y) (xs : List X) → All P (map f xs) → All (λ x. P (f x)) xs
unmapped P f [] all k d inside = absurd (omega (arith, inside))
unmapped P f (x ∷ xs) all zero d inside = all 0 (f d) (omega arith)
unmapped P f (x ∷ xs) all (suc k) d inside = unmapped P f xs (λ j e within. all (suc j) e (omega (arith, within))) k d (omega (arith, inside))

-- procedures that were seen, and how many nodes are of others
abbrev is_seen : List Procedure → Procedure → Bool
is_seen [] p = false
is_seen (q ∷ seen) p = same_procedure p q || is_seen seen p

abbrev count_if : Bool → ℕ
count_if true = 0
count_if false = 1

abbrev unseen : List Procedure → List Node → ℕ
unseen seen [] = 0
unseen seen (node ∷ nodes) = count_if (is_seen seen node.procedure) + unseen seen nodes

unseen_all : (nodes : List Node) → unseen [] nodes ≡ length nodes
unseen_all [] = refl
unseen_all (node ∷ nodes) = omega (arith, unseen_all nodes)

one_fewer : (a b : Bool) → count_if (a || b) ≤ count_if b
one_fewer true true = omega arith
one_fewer true false = omega arith
one_fewer false b = omega arith

fewer : (p : Procedure) (seen : List Procedure) (nodes : List Node) → unseen (p ∷ seen) nodes ≤ unseen seen nodes
fewer p seen [] = omega arith
fewer p seen (node ∷ nodes) = omega (arith, one_fewer (same_procedure node.procedure p) (is_seen seen node.procedure), fewer p seen nodes)

seen_now : (p : Procedure) (seen : List Procedure) (node : Node) → node.procedure ≡ p → is_seen seen p ≡ false →
    count_if (same_procedure node.procedure p || is_seen seen node.procedure) + 1 ≤ count_if (is_seen seen node.procedure)
seen_now p seen node is not_yet =
    step (same_procedure node.procedure p) (is_seen seen node.procedure) (subst (λ q. same_procedure q p ≡ true) (sym is) (is_same p)) (ap (is_seen seen) is ∙ not_yet)
  where
    step : (a b : Bool) → a ≡ true → b ≡ false → count_if (a || b) + 1 ≤ count_if b
    step true false e f = omega arith
    step true true e f = absurd (true≢false f)
    step false b e f = absurd (true≢false (sym e))

strictly : (p : Procedure) (seen : List Procedure) (nodes : List Node) (node : Node) → Contains nodes node → node.procedure ≡ p → is_seen seen p ≡ false →
    unseen (p ∷ seen) nodes + 1 ≤ unseen seen nodes
strictly p seen [] node has is not_yet = absurd (omega (arith, has.1))
strictly p seen (first ∷ nodes) node (zero, inside, same) is not_yet =
    omega (arith, seen_now p seen first (ap (λ (n : Node). n.procedure) same ∙ is) not_yet, fewer p seen nodes)
strictly p seen (first ∷ nodes) node (suc k, inside, same) is not_yet =
    omega (arith, one_fewer (same_procedure first.procedure p) (is_seen seen first.procedure), strictly p seen nodes node (k, omega (arith, inside), same) is not_yet)

-- a property of each that was seen
abbrev Each : (Procedure → Type 0) → List Procedure → Type 0
Each P [] = Unit {0}
Each P (p ∷ ps) = P p × Each P ps

each_to : (P Q : Procedure → Type 0) → ((p : Procedure) → P p → Q p) → (ps : List Procedure) → Each P ps → Each Q ps
each_to P Q along [] all = tt
each_to P Q along (p ∷ ps) all = (along p all.0, each_to P Q along ps all.1)

-- a procedure has a node
abbrev HasNode : List Node → Procedure → Type 0
HasNode nodes p = (node : Node) × Contains nodes node × (node.procedure ≡ p)

-- a call leads from one procedure on to another
record LeadsOn (code : Code) (p q : Procedure) : Type 0 where
  pub target : ℕ
  pub call : CallsFrom code p target
  pub leads : Leads code (Entry target) q

module _ (code : Code) (nodes : List Node) (bounds : All (λ (node : Node). IsBound code node.procedure node.bound) nodes) (their_calls : All (HasItsCalls code) nodes)
    (callee : (target : ℕ) → Occurs code (Entry target) → HasNode nodes (Entry target)) (ends : (at : ℕ) → Recurs code at → ⊥) where
  node_is : (p : Procedure) → HasNode nodes p → (node : Node) × (node_of nodes p ≡ Some node) × Contains nodes node × (node.procedure ≡ p)
  node_is p has =
      let search = finds (is_node_of p) nodes has.0 has.1 (subst (λ q. same_procedure q p ≡ true) (sym has.2) (is_same p)) in
      let kept = found_there (is_node_of p) nodes search.0 search.1 in
      (search.0, search.1, kept.0, same_is search.0.procedure p kept.1)

  bound_is : (p : Procedure) → HasNode nodes p → IsBound code p (bound_of nodes p)
  bound_is p has =
      let made = node_is p has in
      subst (λ o. IsBound code p (option_map_or (λ (n : Node). n.bound) o 0)) (sym made.1)
      (subst (λ q. IsBound code q made.0.bound) made.3 (of_each (λ (n : Node). IsBound code n.procedure n.bound) nodes made.0 bounds made.2))

  calls_are : (p : Procedure) (node : Node) → Contains nodes node → node.procedure ≡ p → AreCalls code p node.calls.items
  calls_are p node there is = subst (λ q. AreCalls code q node.calls.items) is (of_each (HasItsCalls code) nodes node their_calls there)

  occurs : (p : Procedure) (sum : ℤ) → Use code p sum → Occurs code p
  occurs p sum (last _ _ end_here) = record { at = end_here.at; frame = end_here.frame; walk = end_here.walk }
  occurs p sum (through _ target below _ uses chains) = record { at = chains.at; frame = chains.frame; walk = chains.walk }

  -- a call of a sum that is the bound is one that adds up to it
  adds_up : (depth below : ℤ) (bound callee_bound : ℕ) → pos bound ≡ (depth +ℤ pos 2) +ℤ below → below ≤ℤ pos callee_bound → ((depth +ℤ pos 2) +ℤ pos callee_bound) ≤ℤ pos bound →
      depth +ℤ pos (2 + callee_bound) ≡ pos bound
  adds_up depth below bound callee_bound sum less above = omega (arith, ints)

  some_call : (p : Procedure) (target : ℕ) (below : ℤ) → HasNode nodes p → Use code (Entry target) below → Chains code p target below (pos (bound_of nodes p)) →
      (call : Call) × (deepest_call nodes p ≡ Some call)
  some_call p target below has uses chains =
      let made_node = node_is p has in
      let node = made_node.0 in
      let found = made_node.1 in
      let there = made_node.2 in
      let is = made_node.3 in
      let whole : bound_of nodes p ≡ node.bound = ap (λ o. option_map_or (λ (n : Node). n.bound) o 0) found in
      let below_is = bound_is (Entry target) (callee target (occurs (Entry target) below uses)) in
      let more : Chains code p target (pos (bound_of nodes (Entry target))) ((depth_of (role_of code p) chains.frame +ℤ pos 2) +ℤ pos (bound_of nodes (Entry target))) =
      record { at = chains.at; next = chains.next; frame = chains.frame; walk = chains.walk; call = chains.call; sum = refl } in
      let above = (bound_is p has).above _ (through p target _ _ below_is.reached more) in
      let sums = adds_up (depth_of (role_of code p) chains.frame) below (bound_of nodes p) (bound_of nodes (Entry target)) chains.sum (below_is.above below uses) above in
      let one : HasCall node.calls.items chains.at target (depth_of (role_of code p) chains.frame) = (calls_are p node there is).all chains.at chains.frame target chains.next chains.walk chains.call in
      let reach : reaches nodes node.bound one.call ≡ true =
      (Decides-int_eq (one.call.depth +ℤ pos (needs nodes one.call.target)) (pos node.bound)).1
      (subst (λ t. one.call.depth +ℤ pos (needs nodes t) ≡ pos node.bound) (sym one.target)
      (subst (λ d. d +ℤ pos (needs nodes target) ≡ pos node.bound) (sym one.depth)
      (subst (λ b. depth_of (role_of code p) chains.frame +ℤ pos (needs nodes target) ≡ pos b) whole sums))) in
      let search = finds (reaches nodes node.bound) node.calls.items one.call one.there reach in
      (search.0, ap (option_and_then (first_deepest nodes)) found ∙ search.1)

  -- a procedure without such a call has a walk whose depth is its bound
  ends_here : (p : Procedure) → HasNode nodes p → deepest_call nodes p ≡ None → EndsChain code p (pos (bound_of nodes p))
  ends_here p has none = by (pos (bound_of nodes p)) refl (bound_is p has).reached
    where
      by : (sum : ℤ) → sum ≡ pos (bound_of nodes p) → Use code p sum → EndsChain code p (pos (bound_of nodes p))
      by sum is (last _ _ end_here) = subst (EndsChain code p) is end_here
      by sum is (through _ target below _ uses chains) =
          let found = some_call p target below has uses (subst (Chains code p target below) is chains) in
          absurd (true≢false (sym (ap is_some (sym none ∙ found.1))))

  -- a call that is found is one of its walks
  calls_on : (p : Procedure) (call : Call) → HasNode nodes p → deepest_call nodes p ≡ Some call → CallsFrom code p call.target
  calls_on p call has e =
      let made_node = node_is p has in
      let node = made_node.0 in
      let found = made_node.1 in
      let there = made_node.2 in
      let is = made_node.3 in
      let first : first_deepest nodes node ≡ Some call = sym (ap (option_and_then (first_deepest nodes)) found) ∙ e in
      let made : IsCall code p call = of_each (IsCall code p) node.calls.items call (calls_are p node there is).each (found_there (reaches nodes node.bound) node.calls.items call first).0 in
      record { at = call.at; frame = made.frame; next = made.next; walk = made.walk; call = made.calls }

  entered : (p : Procedure) (target : ℕ) → CallsFrom code p target → Occurs code (Entry target)
  entered p target from = record {
    at = target;
    frame = entry_frame;
    walk = enters p from.at from.frame target from.next (Entry target) target entry_frame from.walk from.call (record { procedure = refl; start = refl; frame = refl });
  }

  -- nothing leads on to itself
  no_ring : (p q : Procedure) → LeadsOn code p q → p ≡ q → ⊥
  no_ring p q on same =
      ends on.call.at (record {
        procedure = p;
        frame = on.call.frame;
        target = on.target;
        next = on.call.next;
        walk = on.call.walk;
        call = on.call.call;
        back = subst (Leads code (Entry on.target)) (sym same) on.leads;
      })

  apart : (q p : Procedure) → LeadsOn code q p → same_procedure p q ≡ false
  apart q p on = by (same_procedure p q) refl
    where
      by : (b : Bool) → same_procedure p q ≡ b → b ≡ false
      by false is = refl
      by true is = absurd (no_ring q p on (sym (same_is p q is)))

  not_seen : (p : Procedure) (seen : List Procedure) → Each (λ q. LeadsOn code q p) seen → is_seen seen p ≡ false
  not_seen p [] all = refl
  not_seen p (q ∷ seen) all = step (same_procedure p q) (is_seen seen p) (apart q p all.0) (not_seen p seen all.1)
    where
      step : (a b : Bool) → a ≡ false → b ≡ false → (a || b) ≡ false
      step false false e f = refl
      step false true e f = f
      step true b e f = e

  leads_further : (p : Procedure) (target : ℕ) → CallsFrom code p target → (q : Procedure) → LeadsOn code q p → LeadsOn code q (Entry target)
  leads_further p target from q on = record {
    target = on.target;
    call = on.call;
    leads = further (Entry on.target) p (Entry target) target on.leads from refl;
  }

  -- the chain from a procedure on ends so, if there are calls enough for those that weren't seen
  ends_so : (most : ℕ) (p : Procedure) (seen : List Procedure) → HasNode nodes p → Each (λ q. LeadsOn code q p) seen → unseen seen nodes ≤ most →
      EndsChain code (end_of p (chain_from nodes most p)) (pos (bound_of nodes (end_of p (chain_from nodes most p))))
  ends_so zero p seen has all enough =
      absurd (omega (arith, enough, strictly p seen nodes has.0 has.1 has.2 (not_seen p seen all)))
  ends_so (suc most) p seen has all enough = by (deepest_call nodes p) refl (ends_so most)
    where
      chain : Option Call → List Link
      chain found = option_map_or (λ (call : Call). link p call ∷ chain_from nodes most (Entry call.target)) found []

      by : (found : Option Call) → deepest_call nodes p ≡ found →
          ((q : Procedure) (seen' : List Procedure) → HasNode nodes q → Each (λ r. LeadsOn code r q) seen' → unseen seen' nodes ≤ most →
          EndsChain code (end_of q (chain_from nodes most q)) (pos (bound_of nodes (end_of q (chain_from nodes most q))))) →
          EndsChain code (end_of p (chain found)) (pos (bound_of nodes (end_of p (chain found))))
      by None is later = ends_here p has is
      by (Some call) is later =
          let from = calls_on p call has is in
          later (Entry call.target) (p ∷ seen) (callee call.target (entered p call.target from)) (
            record { target = call.target; call = from; leads = here (Entry call.target) (Entry call.target) refl },
            each_to (λ q. LeadsOn code q p) (λ q. LeadsOn code q (Entry call.target)) (leads_further p call.target from) seen all,
          )
          (omega (arith, enough, strictly p seen nodes has.0 has.1 has.2 (not_seen p seen all)))

-- of the nodes of a program
module _ (program : Voucher) (nodes : List Node) (are : AreNodesOf program nodes) where
  abbrev code : Code
  code = code_of program.image

  abbrev IsHeading : Heading → Type 0
  IsHeading heading = IsBound code heading.procedure heading.bound

  all_headings : All IsHeading (headings program)
  all_headings zero d inside = are.accepted.bound
  all_headings (suc k) d inside =
      All-map IsHeading row_heading program.rows (λ j e within. (are.accepted.rows.each j e within).bound) k d (omega (arith, inside))

  node_bounds : All (λ (node : Node). IsBound code node.procedure node.bound) nodes
  node_bounds = unmapped IsHeading heading_of nodes (subst (All IsHeading) (sym are.headings) all_headings)

  with_heading : (heading : Heading) → Contains (headings program) heading → HasNode nodes heading.procedure
  with_heading heading has =
      let found = from_mapped heading_of nodes heading (subst (λ hs. Contains hs heading) (sym are.headings) has) in
      (found.0, found.1, ap (λ (h : Heading). h.procedure) found.2)

  main_node : HasNode nodes Main
  main_node = with_heading (main_heading program) (0, omega arith, refl)

  callee_node : (target : ℕ) → Occurs code (Entry target) → HasNode nodes (Entry target)
  callee_node target there =
      let one = are.accepted.rows.all target there in
      let row = one.1 in
      let mapped_there = mapped row_heading program.rows row (one.0, one.2, one.3) in
      subst (λ entry. HasNode nodes (Entry entry)) one.4
      (with_heading (row_heading row) (suc mapped_there.0, omega (arith, mapped_there.1), mapped_there.2))

  no_recursion : (at : ℕ) → Recurs code at → ⊥
  no_recursion at recurs = are.accepted.none_holds (Recursion at) (λ e. cc) recurs

  pub whole_chain : EndsChain code (end_of Main (chain_from nodes (length nodes) Main)) (pos (bound_of nodes (end_of Main (chain_from nodes (length nodes) Main))))
  whole_chain = ends_so code nodes node_bounds are.calls callee_node no_recursion (length nodes) Main [] main_node tt (omega (arith, unseen_all nodes))

pub ends_in_walk : ChainsEndInWalks
ends_in_walk program nodes are = whole_chain program nodes are
