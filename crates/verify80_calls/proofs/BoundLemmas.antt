-- A bound is made of the calls of its chain.
use Rattle.std.proofs.Common.{◌≡◌, ℕ, zero, suc, ◌+◌, ℤ, pos, Bool, true, false, cond, List, [], ◌∷◌, Option, Some, None, is_some, unwrap_or, refl, ap, sym, subst, true≢false, arith}
use Rattle.std.proofs.lemmas.Int.{ints}
use Rattle.std.specs.Prelude.{◌+ℤ◌, find}
use Rattle.std.specs.Option.{option_and_then, option_map_or}
use Rattle.std.proofs.lemmas.Bool.Decides.{Decides-int_eq}
use Rattle.frames80.specs.declared.procedure.Procedure.{Procedure}
use Rattle.frames80.specs.declared.procedure.Procedure.TheVariants.{Entry}
use Rattle.verify80_calls.specs.declared.calls.Call.{Call}
use Rattle.verify80_calls.specs.declared.graph.call_graph.Node.{Node}
use Rattle.verify80_calls.specs.declared.graph.chain.Link.{Link}
use Rattle.verify80_calls.specs.Nodes.{bound_of, needs, node_of}
use Rattle.verify80_calls.specs.Chain.{chain_from, deepest_call, first_deepest, link, reaches}
use Rattle.verify80_calls.specs.Laws.{BoundsAreMadeOfChains, bytes_of, end_of}

passes : (test : Call → Bool) (calls : List Call) (call : Call) → find test calls ≡ Some call → test call ≡ true
passes test [] call e = absurd (true≢false (sym (ap is_some e)))
passes test (first ∷ calls) call e = by (test first) refl e (passes test calls call)
  where
    by : (b : Bool) → test first ≡ b → cond b (Some first) (find test calls) ≡ Some call
        → (find test calls ≡ Some call → test call ≡ true) → test call ≡ true
    by true is found later = subst (λ (c : Call). test c ≡ true) (ap (λ (o : Option Call). unwrap_or o first) found) is
    by false is found later = later found

-- the depth of a chain's call, and what it needs add up to its procedure's bound
adds_up : (nodes : List Node) (p : Procedure) (call : Call) → deepest_call nodes p ≡ Some call
    → call.depth +ℤ pos (needs nodes call.target) ≡ pos (bound_of nodes p)
adds_up nodes p call found = by (node_of nodes p) found
  where
    by : (o : Option Node) → option_and_then (first_deepest nodes) o ≡ Some call
        → call.depth +ℤ pos (needs nodes call.target) ≡ pos (option_map_or (λ (node : Node). node.bound) o 0)
    by None e = absurd (true≢false (sym (ap is_some e)))
    by (Some node) e =
        (Decides-int_eq (call.depth +ℤ pos (needs nodes call.target)) (pos node.bound)).0
        (passes (reaches nodes node.bound) node.calls.items call e)

nothing : (bound : ℕ) → pos bound ≡ pos 0 +ℤ pos bound
nothing bound = omega (arith, ints)

one_more : (depth rest : ℤ) (bound below last : ℕ) → depth +ℤ pos (2 + below) ≡ pos bound → pos below ≡ rest +ℤ pos last
    → pos bound ≡ ((depth +ℤ pos 2) +ℤ rest) +ℤ pos last
one_more depth rest bound below last here further = omega (arith, ints)

pub made : BoundsAreMadeOfChains
made nodes zero p = nothing (bound_of nodes p)
made nodes (suc most) p = by (deepest_call nodes p) refl (made nodes most)
  where
    chain : Option Call → List Link
    chain found = option_map_or (λ (call : Call). link p call ∷ chain_from nodes most (Entry call.target)) found []

    by : (found : Option Call) → deepest_call nodes p ≡ found
        → ((q : Procedure) → pos (bound_of nodes q)
        ≡ bytes_of (chain_from nodes most q) +ℤ pos (bound_of nodes (end_of q (chain_from nodes most q))))
        → pos (bound_of nodes p) ≡ bytes_of (chain found) +ℤ pos (bound_of nodes (end_of p (chain found)))
    by None e further = nothing (bound_of nodes p)
    by (Some call) e further =
        let rest = chain_from nodes most (Entry call.target) in
        one_more call.depth (bytes_of rest) (bound_of nodes p) (bound_of nodes (Entry call.target))
        (bound_of nodes (end_of (Entry call.target) rest)) (adds_up nodes p call e) (further (Entry call.target))
