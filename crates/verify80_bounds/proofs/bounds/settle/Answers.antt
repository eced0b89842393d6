use Rattle.std.proofs.Common.{Vec, Global, ◌≡◌, List, ℕ, [], length, sym, subst, ◌∙◌}
use Rattle.verify80_bounds.specs.declared.graph.Depth.{Depth}
use Rattle.verify80_bounds.specs.declared.graph.CallSite.{CallSite}
use Rattle.verify80_bounds.specs.Sums.{AreSums, IsWorklist, AreLeft, AreIdle, joined}
use Rattle.verify80_bounds.proofs.ListLemmas.{lists_of}
use Rattle.verify80_bounds.proofs.SumLemmas.{no_items}
use Rattle.verify80_bounds.proofs.WorklistLemmas.{worklist_first, IsDone, sums_at_end, stuck_at_end}
use Rattle.verify80_bounds.proofs.bounds.settle.Goals as goal

is_done : (depths : List Depth) (calls : List CallSite) (sums : List ℕ) (lists : List (List CallSite)) (counts seen settled : List ℕ) (pending : List CallSite) →
    AreSums depths calls sums (joined lists) → IsWorklist sums lists counts settled → settled ≡ [] → seen ≡ counts → AreLeft calls seen pending →
    IsDone depths calls sums lists counts pending
is_done depths calls sums lists counts seen settled pending are worklist none same left = record {
  are = are;
  worklist = subst (λ (l : List ℕ). IsWorklist sums lists counts l) none worklist;
  left = subst (λ (l : List ℕ). AreLeft calls l pending) same left;
}

idle_at : (callers seen_callers : List (Vec CallSite Global)) (counts seen settled : List ℕ) → seen_callers ≡ callers → seen ≡ counts →
    AreIdle (lists_of seen_callers) seen (length seen) settled → AreIdle (lists_of callers) counts (length counts) settled
idle_at callers seen_callers counts seen settled callers_is counts_is are =
    subst (λ (l : List (Vec CallSite Global)). AreIdle (lists_of l) counts (length counts) settled) callers_is
    (subst (λ (l : List ℕ). AreIdle (lists_of seen_callers) l (length l) settled) counts_is are)

pub loop-bytes-init : goal.loop-bytes-init
loop-bytes-init c =
    worklist_first c.args.depths.now c.args.calls.now c.in_ok-bytes.bytes.items (lists_of c.in_ok-callers.callers.items) c.in_ok-callers.counts.items c.in_ok-settled.settled.items
    c.in_ok-bytes.ensures.depths c.in_ok-bytes.ensures.slots c.in_ok-callers.ensures
    (idle_at _ _ _ _ _ c.deref.ensures.value c.deref-2.ensures.value c.in_ok-settled.ensures) c.requires.calls c.requires.few

pub returns-clause-sums : goal.returns-clause-sums
returns-clause-sums c =
    let l = c.loop-bytes in
    sums_at_end c.args.depths.now c.args.calls.now l.bytes.items (lists_of l.callers.items) l.counts.items c.in_ok-pending.pending.items
    (is_done _ _ _ _ _ c.deref-3.result.now l.settled.items _ l.invariant.0 l.invariant.1 (no_items l.settled.items l.settled.len l.settled.ok.0 (sym c.is_empty.ensures ∙ c.loop-bytes-test.false))
    c.deref-3.ensures.value c.in_ok-pending.ensures)

pub returns-clause-stuck : goal.returns-clause-stuck
returns-clause-stuck c =
    let l = c.loop-bytes in
    stuck_at_end c.args.depths.now c.args.calls.now l.bytes.items (lists_of l.callers.items) l.counts.items c.in_ok-pending.pending.items
    (is_done _ _ _ _ _ c.deref-3.result.now l.settled.items _ l.invariant.0 l.invariant.1 (no_items l.settled.items l.settled.len l.settled.ok.0 (sym c.is_empty.ensures ∙ c.loop-bytes-test.false))
    c.deref-3.ensures.value c.in_ok-pending.ensures)
