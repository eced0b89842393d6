use Rattle.std.proofs.Common.{◌≡◌, ◌<◌, ◌∙◌, Vec, Global, ℕ, true, eqb, List, [], length, get_or, ap, sym, arith}
use Rattle.verify80_bounds.specs.declared.graph.CallSite.{CallSite}
use Rattle.verify80_bounds.proofs.ListLemmas.{items_of, lists_of, list_at}
use Rattle.verify80_bounds.proofs.SumLemmas.{no_items}
use Rattle.verify80_bounds.proofs.WorklistLemmas.{idle_more, idle_same}
use Rattle.verify80_bounds.proofs.worklist.idle.Goals as goal
use Rattle.verify80_bounds.proofs.worklist.idle.Goals.{
  then-count-eq0+then-not-is_empty+in_ok-push,
  else-count-eq0,
  else-count-eq0-via-then-count-eq0+else-not-is_empty,
  else-count-eq0-via-else-count-eq0,
}

empty_at : (callers : List (Vec CallSite Global)) (slot : ℕ) (v : Vec CallSite Global) → slot < length callers → v ≡ get_or callers slot v → eqb v.len 0 ≡ true →
    get_or (lists_of callers) slot [] ≡ []
empty_at callers slot v within is none = list_at callers slot v within ∙ ap items_of (sym is) ∙ no_items v.items v.len v.ok.0 none

pub loop-slot-preserved : goal.loop-slot-preserved
loop-slot-preserved c = elim c.if-count-eq0.branch [
  | then-count-eq0+then-not-is_empty+in_ok-push w ↦
      rw (w.slots-is, w.in_ok-push.ensures.items)
      (idle_more (lists_of c.args.callers.now) c.args.counts.now c.loop-slot.slots.items c.loop-slot.slot w.if-count-eq0.true c.loop-slot.invariant)
  | else-count-eq0 w ↦
      rw (w.slots-is)
      (idle_same (lists_of c.args.callers.now) c.args.counts.now c.loop-slot.slots.items c.loop-slot.slot (elim w.else-count-eq0.branch [
        | else-count-eq0-via-then-count-eq0+else-not-is_empty w' ↦
            λ _. empty_at c.args.callers.now c.loop-slot.slot w'.index-callers-slot.result (omega (arith, c.requires)) w'.index-callers-slot.is
            (sym w'.is_empty.ensures ∙ w'.if-not-is_empty.false)
        | else-count-eq0-via-else-count-eq0 w' ↦ λ is. absurd (w'.if-count-eq0.false is)
      ]) c.loop-slot.invariant)
]
