use Rattle.std.proofs.Common.{Vec, Global, ℕ, List, [], length, get_or, set, ◌≡◌, ◌<◌, ◌-◌, ◌++◌, ◌∷◌, ◌∙◌, Option, Some, ap, sym, subst, arith}
use Rattle.std.specs.Prelude.{Contains}
use Rattle.std.specs.Option.{option_to_list}
use Rattle.std.proofs.lemmas.List.{map-set, length-map, set-get_or, nil_from_length}
use Rattle.verify80_bounds.specs.declared.graph.CallSite.{CallSite}
use Rattle.frames80.specs.Procedures.{slot_of}
use Rattle.verify80_bounds.specs.Sums.{IsWorklist, IsAdvance, IsSumAfter}
use Rattle.verify80_bounds.proofs.ListLemmas.{items_of, lists_of, list_at}
use Rattle.verify80_bounds.proofs.WorklistLemmas.{IsLastCall, last_modest, last_counted, IsAppended, absorbs, appended, not_appended, taken_off}
use Rattle.verify80_bounds.proofs.worklist.advance.Goals as goal

-- the procedure that was settled last
record IsLast (sums : List ℕ) (callers : List (Vec CallSite Global)) (counts settled : List ℕ) (callee : ℕ) : Type 0 where
  are : IsWorklist sums (lists_of callers) counts settled
  there : Contains settled callee
  within : callee < 65537
  inside : callee < length callers

is_last : (sums : List ℕ) (callers : List (Vec CallSite Global)) (counts settled : List ℕ) (callee n len : ℕ) → IsWorklist sums (lists_of callers) counts settled → 0 < len →
    len ≡ length settled → n ≡ len → callee ≡ get_or settled (n - 1) callee → IsLast sums callers counts settled callee
is_last sums callers counts settled callee n len are some len_is n_is read =
    let there : Contains settled callee = (n - 1, omega arith, sym read) in
    let within : callee < 65537 = (are.none callee there).0 in
    record { are = are; there = there; within = within; inside = omega (arith, are.counted.places, length-map callers items_of) }

last_call : (sums : List ℕ) (callers : List (Vec CallSite Global)) (counts settled : List ℕ) (callee : ℕ) (v : Vec CallSite Global) (rest : List CallSite) (call : CallSite) →
    IsLast sums callers counts settled callee → items_of (get_or callers callee v) ≡ rest ++ call ∷ [] → IsLastCall sums (lists_of callers) counts settled callee rest call
last_call sums callers counts settled callee v rest call is list = record { are = is.are; settled_is = is.there; list = list_at callers callee v is.inside ∙ list }

absorbed_at : (sums sums_after : List ℕ) (callers : List (Vec CallSite Global)) (counts settled settled_after : List ℕ) (callee : ℕ) (v popped : Vec CallSite Global) (call : CallSite) (caller : ℕ) →
    IsLast sums callers counts settled callee → items_of (get_or callers callee v) ≡ popped.items ++ call ∷ [] → caller ≡ slot_of call.caller → caller < 65537 →
    IsSumAfter sums call sums_after → IsAppended settled settled_after (set counts caller (get_or counts caller 0 - 1)) caller →
    IsAdvance sums (lists_of callers) settled sums_after (lists_of (set callers callee popped)) (set counts caller (get_or counts caller 0 - 1)) settled_after
absorbed_at sums sums_after callers counts settled settled_after callee v popped call caller is list caller_is within then appends =
    subst (λ (lists : List (List CallSite)). IsAdvance sums (lists_of callers) settled sums_after lists (set counts caller (get_or counts caller 0 - 1)) settled_after)
    (sym (map-set items_of callers callee popped))
    (absorbs sums (lists_of callers) counts settled callee popped.items call (last_call sums callers counts settled callee v popped.items call is list)
    sums_after settled_after caller caller_is within then appends)

taken_off_at : (sums : List ℕ) (callers : List (Vec CallSite Global)) (counts settled after : List ℕ) (callee : ℕ) (v popped : Vec CallSite Global) (taken : Option ℕ) →
    IsLast sums callers counts settled callee → items_of (get_or callers callee v) ≡ [] → popped.items ≡ [] → settled ≡ after ++ option_to_list taken → taken ≡ Some callee →
    IsAdvance sums (lists_of callers) settled sums (lists_of (set callers callee popped)) counts after
taken_off_at sums callers counts settled after callee v popped taken is none rest is_after taken_is =
    let empty : get_or (lists_of callers) callee [] ≡ [] = list_at callers callee v is.inside ∙ none in
    taken_off sums (lists_of callers) (lists_of (set callers callee popped)) counts settled after callee is.are
    (is_after ∙ ap (λ (o : Option ℕ). after ++ option_to_list o) taken_is) empty
    (map-set items_of callers callee popped ∙ ap (λ (l : List CallSite). set (lists_of callers) callee l) (rest ∙ sym empty) ∙ set-get_or (lists_of callers) callee [])

pub bounds-callers-callee : goal.bounds-callers-callee
bounds-callers-callee c =
    let settled = c.args.settled.now in
    let last = is_last c.args.sums.now c.args.callers.now c.args.counts.now settled.items c.index-callee.result.now c.len.result settled.len c.requires.worklist c.requires.some settled.ok.0
    c.len.ensures c.index-callee.ensures in
    last.inside

pub offset_bounds-callers-callee : goal.offset_bounds-callers-callee
offset_bounds-callers-callee c =
    let settled = c.args.settled.now in
    let last = is_last c.args.sums.now c.args.callers.now c.args.counts.now settled.items c.index-callee.result.now c.len.result settled.len c.requires.worklist c.requires.some settled.ok.0
    c.len.ensures c.index-callee.ensures in
    omega (arith, last.within)

pub absorb-requires-clause-modest : goal.absorb-requires-clause-modest
absorb-requires-clause-modest c =
    let settled = c.args.settled.now in
    let last = is_last c.args.sums.now c.args.callers.now c.args.counts.now settled.items c.index-callee.result.now c.len.result settled.len c.requires.worklist c.requires.some settled.ok.0
    c.len.ensures c.index-callee.ensures in
    last_modest _ _ _ _ c.index-callee.result.now _ c.in-Some.call
    (last_call _ _ _ _ c.index-callee.result.now c.index-callers-callee.result c.pop.new.self.items c.in-Some.call last c.in-Some.ensures.items)

pub overflow_sub-counts : goal.overflow_sub-counts
overflow_sub-counts c =
    let settled = c.args.settled.now in
    let last = is_last c.args.sums.now c.args.callers.now c.args.counts.now settled.items c.index-callee.result.now c.len.result settled.len c.requires.worklist c.requires.some settled.ok.0
    c.len.ensures c.index-callee.ensures in
    last_counted _ _ _ _ c.index-callee.result.now _ c.in-Some.call
    (last_call _ _ _ _ c.index-callee.result.now c.index-callers-callee.result c.pop.new.self.items c.in-Some.call last c.in-Some.ensures.items)
    c.slot-caller.result c.slot-caller.ensures.is

pub returns-in_ok-push-in-Some : goal.returns-in_ok-push-in-Some
returns-in_ok-push-in-Some c =
    let settled = c.args.settled.now in
    let last = is_last c.args.sums.now c.args.callers.now c.args.counts.now settled.items c.index-callee.result.now c.len.result settled.len c.requires.worklist c.requires.some settled.ok.0
    c.len.ensures c.index-callee.ensures in
    rw (c.in_ok-push-in-Some.ensures.items)
    (absorbed_at _ c.absorb.new.sums _ _ _ _ c.index-callee.result.now c.index-callers-callee.result c.pop.new.self c.in-Some.call c.slot-caller.result last
    c.in-Some.ensures.items c.slot-caller.ensures.is c.slot-caller.ensures.within c.absorb.ensures
    (appended settled.items _ c.slot-caller.result c.if-counts-caller-eq0.true))

pub returns-else-counts-caller-eq0 : goal.returns-else-counts-caller-eq0
returns-else-counts-caller-eq0 c =
    let settled = c.args.settled.now in
    let last = is_last c.args.sums.now c.args.callers.now c.args.counts.now settled.items c.index-callee.result.now c.len.result settled.len c.requires.worklist c.requires.some settled.ok.0
    c.len.ensures c.index-callee.ensures in
    absorbed_at _ c.absorb.new.sums _ _ _ _ c.index-callee.result.now c.index-callers-callee.result c.pop.new.self c.in-Some.call c.slot-caller.result last
    c.in-Some.ensures.items c.slot-caller.ensures.is c.slot-caller.ensures.within c.absorb.ensures
    (not_appended settled.items _ c.slot-caller.result c.if-counts-caller-eq0.false)

pub returns-in-None : goal.returns-in-None
returns-in-None c =
    let settled = c.args.settled.now in
    let last = is_last c.args.sums.now c.args.callers.now c.args.counts.now settled.items c.index-callee.result.now c.len.result settled.len c.requires.worklist c.requires.some settled.ok.0
    c.len.ensures c.index-callee.ensures in
    let old = get_or c.args.callers.now c.index-callee.result.now c.index-callers-callee.result in
    taken_off_at _ _ _ _ c.pop-in-None.new.self.items c.index-callee.result.now c.index-callers-callee.result c.pop.new.self c.pop-in-None.result last
    (nil_from_length old.items (sym old.ok.0 ∙ c.in-None.ensures.cases.0)) (nil_from_length c.pop.new.self.items (sym c.pop.new.self.ok.0 ∙ c.in-None.ensures.cases.1))
    c.pop-in-None.ensures.items
    (c.pop-in-None.ensures.value c.index-callee.result.now c.requires.some
    ∙ ap Some (ap (λ (n : ℕ). get_or settled.items (n - 1) c.index-callee.result.now) (sym c.len.ensures) ∙ sym c.index-callee.ensures))
