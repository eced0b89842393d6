use Rattle.std.proofs.Common.{subst, sym}
use Rattle.std.specs.Prelude.{IfSome}
use Rattle.std.proofs.lemmas.List.Elements.{All-nil}
use Rattle.verify80_cases.specs.Reading.{AreRests, IsRest}
use Rattle.verify80_cases.specs.Suggested.{IsTableTarget}
use Rattle.verify80_cases.proofs.ReachLemmas.{explored_more, explored_start, rests_more}
use Rattle.verify80_cases.proofs.search.explore_with_tables.Goals as goal

pub loop-init : goal.loop-init
loop-init c = record {
  explored = explored_start c.args.code.now c.args.entries.now c.in_ok-visited.visited.marks.items c.in_ok-visited.visited.order.items c.in_ok-visited.ensures;
  rests = subst (AreRests c.args.code.now c.in_ok-visited.visited.marks.items) (sym c.in_ok-reader.ensures)
      (All-nil (IsRest c.args.code.now c.in_ok-visited.visited.marks.items));
}

pub loop-preserved : goal.loop-preserved
loop-preserved c =
    let code = c.args.code.now in
    let m = c.loop.visited.marks.items in
    let o = c.loop.visited.order.items in
    let m' = c.explore.new.self.marks.items in
    let o' = c.explore.new.self.order.items in
    let at = c.in-Some.target in
    record {
      explored = explored_more code c.args.entries.now m o at m' o' c.loop.invariant.explored c.in_ok-explore.ensures
          (subst (λ t. IfSome t (IsTableTarget code m)) c.in-Some.is c.in_ok-target.ensures.target);
      rests = rests_more code c.args.entries.now m o at m' o' c.loop.invariant.explored c.in_ok-explore.ensures c.next_target.new.self.unfinished.items c.in_ok-target.ensures.rests;
    }
