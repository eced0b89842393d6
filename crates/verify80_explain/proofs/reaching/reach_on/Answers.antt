use Rattle.std.specs.Prelude.{◌≡◌, ℕ, All, List, Option}
use Rattle.std.proofs.Common.{sym, subst}
use Rattle.std.proofs.lemmas.List.Elements.{All-nil}
use Rattle.frames80.specs.Code.{Code}
use Rattle.verify80.specs.Looking.{code_of}
use Rattle.verify80_explain.specs.declared.reaching.Reach.{Reach}
use Rattle.verify80_explain.specs.Conditions.{AreConditionsOf, MayBegin}
use Rattle.verify80_explain.specs.Order.{ArePointsInOrder}
use Rattle.verify80_explain.specs.Reaching.{AreReachedOn, IsReachedOn}
use Rattle.verify80_explain.proofs.reaching.reach_on.Goals as goal

reached_on : (code : Code) (of : List (Option ℕ)) (r : Reach) → of ≡ r.begins.items → All (MayBegin code) r.begins.items
    → AreConditionsOf code r.conditions → All (IsReachedOn code of r.conditions) r.points.items → ArePointsInOrder r.points.items → AreReachedOn code r
reached_on code of r is begins conditions each order = record {
  begins = begins;
  conditions = conditions;
  each = subst (λ (l : List (Option ℕ)). All (IsReachedOn code l r.conditions) r.points.items) is each;
  in_order = order;
}

pub returns : goal.returns
returns c =
    let code = code_of c.args.code.now in
    let there = IsReachedOn code c.deref.result.now c.args.conditions in
    let none = subst (All there) (sym c.new-points.ensures.items) (All-nil there) in
    reached_on code c.deref.result.now _ c.deref.ensures.value c.requires.begins c.requires.conditions (c.in_ok-are_reached.ensures.reached none)
    c.in_ok-are_reached.ensures.in_order
