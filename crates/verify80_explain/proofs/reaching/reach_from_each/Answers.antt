use Rattle.std.specs.Prelude.{◌≡◌, ◌<◌, ℕ, List, length, All, Option, Some, IfSome}
use Rattle.std.proofs.Common.{get_or, subst, sym}
use Rattle.std.proofs.lemmas.List.Elements.{All-append, All-weaker, Contains-get_or}
use Rattle.frames80.specs.Code.{Code}
use Rattle.verify80.specs.Looking.{code_of}
use Rattle.verify80_explain.specs.declared.conditions.Conditions.{Conditions}
use Rattle.verify80_explain.specs.declared.reaching.ReachedPoint.{ReachedPoint}
use Rattle.verify80_explain.specs.Conditions.{code_from}
use Rattle.verify80_explain.specs.Reaching.{IsReachedAt, IsReachedOn}
use Rattle.verify80_explain.proofs.JudgedLemmas.{is_refused}
use Rattle.verify80_explain.proofs.reaching.reach_from_each.Goals as goal

of_some : {A : Type 0} (P : A → Type 0) (o : Option A) (x : A) → o ≡ Some x → IfSome o P → P x
of_some P o x is given = subst (λ (p : Option _). IfSome p P) is given

-- what is reached from one of the beginnings on
reached_on : (code : Code) (conditions : Conditions) (begins : List (Option ℕ)) (n : ℕ) (d : Option ℕ) (found : List ReachedPoint) → n < length begins
    → All (IsReachedAt code (code_from (get_or begins n d) conditions code)) found → All (IsReachedOn code begins conditions) found
reached_on code conditions begins n d found inside there =
    All-weaker (IsReachedAt code (code_from (get_or begins n d) conditions code)) (IsReachedOn code begins conditions)
    (λ point is. record {
      begin = get_or begins n d;
      among = Contains-get_or begins n d inside;
      there = is;
      refused = is_refused code (get_or begins n d) conditions point is;
    }) found there

pub loop-number-preserved : goal.loop-number-preserved
loop-number-preserved c = λ all.
    let P : ReachedPoint → Type 0 = IsReachedOn (code_of c.args.code.now) c.args.begins.now c.args.conditions.now in
    let found = reached_on (code_of c.args.code.now) c.args.conditions.now c.args.begins.now c.loop-number.number _ c.in-Some.found.items c.loop-number-test.true
    (of_some _ c.in_ok-found.field-0 c.in-Some.found c.in-Some.is c.in_ok-found.ensures) in
    subst (All P) (sym c.in_ok-extend_from_slice.ensures.items) (All-append P c.loop-number.points.items _ (c.loop-number.invariant all) (subst (All P) (sym c.deref.ensures.value) found))
