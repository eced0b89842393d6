use Rattle.std.specs.Prelude.{◌≡◌, ◌≤◌, ◌+◌, ◌++◌, List, ℕ, [], option_map, drop, length}
use Rattle.std.specs.List.{flat_map}
use Rattle.std.proofs.Common.{◌∙◌, ap, sym, arith, append_assoc, append-nil}
use Rattle.std.proofs.lemmas.List.{drop_all}
use Rattle.std.proofs.lemmas.Result.{err_from_is_err_and}
use Rattle.link80.specs.declared.fault.LinkFault.TheVariants.{DuplicatePublic}
use Rattle.link80.specs.Gathered.{names_of_publics, again_in}
use Rattle.link80.proofs.GatheredLemmas.{names_linked, names_at, again_linked}
use Rattle.link80.proofs.declared.declared_names.Goals as goal
use Rattle.link80.proofs.declared.declared_names.Goals.{After-loop-number}

pub returns-in_err-add_publics-clause-fault : goal.returns-in_err-add_publics-clause-fault
returns-in_err-add_publics-clause-fault c =
    let p = err_from_is_err_and c.from_residual.result c.from_residual.ensures.1 in
    rw (p.1, p.2) (λ real.
    ap (option_map DuplicatePublic)
    (again_linked c.args.modules.now ∙ c.loop-number.invariant.1
    ∙ ap (again_in c.loop-number.names) (names_at c.args.modules.now c.loop-number.number c.get.result.now c.get.ensures))
    ∙ c.in_err-add_publics.ensures.fault real (flat_map names_of_publics (drop (c.loop-number.number + 1) c.args.modules.now)))

pub loop-number-preserved : goal.loop-number-preserved
loop-number-preserved c =
    let rest : List (List ℕ) = flat_map names_of_publics (drop (c.loop-number.number + 1) c.args.modules.now) in
    let taken = c.in_ok-add_publics.ensures.taken in
    let next = names_at c.args.modules.now c.loop-number.number c.get.result.now c.get.ensures in (
      ap (λ l. l ++ rest) taken.after_is ∙ append_assoc c.loop-number.names (names_of_publics c.get.result.now) rest
          ∙ ap (λ l. c.loop-number.names ++ l) (sym next) ∙ c.loop-number.invariant.0,
      c.loop-number.invariant.1 ∙ ap (again_in c.loop-number.names) next ∙ taken.again rest,
    )

-- no module is left
none_left : (c : After-loop-number) → drop c.loop-number.number c.args.modules.now ≡ []
none_left c =
    let past : length c.args.modules.now ≤ c.loop-number.number =
    omega (arith, c.loop-number-test.false, c.len-number-end.ensures) in
    drop_all c.loop-number.number c.args.modules.now past

pub returns-clause-names : goal.returns-clause-names
returns-clause-names c =
    sym (append-nil c.loop-number.names) ∙ ap (λ ms. c.loop-number.names ++ flat_map names_of_publics ms) (sym (none_left c))
    ∙ c.loop-number.invariant.0 ∙ sym (names_linked c.args.modules.now)

pub returns-clause-once : goal.returns-clause-once
returns-clause-once c =
    ap (option_map DuplicatePublic) (again_linked c.args.modules.now ∙ c.loop-number.invariant.1
    ∙ ap (λ ms. again_in c.loop-number.names (flat_map names_of_publics ms)) (none_left c))
