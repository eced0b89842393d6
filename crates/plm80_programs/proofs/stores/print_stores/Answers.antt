use Rattle.plm80_programs.proofs.Names.{◌≡◌, All, List, Located, Range, subst, GaveUp, Journal, IsGiven}
use Rattle.plm80_programs.specs.Printed.{IsAllData}
use Rattle.plm80_console.specs.Answer.IsGivenUp.{before, within}
use Rattle.plm80_console.specs.Journal.{Blames}
use Rattle.plm80_console.specs.Journal.Blames.{other as other_fault, wrong as what_is_wrong}
use Rattle.plm80_names.specs.Blaming.{GivesUpOrBlames}
use Rattle.plm80_names.specs.Blaming.GivesUpOrBlames.{given_up, wrong}
use Rattle.plm80_console.specs.AnswerLaws.{err_from}
use Rattle.plm80_programs.proofs.stores.print_stores.Goals as goal

-- the same image, seen as a value
all_data : (quiet : List Range) (inside value : Located) → inside ≡ value → All (IsAllData inside.regions) quiet → All (IsAllData value.regions) quiet
all_data quiet inside value same are = subst (λ (i : Located). All (IsAllData i.regions) quiet) same are

pub returns-in_ok-status-in-Ok-clause-done : goal.returns-in_ok-status-in-Ok-clause-done
returns-in_ok-status-in-Ok-clause-done g c =
    let answer = c.in-Ok.field-0.answer in
    record {
      answer = answer;
      answers = record {
        are_data = all_data c.args.quiet.now _ _ c.image.view_is c.in_ok-require_data.ensures.are_data;
        verdict = c.in-Ok.ensures;
      };
      given = subst (λ (j : Journal). IsGiven answer j (g.C.Console.journal c.give.new.self) c.in_ok-status-in-Ok.status)
          c.in_ok-require_data.ensures.unchanged c.in_ok-status-in-Ok.ensures.given;
    }

pub returns-in_err-status-in-Ok-clause-fault : goal.returns-in_err-status-in-Ok-clause-fault
returns-in_err-status-in-Ok-clause-fault g c =
    let answer = c.in-Ok.field-0.answer in
    err_from c.from_residual-in_err-status-in-Ok.result
    (given_up (within answer (record {
      are_data = all_data c.args.quiet.now _ _ c.image.view_is c.in_ok-require_data.ensures.are_data;
      verdict = c.in-Ok.ensures;
    })
    (subst (λ (j : Journal). GaveUp answer j (g.C.Console.journal c.give.new.self)) c.in_ok-require_data.ensures.unchanged
    c.in_err-status-in-Ok.ensures.fault)))
