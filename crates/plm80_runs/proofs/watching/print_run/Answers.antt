use Rattle.plm80_runs.proofs.Names.{ℕ, List, refl, subst, dump_path, AnswerValue, EndsRun, IsFirstOf, StopsPrinting, ◌∙◌, ap}
use Rattle.plm80_names.specs.FrontLaws.{printed, stopped}
use Rattle.plm80_runs.proofs.RunLemmas.{answered_behind, ending_first, given_up_behind}
use Rattle.plm80_console.specs.Answer.GaveUp.{starting}
use Rattle.plm80_console.specs.Answer.IsGivenUp.{within}
use Rattle.plm80_runs.proofs.watching.print_run.Goals as goal

pub returns-in-Ok : goal.returns-in-Ok
returns-in-Ok g c =
    let watch = c.args.watch in
    let program = c.args.vouched.now in
    let names = c.args.names.now in
    let Ends = EndsRun c.args.inputs.now.pairs.items watch.limits watch.last (dump_path watch.dump) names program in
    let run = c.in-Ok.ensures.watched in
    let text = run.0 in
    let answer = c.in-Ok.watched.answer in
    let old = g.C.Console.journal c.args.console.now in
    let between = g.C.Console.journal c.take_back-failure.new.self in
    let new = g.C.Console.journal c.end_run.new.console in
    let all = printed _ _ text old (g.C.Console.journal c.output-output.new.self) between c.output-output.ensures.written
    c.output-output.ensures.unchanged run.1 c.take_back-failure.ensures in
    let none = ap (λ (a : AnswerValue). a.first) run.2.answer_is
    ∙ ending_first (dump_path watch.dump) run.2.transcript.last.memory program names c.in-Ok.watched.ended in
    let ends : Ends (record answer { first = text }) =
    record { text = text; ended = c.in-Ok.watched.ended; behind = answer; watched = run.2; answer_is = refl } in
    record {
      done = answered_behind Ends answer old between new text none all ends c.end_run.result c.end_run.ensures.given;
      fault = given_up_behind Ends answer old between new text none all ends c.end_run.result c.end_run.ensures.fault;
    }

pub returns-in-Err-clause-fault : goal.returns-in-Err-clause-fault
returns-in-Err-clause-fault g c =
    let watch = c.args.watch in
    let Ends = EndsRun c.args.inputs.now.pairs.items watch.limits watch.last (dump_path watch.dump) c.args.names.now c.args.vouched.now in
    let old = g.C.Console.journal c.args.console.now in
    let new = g.C.Console.journal c.report_lines.new.console in
    stopped (IsFirstOf Ends) Ends _ _ old (g.C.Console.journal c.output-output.new.self) (g.C.Console.journal c.take_back-failure.new.self) new
    c.output-output.ensures.written c.output-output.ensures.unchanged c.in-Err.ensures.front c.take_back-failure.ensures c.report_lines.ensures
    (λ text is stops. within is.0 is.1 (starting (subst (λ (l : List ℕ). StopsPrinting l old new) is.2 stops)))
