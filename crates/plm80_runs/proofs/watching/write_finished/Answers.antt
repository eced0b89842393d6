use Rattle.plm80_runs.proofs.Names.{◌++◌, ◌∙◌, ap, flat_map, inr, subst, AnswerValue, WatchesRun, dump_path, output_line, stack_line, last_lines, start_of}
use Rattle.plm80_runs.proofs.Names.{Appends-trans, Some, with_memory, with_ports, sym}
use Rattle.plm80_names.specs.FrontLaws.{all_front, front_of_first, front_of_second, on_err}
use Rattle.plm80_runs.proofs.RunLemmas.{first_of_run, run_text, steps_within, watched_run}
use Rattle.plm80_runs.proofs.watching.write_finished.Goals as goal

pub write_last-requires-clause-within : goal.write_last-requires-clause-within
write_last-requires-clause-within g c =
    let program = c.args.vouched.now in
    let at = c.args.finished.now in
    steps_within program.image.regions (Some c.args.watch.limits.outputs) (start_of program c.args.inputs.now.pairs.items)
    c.args.watch.limits.steps at.ended.steps (with_ports at.ended.cpu at.bus at.ports) at.ended.end c.requires.finished

pub returns-clause-watched : goal.returns-clause-watched
returns-clause-watched g c =
    let program = c.args.vouched.now in
    let watch = c.args.watch in
    let at = c.args.finished.now in
    let inputs = c.args.inputs.now.pairs.items in
    let names = c.args.names.now in
    let dump = dump_path watch.dump in
    let front = stack_line program.stack_bytes ++ flat_map output_line at.ports.outputs in
    let last = last_lines inputs watch.limits watch.last names program at.ended in (
      front ++ last,
      Appends-trans (g.K.Sink.written c.args.out.now) (g.K.Sink.written c.write_front.new.out) (g.K.Sink.written c.write_last.new.out) front last
          c.in_ok-write_front.ensures.written c.in_ok-write_last.ensures.written,
      subst (λ (answer : AnswerValue). WatchesRun inputs watch.limits watch.last dump names program (front ++ last) at.ended answer)
          (sym (c.in_ok-answer.ensures ∙ ap (with_memory dump at.bus) c.in_ok-ending.ensures))
          (watched_run inputs watch.limits watch.last dump names program at.ended at.bus at.ports c.requires.finished),
    )

pub returns-in_err-write_front-clause-front : goal.returns-in_err-write_front-clause-front
returns-in_err-write_front-clause-front g c =
    let at = c.args.finished.now in
    let program = c.args.vouched.now in
    let watch = c.args.watch in
    let inputs = c.args.inputs.now.pairs.items in
    let names = c.args.names.now in
    on_err c.from_residual.result
    (inr (
      run_text inputs watch.limits watch.last names program at.ended at.ports.outputs,
      first_of_run inputs watch.limits watch.last (dump_path watch.dump) names program at.ended at.bus at.ports c.requires.finished,
      front_of_first (g.K.Sink.written c.args.out.now) (g.K.Sink.written c.write_front.new.out) _ _ c.in_err-write_front.ensures.front,
    ))

pub returns-in_err-write_last-clause-front : goal.returns-in_err-write_last-clause-front
returns-in_err-write_last-clause-front g c =
    let at = c.args.finished.now in
    let program = c.args.vouched.now in
    let watch = c.args.watch in
    let inputs = c.args.inputs.now.pairs.items in
    let names = c.args.names.now in
    on_err c.from_residual-in_err-write_last.result
    (inr (
      run_text inputs watch.limits watch.last names program at.ended at.ports.outputs,
      first_of_run inputs watch.limits watch.last (dump_path watch.dump) names program at.ended at.bus at.ports c.requires.finished,
      front_of_second (g.K.Sink.written c.args.out.now) (g.K.Sink.written c.write_front.new.out) (g.K.Sink.written c.write_last.new.out) _ _
          c.in_ok-write_front.ensures.written c.in_err-write_last.ensures.front,
    ))

pub returns-in_err-ending-clause-front : goal.returns-in_err-ending-clause-front
returns-in_err-ending-clause-front g c =
    let at = c.args.finished.now in
    let program = c.args.vouched.now in
    let watch = c.args.watch in
    let inputs = c.args.inputs.now.pairs.items in
    let names = c.args.names.now in
    let last = last_lines inputs watch.limits watch.last names program at.ended in
    on_err c.from_residual-in_err-ending.result
    (inr (
      run_text inputs watch.limits watch.last names program at.ended at.ports.outputs,
      first_of_run inputs watch.limits watch.last (dump_path watch.dump) names program at.ended at.bus at.ports c.requires.finished,
      all_front (g.K.Sink.written c.args.out.now) (g.K.Sink.written c.write_last.new.out) _
          (Appends-trans (g.K.Sink.written c.args.out.now) (g.K.Sink.written c.write_front.new.out) (g.K.Sink.written c.write_last.new.out) _ last
          c.in_ok-write_front.ensures.written c.in_ok-write_last.ensures.written),
    ))

pub returns-in_err-answer-clause-front : goal.returns-in_err-answer-clause-front
returns-in_err-answer-clause-front g c =
    let at = c.args.finished.now in
    let program = c.args.vouched.now in
    let watch = c.args.watch in
    let inputs = c.args.inputs.now.pairs.items in
    let names = c.args.names.now in
    let last = last_lines inputs watch.limits watch.last names program at.ended in
    on_err c.from_residual-in_err-answer.result
    (inr (
      run_text inputs watch.limits watch.last names program at.ended at.ports.outputs,
      first_of_run inputs watch.limits watch.last (dump_path watch.dump) names program at.ended at.bus at.ports c.requires.finished,
      all_front (g.K.Sink.written c.args.out.now) (g.K.Sink.written c.write_last.new.out) _
          (Appends-trans (g.K.Sink.written c.args.out.now) (g.K.Sink.written c.write_front.new.out) (g.K.Sink.written c.write_last.new.out) _ last
          c.in_ok-write_front.ensures.written c.in_ok-write_last.ensures.written),
    ))
