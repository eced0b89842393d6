use Rattle.plm80_runs.proofs.Names.{◌∙◌, sym, texts_of}
use Rattle.plm80_runs.proofs.SessionLemmas.{session_blamed_or_given_up, session_given}
use Rattle.plm80_runs.proofs.session_files.print_session.Goals as goal

pub returns-in-Ok-session_status-clause-done : goal.returns-in-Ok-session_status-clause-done
returns-in-Ok-session_status-clause-done g c =
    session_given c.args.limits (texts_of c.args.texts.now) c.session_of-answer.result _ _ (g.C.Console.journal c.args.console.now) (g.C.Console.journal c.output-output.new.self)
    (g.C.Console.journal c.take_back-failure.new.self) c.in-Ok-session_status.status c.output-output.ensures.written c.output-output.ensures.unchanged
    c.session_of-answer.ensures (sym c.session_status.ensures ∙ c.in-Ok-session_status.is) c.take_back-failure.ensures

pub returns-in-Err-clause-fault : goal.returns-in-Err-clause-fault
returns-in-Err-clause-fault g c =
    session_blamed_or_given_up c.text_of_regions_is_read_as_itself.ensures.not_refused c.one_image_reading.ensures.never_both c.args.limits c.args.texts.now c.session_of-answer.result c.in-Err.fault _ _ (g.C.Console.journal c.args.console.now)
    (g.C.Console.journal c.output-output.new.self) (g.C.Console.journal c.take_back-failure.new.self) (g.C.Console.journal c.report_session.new.console)
    c.output-output.ensures.written c.output-output.ensures.unchanged c.session_of-answer.ensures
    (sym c.session_status.ensures ∙ c.in-Err.is) c.take_back-failure.ensures c.report_session.ensures
