-- The names of definitions, and of lemmas of std, that the proofs of this crate cite.
pub use Rattle.image80.specs.Image.{Located}
pub use Rattle.image80.specs.Regions.{Areas}
pub use Rattle.loader80.specs.Sends.{Answers, Sends}
pub use Rattle.loader80.specs.Session.{Says}
pub use Rattle.loader80.specs.Texts.{Texts}
pub use Rattle.loader80.specs.TranscriptText.{output_line, stack_line}
pub use Rattle.loader80.specs.declared.fault.SessionFault.TheVariants.{Image, Inputs, Read, Refused, Regions, TooLong, Write}
pub use Rattle.loader80.specs.declared.fault.SessionFault.{SessionFault}
pub use Rattle.loader80.specs.declared.replies.Outcome.{Outcome}
pub use Rattle.loader80.specs.declared.running.Ended.{Ended}
pub use Rattle.loader80_text.specs.Words.{word_of}
pub use Rattle.loader80_text.specs.declared.inputs.repeated.Repeated.{Repeated}
pub use Rattle.loader80_trace.specs.Traces.{AppendsFront, last_number}
pub use Rattle.loader80_trace.specs.declared.limits.Limits.{Limits}
pub use Rattle.loader80_trace.specs.declared.limits.Span.{Span}
pub use Rattle.machine80.specs.Ports.{PortLists}
pub use Rattle.machine80.specs.Run.{IsRun}
pub use Rattle.machine80.specs.Step.{Machine, with_ports}
pub use Rattle.machine80.specs.World.{World}
pub use Rattle.machine80.specs.declared.end.End.{End}
pub use Rattle.omf_model.specs.declared.symbols.Public.{Public}
pub use Rattle.plm80_console.specs.Answer.{AnswerValue, GaveUp, IsAnswered, IsGiven, IsGivenUp, StopsWriting, and_files, prints, Gives, GivesUp}
pub use Rattle.plm80_console.specs.Journal.{IsTakenBack, Journal, OnlyReports, StopsPrinting, and_printed, and_reported, file_value, FileValue}
pub use Rattle.plm80_names.specs.Fronts.{IsFirstOf, LeavesFront}
pub use Rattle.plm80_names.specs.Verdict.{AnswersVerdict, IsVerdict, IsAccepted, IsRefusal}
pub use Rattle.plm80_runs.specs.Arguments.{dump_path, run_paths}
pub use Rattle.plm80_runs.specs.InputWords.{AnswersWords, IsFirstBadWord, IsGoodWord, IsInputsFile, inputs_named}
pub use Rattle.plm80_runs.specs.Running.{CountsRun, AnswersRun, AnswersSession, AnswersTexts, CoversFiles, EndsRun, RunsFiles, TracesFiles}
pub use Rattle.plm80_runs.specs.Running.{TracesFilesInPart, TracesPart, TracesRun, WatchesRun, last_lines, run_files, session_status, start_of}
pub use Rattle.plm80_runs.specs.Running.{texts_of, ending, trace_ending, trace_lines, with_memory, IsRunRead}
pub use Rattle.plm80_runs.specs.declared.cover.Covered.{Covered}
pub use Rattle.plm80_runs.specs.declared.run_arguments.RunFiles.{RunFiles}
pub use Rattle.std.proofs.Common.{ap, append-nil, arith, get_or, inl, inr, refl, rules, subst, sym, ◌∙◌}
pub use Rattle.std.proofs.KnownBytes.{Appends-nil, Appends-trans}
pub use Rattle.std.proofs.Math.Nat.{min-eq_left}
pub use Rattle.std.proofs.Math.Seq.{take-append_seam}
pub use Rattle.std.proofs.lemmas.Grind.{flat_map-append}
pub use Rattle.std.proofs.lemmas.List.Elements.{All-push}
pub use Rattle.std.proofs.lemmas.List.{drop_more, map-append, map_more, take-append-drop, take_all}
pub use Rattle.std.proofs.lemmas.Result.{IfErr-weaker, IfOk-weaker}
pub use Rattle.std.specs.Borrow.{Bor}
pub use Rattle.std.specs.Io.KnownBytes.{Appends}
pub use Rattle.std.specs.List.{flat_map}
pub use Rattle.std.specs.Prelude.{All, Err, IfErr, IfOk, IfSome, List, None, Ok, Option, Result, Some, [], drop, false, length, map, min, suc, take}
pub use Rattle.std.specs.Prelude.{true, unwrap_or, zero, ℕ, ◌++◌, ◌+◌, ◌-◌, ◌<◌, ◌∷◌, ◌≡◌, ◌≢◌, ◌≤◌, IsOkAnd}
pub use Rattle.verify80.specs.Vouched.{Voucher}
