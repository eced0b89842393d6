-- The names of definitions, and of lemmas of std, that the proofs of this crate cite.
pub use Rattle.image80.specs.Image.{Located}
pub use Rattle.image80.specs.declared.range.Range.{Range}
pub use Rattle.plm80_console.specs.Answer.{GaveUp, IsGiven, prints}
pub use Rattle.plm80_console.specs.Journal.{Journal, OnlyReports}
pub use Rattle.plm80_names.specs.Arguments.{asks_names, program_paths}
pub use Rattle.plm80_names.specs.Printed.{named_refusal_line, named_report}
pub use Rattle.plm80_names.specs.Verdict.{AnswersProgram, AnswersVerdict, IsVerdict}
pub use Rattle.plm80_programs.specs.Explanations.{PrintsExplanation, ShowsRefused, ShowsWith, count_line, needed_stack, shown_lines}
pub use Rattle.plm80_programs.specs.Following.{AnswersFollowing, PrintsFollowed}
pub use Rattle.plm80_programs.specs.Printed.{AnswersStores, ListsStores, PrintsCalls, PrintsListing, PrintsReport, PrintsStores, stores_lines, stores_status}
pub use Rattle.plm80_programs.specs.declared.stores.ListedStores.{ListedStores}
pub use Rattle.std.proofs.Common.{ap, arith, refl, subst, sym, ◌∙◌}
pub use Rattle.std.proofs.lemmas.Result.{IfOk-weaker}
pub use Rattle.std.specs.List.{flat_map}
pub use Rattle.std.specs.Prelude.{All, Err, IfOk, List, Ok, OnOk, Option, Result, Some, codes, length, take, ℕ, ◌++◌, ◌+◌, ◌≡◌, ◌≢◌}
pub use Rattle.verify80_explain_text.specs.Printed.{GoesOnWithChain, GoesOnWithWays}
pub use Rattle.verify80_flow.specs.declared.refusal.Refusal.{Refusal}
