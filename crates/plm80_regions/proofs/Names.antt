-- The names of definitions, and of lemmas of std, that the proofs of this crate cite.
pub use Rattle.image80.specs.Case.{DeclaredCase}
pub use Rattle.image80.specs.Image.{Located}
pub use Rattle.image80.specs.Regions.{Areas}
pub use Rattle.image80.specs.RegionsText.{case_text, cases_text, regions_text}
pub use Rattle.image80.specs.declared.range.Range.{Range}
pub use Rattle.loader80_trace.specs.Traces.{AppendsFront}
pub use Rattle.plm80_console.specs.Answer.{behind_file, prints}
pub use Rattle.plm80_console.specs.Journal.{Journal, OnlyReports, and_printed, and_read, and_reported, file_value}
pub use Rattle.plm80_names.specs.Fronts.{LeavesFront}
pub use Rattle.plm80_regions.specs.Arguments.{cases_path}
pub use Rattle.plm80_regions.specs.Cases.{AreFoundBelow, BeginsCases, FindsCases, HasLongCases, IsFoundAt, PrintsCases, PrintsCasesInPart, notes_status}
pub use Rattle.plm80_regions.specs.Suggest.{AnswersAdvice}
pub use Rattle.plm80_regions.specs.Written.{AnswersRegions}
pub use Rattle.plm80_regions.specs.declared.cases.FoundCase.{FoundCase}
pub use Rattle.std.proofs.Common.{ap, append-nil, arith, inl, inr, refl, rules, subst, sym, ◌∙◌}
pub use Rattle.std.proofs.KnownBytes.{Appends-nil, Appends-trans}
pub use Rattle.std.proofs.lemmas.Grind.{flat_map-append}
pub use Rattle.std.proofs.lemmas.List.{map-append}
pub use Rattle.std.proofs.lemmas.List.Elements.{All-nil, All-push, filter-append, filter_map-append}
pub use Rattle.std.specs.Io.KnownBytes.{Appends}
pub use Rattle.std.specs.List.{cons_option, range_with_len}
pub use Rattle.std.specs.Prelude.{All, Bool, List, None, Option, Some, [], codes, false, filter, filter_map, if◌then◌else◌, length, suc, true, zero, ℕ, ◌++◌, ◌+◌, ◌<◌, ◌∷◌, ◌≡◌, ◌≤◌}
pub use Rattle.stream80.specs.WholeText.{text_limit}
pub use Rattle.verify80_cases.specs.Added.{AddsCases, CanBeAdded}
pub use Rattle.verify80_cases.specs.Suggested.{Finding, IsFinding, IsSearched, case_of, is_open}
pub use Rattle.verify80_cases.specs.declared.search.Note.{Note}
pub use Rattle.verify80_suggest.specs.Suggestion.{IsSuggestion, with_regions}
pub use Rattle.verify80_suggest.specs.declared.setters.Setter.{Setter}
