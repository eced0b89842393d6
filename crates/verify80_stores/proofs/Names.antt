-- The names of definitions, and of lemmas of std, that the proofs of this crate cite.
pub use Rattle.decode80.specs.{Facts.flow, Facts.storing, Fetch.direct_bytes}
pub use Rattle.decode80.specs.declared.{fetching.FetchFault.FetchFault, fetching.Fetched.Fetched, instr.Instr.Instr, pair.IndexPair.TheVariants.Bc}
pub use Rattle.decode80.specs.declared.{pair.IndexPair.TheVariants.De, storing.Storing.Storing, storing.Storing.TheVariants.Through}
pub use Rattle.decode80.specs.declared.{storing.Storing.TheVariants.ThroughHl}
pub use Rattle.decode80.specs.declared.instr.Instr.TheVariants.{Hlt, In, Out, Pchl}
pub use Rattle.frames80.specs.Code.{Code}
pub use Rattle.image80.specs.{Image.Located, Image.memory_of, Range.in_range, Range.in_ranges}
pub use Rattle.image80.specs.Regions.{AreRegions, Areas, in_code, in_data, targets_at}
pub use Rattle.image80.specs.declared.range.Range.{Range}
pub use Rattle.machine80.specs.{Cpu.hl_of, Cpu.index_pair_of, Effects.pointed_by, Effects.pointed_bytes, Effects.stack_bytes, Effects.target, Ports.next_input, Run.world_of}
pub use Rattle.machine80.specs.Step.{Machine, Stop, ends_at, execute, first_outside, guard, guarded, leads_outside, proceeded, step_on, turn_of, with_input}
pub use Rattle.machine80.specs.World.{IsNewest, IsProperEnd, World, fetched_by, places_after, places_then, refuses, returns, turn_at, world_at_start}
pub use Rattle.machine80.specs.declared.{end.End.End, registers.Registers.Registers}
pub use Rattle.machine80.specs.declared.end.End.TheVariants.{Direct, Fetch, InputEnd, JumpOutside, OutputRefused, Stack, StoreOutside}
pub use Rattle.std.proofs.Common.{Bool, IfSome, List, Option, ap, arith, below_more, get_or, map, get_or-set_other, inl, inr, length, refl, rules}
pub use Rattle.std.proofs.Common.{subst, sym, take, true, true≢false, ℕ, ◌++◌, ◌-◌, ◌<◌, ◌∙◌, ◌≡◌, ◌≤◌}
pub use Rattle.std.proofs.lemmas.Bool.{and_from, and_parts, and_right, cases_eq, cases_lt, cond_both, eqb-true}
pub use Rattle.std.proofs.lemmas.Bool.Decides.{nat_tests}
pub use Rattle.std.proofs.lemmas.List.{FromFn.get_or-map-range_with_len, FromFn.get_or-range_with_len, FromFn.length-map-range_with_len}
pub use Rattle.std.proofs.lemmas.List.{FromFn.length-range_with_len, Kept.AllPairs-filter, get_or-map, get_or-set_same, get_or_past, length-map}
pub use Rattle.std.proofs.lemmas.List.{length-set}
pub use Rattle.std.proofs.lemmas.List.Elements.{All-cons, All-contains, All-filter, All-map, All-nil, Contains-get_or, filter_passes}
pub use Rattle.std.proofs.lemmas.List.Folds.{list_any_at}
pub use Rattle.std.proofs.lemmas.Option.{same_Some, slice_get-get_or, slice_get_within}
pub use Rattle.std.specs.List.{AllPairs, filter, flat_map, list_all, list_any, range_with_len}
pub use Rattle.std.specs.Option.{option_map_or}
pub use Rattle.std.specs.Prelude.{All, Any, Contains, Err, None, Ok, Result, Some, [], false, if◌then◌else◌, not, slice_get, slice_index}
pub use Rattle.std.specs.Prelude.{slice_index_or, slice_set, suc, unwrap_or, zero, ◌&&◌, ◌+◌, ◌==◌, ◌||◌, ◌∷◌, ◌≢◌, ◌⊎◌}
pub use Rattle.std.specs.Result.{result_ok}
pub use Rattle.verify80.specs.Boards.{Anywhere, Disturbs, Executes, HasAt, IsUnset, KeepsPromise, MayStart, OnBoard, SetsStack, StaysInside, begins}
pub use Rattle.verify80.specs.Boards.{disturbed, executed, fetched_anywhere, goes_on, respected_pointer, sets_sp, starts, uses_sp}
pub use Rattle.verify80.specs.Boards.{with_respected_pointer}
pub use Rattle.verify80.specs.{Looking.code_of, Looking.declared_targets, Looking.is_pchl, Starts.IsStart, Starts.IsWorldFrom, Starts.NeverGoesWrongFromPowerOn}
pub use Rattle.verify80.specs.Reached.{AreReached, IsReached, StandsOnWalk, StaysOnWalks, found_at}
pub use Rattle.verify80.specs.Vouched.{IsVouched}
pub use Rattle.verify80_spans.specs.Span.{IsInside, Within, any_word, hull}
pub use Rattle.verify80_spans.specs.declared.span.Span.{Span}
pub use Rattle.verify80_states.specs.{Bytes.BytesStayBytes, Bytes.HasBytes, Bytes.HoldsBytes, Marks.entry_at, Marks.is_marked, Known.HoldsRegisters, Steps.AreCodeBytes, Steps.code_in}
pub use Rattle.verify80_states.specs.Runs.{IsKept, IsKnown, KeepsTo, KeepsToCalls, RunsKeepTo}
pub use Rattle.verify80_states.specs.declared.{fitting.fitting.Placed.Placed, states.known.Known.Known}
pub use Rattle.verify80_stores.specs.Boards.{IsListedAt, KeepsWholePromise, PromiseHoldsOnBoards, PromiseHoldsOnQuietBoards}
pub use Rattle.verify80_states.specs.QuietBoards.{OnQuietBoard, StaysQuiet, begins as begins_quiet, disturbed as disturbed_quiet, executed as executed_quiet, is_quiet}
pub use Rattle.verify80_stores.specs.{DataReach.ReachesTo, Pointers.is_through_pair, Pointers.stores_by_pair, Causes.IsCause, Causes.IsSetBy}
pub use Rattle.verify80_stores.specs.{Causes.IsSo, Causes.writes_to, StackPointer.AreClosed, StackPointer.IsClosedAt, StackPointer.LeadsToMarked}
pub use Rattle.verify80_stores.specs.Listing.{AreAllBelow, AreKnown, AreNotes, AreOpen, IsLeftAt, IsListed, IsNoted, IsSpanned, instr_in, is_at, is_kind, is_listed, is_of, no_note, note_at, store_at}
pub use Rattle.verify80_stores.specs.Opening.{IsLeftOpen, StaysIn, joined, pointer_span, span_in, span_through}
pub use Rattle.verify80_stores.specs.Shown.{AreShown, IsShut, IsShutAt, KeptTable, noted_by_both}
pub use Rattle.verify80_stores.specs.Stores.{AreReachedAs, AreStoresOf, EndsAsListed, GoesAsListed, IsOpen, IsReachedAs, StoresGoAsListed}
pub use Rattle.verify80_stores.specs.StoresText.{jump_line, quiet_line, store_line}
pub use Rattle.verify80_stores.specs.declared.{causes.Cause.Cause, listing.Note.Note, stores.OpenStore.OpenStore}
