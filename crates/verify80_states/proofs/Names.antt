-- The names of definitions, and of lemmas of std, that the proofs of this crate cite.
pub use Rattle.decode80.specs.{Decoded.decoded, Facts.flow, Restart.restart_number, Spelling.HasOperandInRange, Fetch.admitted_if_used, Fetch.ahead}
pub use Rattle.decode80.specs.{Fetch.all_code, Fetch.behind, declared.condition.Condition.Condition, declared.fetching.FetchFault.FetchFault}
pub use Rattle.decode80.specs.{declared.fetching.FetchFault.TheVariants.Outside, declared.fetching.Fetched.Fetched, declared.flow.Flow.Flow}
pub use Rattle.decode80.specs.{declared.condition.Condition.TheVariants.Carry, declared.condition.Condition.TheVariants.Minus}
pub use Rattle.decode80.specs.{declared.condition.Condition.TheVariants.NoCarry, declared.condition.Condition.TheVariants.NonZero}
pub use Rattle.decode80.specs.{declared.condition.Condition.TheVariants.Plus, declared.condition.Condition.TheVariants.Zero}
pub use Rattle.decode80.specs.{declared.instr.Instr.Instr, declared.operation.Operand.Operand, declared.operation.Operation.Operation}
pub use Rattle.decode80.specs.{declared.pair.IndexPair.IndexPair, declared.operation.Operand.TheVariants.Immediate}
pub use Rattle.decode80.specs.{declared.operation.Operand.TheVariants.Register as InRegister, declared.operation.Operand.TheVariants.Memory}
pub use Rattle.decode80.specs.{declared.pair.IndexPair.TheVariants.Bc as IndexBc, declared.pair.IndexPair.TheVariants.De as IndexDe}
pub use Rattle.decode80.specs.{declared.pair.Pair.Pair, declared.pair.StackPair.StackPair, declared.register.Register.Register}
pub use Rattle.decode80.specs.{declared.pair.Pair.TheVariants.Bc, declared.pair.Pair.TheVariants.De, declared.pair.Pair.TheVariants.Hl}
pub use Rattle.decode80.specs.{declared.pair.Pair.TheVariants.Sp, declared.pair.StackPair.TheVariants.Psw}
pub use Rattle.decode80.specs.{declared.pair.StackPair.TheVariants.Bc as StackBc, declared.pair.StackPair.TheVariants.De as StackDe}
pub use Rattle.decode80.specs.{declared.pair.StackPair.TheVariants.Hl as StackHl, declared.register.Register.TheVariants.A}
pub use Rattle.decode80.specs.{declared.register.Register.TheVariants.B, declared.register.Register.TheVariants.C}
pub use Rattle.decode80.specs.{declared.register.Register.TheVariants.D, declared.register.Register.TheVariants.E}
pub use Rattle.decode80.specs.{declared.register.Register.TheVariants.H, declared.register.Register.TheVariants.L, declared.restart.Restart.Restart}
pub use Rattle.decode80.specs.{declared.restart.Restart.TheVariants.Vector0, declared.rotation.Rotation.Rotation}
pub use Rattle.decode80.specs.{declared.rotation.Rotation.TheVariants.Left, declared.rotation.Rotation.TheVariants.LeftThroughCarry}
pub use Rattle.decode80.specs.{declared.rotation.Rotation.TheVariants.Right, declared.rotation.Rotation.TheVariants.RightThroughCarry}
pub use Rattle.decode80.specs.declared.flow.Flow.TheVariants.{Calls, CallsIf, Continues, Exchanges, Halts, Jumps, JumpsIf, JumpsToHl, Pops, Pushes, Returns, ReturnsIf}
pub use Rattle.decode80.specs.declared.instr.Instr.TheVariants.{Call, CallIf, Cma, Cmc, Daa, Dad, Dcr, DcrMemory, Dcx, Hlt, In, Inr, InrMemory, Inx}
pub use Rattle.decode80.specs.declared.instr.Instr.TheVariants.{Jmp, JumpIf, Lda, Ldax, Lhld, Load, Lxi, Mov, Mvi, MviMemory, Operate, Out, Pchl, Pop}
pub use Rattle.decode80.specs.declared.instr.Instr.TheVariants.{Push, Ret, ReturnIf, Rotate, Rst, Shld, Sphl, Sta, Stax, Stc, Store, Xchg, Xthl}
pub use Rattle.decode80.specs.declared.operation.Operation.TheVariants.{Add, AddCarry, And, Compare, ExclusiveOr, Or, Subtract, SubtractBorrow}
pub use Rattle.frames80.specs.{Code.Code, Lists.slice_get-append, Lists.slice_get-last}
pub use Rattle.image80.specs.{Image.Located, Image.memory_of, Range.IsInMemory, Range.in_range, Regions.AreRegions, Regions.Areas, Regions.all_ranges}
pub use Rattle.image80.specs.{Regions.in_code, Regions.in_data, Regions.targets_at, Regions.top_of, declared.range.Range.Range}
pub use Rattle.machine80.specs.{Arithmetic.decimal_answer, Arithmetic.decrement_answer, Arithmetic.increment_answer, Arithmetic.pair_sum}
pub use Rattle.machine80.specs.{Flags.flags_byte, Flags.flags_from, Flags.holds, Flags.holds as holds_of, Ports.next_input, Ports.waiting}
pub use Rattle.machine80.specs.{Ports.without_next, Run.world_of, declared.cpu.Cpu.Cpu, declared.end.End.End, declared.flags.Flags.Flags}
pub use Rattle.machine80.specs.{declared.registers.Registers.Registers, declared.end.End.TheVariants.Direct, declared.end.End.TheVariants.JumpOutside}
pub use Rattle.machine80.specs.{declared.end.End.TheVariants.Stack, declared.end.End.TheVariants.StoreOutside}
pub use Rattle.machine80.specs.Cpu.{hl_of, index_pair_of, pair_of, register_of, with_pair, with_register, with_stack_pair, word}
pub use Rattle.machine80.specs.Effects.{byte_in, changed, goes_to, operand_of, push_bytes, stored, stores, target, word_in}
pub use Rattle.machine80.specs.Step.{Machine, Next, Stop, Turn, ends_at, execute, fetch, first_outside, guard, guarded, jump_end, proceeded, step_of, step_on, turn_of, with_input}
pub use Rattle.machine80.specs.World.{FetchesInside, IsNewest, IsWorldOf, World, fetched_by, following, is_return_taken, next_world, places_by}
pub use Rattle.machine80.specs.World.{places_then, refuses, returns, turn_at, world_after, world_at, world_at_start}
pub use Rattle.std.proofs.Common.{Some, ap, arith, below_more, cond, get_or, get_or-set_other, inl, inr, refl, rules, subst, suc, sym, true, true≢false, zero, ℕ, ◌<◌, ◌∙◌, ◌≡◌}
pub use Rattle.std.proofs.{Math.Bool.not-not, lemmas.Bool.and_parts, lemmas.Bool.cases_eq, lemmas.Bool.cond_both, lemmas.Bool.eqb-true}
pub use Rattle.std.proofs.{lemmas.List.Sums.AllPass-from_list_all, lemmas.Map.Views.Contains-from_any, lemmas.Bool.Decides.nat_tests}
pub use Rattle.std.proofs.{lemmas.Grind.get_or_default_zero, lemmas.List.FromFn.get_or-map-range_with_len}
pub use Rattle.std.proofs.{lemmas.List.FromFn.length-map-range_with_len, lemmas.List.get_or-set_same, lemmas.List.length-set, lemmas.Nat.and_le_l}
pub use Rattle.std.proofs.{lemmas.Nat.and_le_r, lemmas.Nat.le_or_l, lemmas.Nat.le_or_r, lemmas.Nat.or_of_8, lemmas.Nat.shr_le, lemmas.Nat.xor_of_8}
pub use Rattle.std.proofs.{lemmas.Option.get_or_from_slice_get, lemmas.Option.same_Some, lemmas.Option.slice_get-get_or}
pub use Rattle.std.proofs.{lemmas.Option.slice_get_within}
pub use Rattle.std.proofs.lemmas.List.Elements.{All-cons, All-contains, All-drop, All-head, All-map, All-nil, All-push, All-replicate, All-set}
pub use Rattle.std.proofs.lemmas.List.Elements.{All-tail, Contains-append_left, Contains-append_right, Contains-push}
pub use Rattle.std.specs.{Int.Bits.and_lt, Int.Bits.and_self, Int.Bits.or_add_and, Int.Bits.or_self, Int.Bits.xor_add_and, Int.Bits.xor_self}
pub use Rattle.std.specs.{List.find, List.list_all, List.list_any, List.range_with_len, Option.option_map_or, Result.result_ok}
pub use Rattle.std.specs.Prelude.{All, IfSome, Bool, Contains, Err, IsSome, List, None, Ok, Option, Result, [], bit_and, bit_or, bit_xor, drop, false}
pub use Rattle.std.specs.Prelude.{if◌then◌else◌, length, map, max, min, nat_le, nat_lt, not, slice_get, slice_index, slice_index_or, slice_set, ◌%◌}
pub use Rattle.std.specs.Prelude.{◌&&◌, ◌*◌, ◌++◌, ◌+◌, ◌-◌, ◌/◌, ◌==◌, ◌∷◌, ◌≢◌, ◌≤◌, ◌⊎◌}
pub use Rattle.verify80.specs.{Boards.LeavesProgram, Boards.with_memory, Looking.code_of, Looking.declared_targets, Starts.IsStart}
pub use Rattle.verify80.specs.{Starts.IsWorldFrom, Starts.NeverGoesWrongFromPowerOn, Reached.AreReached, Reached.IsReached, Reached.StandsOnWalk}
pub use Rattle.verify80.specs.{Reached.StaysOnWalks, Reached.found_at}
pub use Rattle.verify80_spans.specs.Span.{ByteWithin, IsByteInside, IsInside, Within, and_of, any_byte, any_word, are_alone, below, byte_alone}
pub use Rattle.verify80_spans.specs.Span.{carry_span, complemented, difference_of, doubled, exclusive_or_of, from, high_of as high_bytes, is_alone}
pub use Rattle.verify80_spans.specs.Span.{is_byte_alone, joined, meet, meet_bytes, next_byte, next_span, only, operated, or_of, previous_byte}
pub use Rattle.verify80_spans.specs.Span.{previous_span, rotated, sign_of, sum_carries, sum_of, sum_span, uncarried, without, word_alone, zero_of}
pub use Rattle.verify80_spans.specs.{declared.byte_span.ByteSpan.ByteSpan, declared.byte_span.Outcome.Outcome, declared.span.Span.Span}
pub use Rattle.verify80_states.specs.QuietBoards.{is_quiet}
pub use Rattle.verify80_states.specs.Bytes.{AreBytes, BytesStayBytes, FetchedOperandsAreBounded, HasBytes, HoldsBytes, IsBounded, IsByte, IsWord, MemoryKeepsItsLength}
pub use Rattle.verify80_states.specs.Calls.{AccountsFor, AccountsForCall, IsBehind, IsWithin, KeepsCalls, KnowsReturn, KnowsReturnIf, KnowsReturnsOf, Owes, ReturnFacts, no_returns, returns_of}
pub use Rattle.verify80_states.specs.Cells.{AreCellsInside, AreQuietCells, HoldsCell, HoldsCells, IsCellInside, IsQuietCell, any_cell, bytes_at}
pub use Rattle.verify80_states.specs.Cells.{bytes_of, cells_after, cut_cell, cut_cells, no_cells, stored_cell}
pub use Rattle.verify80_states.specs.{Fitting.CallsEntry, Fitting.Covers, Fitting.CoversAfter, Fitting.FitsAt, Fitting.FitsBy, Fitting.Has}
pub use Rattle.verify80_states.specs.{Fitting.KnowsQuiet, FittingTable.AccountsAt, FittingTable.AllFit, FittingTable.EntryFits, FittingTable.Fits}
pub use Rattle.verify80_states.specs.{FittingTable.FitsWhereReached, FittingTable.nothing_at, Marks.entry_at, Marks.is_marked, Runs.IsKept}
pub use Rattle.verify80_states.specs.{Runs.KeepsTo, Runs.KeepsToCalls, Steps.AreCodeBytes, Steps.HasCode, Steps.ReadsCode, Steps.is_taken}
pub use Rattle.verify80_states.specs.{Variables.HoldsSet, Variables.IsSaid, Variables.is_bit, Variables.takes, declared.fitting.fitting.Placed.Placed}
pub use Rattle.verify80_states.specs.{declared.states.cells.Cell.Cell, declared.states.cells.Cells.Cells}
pub use Rattle.verify80_states.specs.{declared.states.memory_after.StoredByte.StoredByte, declared.states.pairs.PairSpan.PairSpan}
pub use Rattle.verify80_states.specs.{declared.states.known.Known.Known, declared.states.following.StackTop.StackTop}
pub use Rattle.verify80_states.specs.{declared.states.state.State.State, declared.states.variables.Variable.Variable}
pub use Rattle.verify80_states.specs.{declared.states.words.Words.Words}
pub use Rattle.verify80_states.specs.Following.{added_carry, address_after, known_after, summand, top_word, after_operation, called, code_or, counted}
pub use Rattle.verify80_states.specs.Following.{exchanged, index_words, is_accumulator, is_steady, known_pair, loaded, loaded_at, moved, only_address}
pub use Rattle.verify80_states.specs.Following.{operand_bytes, pushed_pair, registers_after, resulted, returned, source_after, state_after}
pub use Rattle.verify80_states.specs.Following.{stored_bytes, tested, turned, words_after}
pub use Rattle.verify80_states.specs.Given.{carry_bytes, cut_to, given, given_carry, given_flag, given_sign, given_zero, zero_bytes}
pub use Rattle.verify80_states.specs.Known.{Compares, HoldsKnown, HoldsPair, HoldsRegisters, HoldsSource, HoldsTop, IsCopyInside, IsKnownInside}
pub use Rattle.verify80_states.specs.Known.{IsPairInside, IsQuietKnown, IsQuietSource, IsSameIfKnown, any_pair, byte_of, compared_with, copy_outside}
pub use Rattle.verify80_states.specs.Known.{copy_without, cut, cut_copy, cut_high, cut_low, next_pair, nothing_known, pair_of_halves, pair_of_words}
pub use Rattle.verify80_states.specs.Known.{previous_pair, span_of, sum_pair, with_any_flags, with_byte, with_carry, with_outcome, with_span}
pub use Rattle.verify80_states.specs.State.{AreWordsInside, Holds, HoldsWord, HoldsWords, IsOnStack, IsQuietState, IsStateInside, IsWordInside}
pub use Rattle.verify80_states.specs.State.{anything, cut_state, given_state, no_words, popped, pushed, unknown_but, with_known}
