use Rattle.std.proofs.Common.{◌≡◌, ◌+◌, ◌%◌, ◌==◌, ◌&&◌, ◌∙◌, ap, arith, take, take_all, List, slice_index_or}
use Rattle.rom80_pattern.specs.declared.code_byte.CodeByte.{CodeByte}
use Rattle.rom80_find.specs.Blocks.{word_at}
use Rattle.rom80_find.specs.Fixups.{all_fit, first_number}
use Rattle.rom80_find.specs.Marks.{has_row}
use Rattle.rom80_find.specs.Places.{fits}
use Rattle.rom80_find.proofs.FitLemmas.{each_true}
use Rattle.rom80_find.proofs.GroupLemmas.{best_narrowed}
use Rattle.rom80_find.proofs.SieveLemmas.{sieved_more}
use Rattle.rom80_find.proofs.SolveLemmas.{some_byte}
use Rattle.rom80_find.proofs.fitting.fit_value.Goals as goal

pub loop-byte-preserved : goal.loop-byte-preserved
loop-byte-preserved c = λ k lt there.
    let dump = c.args.dump.now in
    let bytes = c.args.bytes.now in
    let i = c.loop-byte.byte-index in
    sieved_more (λ b. fits dump (c.args.first + k) b (word_at c.set_value.new.lows c.set_value.new.highs k)) bytes i some_byte
    (slice_index_or c.args.wrong.now k 0 == 0) (slice_index_or c.loop-byte.wrong k 0 == 0) (slice_index_or c.compare.new.wrong k 0 == 0) c.loop-byte-test.true
    (c.loop-byte.invariant k lt there)
    (c.compare.ensures k lt (each_true (λ b. has_row dump 256 ((c.args.first + k + b.offset) % 65536)) bytes i some_byte there c.loop-byte-test.true))

pub returns : goal.returns
returns c = λ k lt there.
    let dump = c.args.dump.now in
    let bytes = c.args.bytes.now in
    let value = word_at c.set_value.new.lows c.set_value.new.highs k in
    let all : take c.loop-byte.byte-index bytes ≡ bytes = take_all c.loop-byte.byte-index bytes (omega (arith, c.loop-byte-test.false)) in
    best_narrowed dump (c.args.first + k) (first_number bytes) value (slice_index_or c.args.wrong.now k 0) (slice_index_or c.loop-byte.wrong k 0) bytes
    (c.set_value.ensures k lt there)
    (c.loop-byte.invariant k lt there ∙ ap (λ (bs : List CodeByte). slice_index_or c.args.wrong.now k 0 == 0 && all_fit dump (c.args.first + k) bs value) all)
