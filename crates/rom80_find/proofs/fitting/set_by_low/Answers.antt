use Rattle.std.proofs.Common.{◌+◌, ◌%◌, ◌∙◌, ap, arith, slice_index_or}
use Rattle.rom80_find.specs.Blocks.{high_sum, less}
use Rattle.rom80_find.specs.Fixups.{first_number}
use Rattle.rom80_find.proofs.FitLemmas.{both_best, found_is, free_known, low_best, one_there}
use Rattle.rom80_find.proofs.fitting.set_by_low.Goals as goal

pub returns-in-Some : goal.returns-in-Some
returns-in-Some c = λ k lt there.
    let dump = c.args.dump.now in
    let bytes = c.args.bytes.now in
    let address = c.args.first + k in
    let low = c.args.low in
    let high = c.in-Some.high in
    both_best dump address (first_number bytes) bytes low high (slice_index_or c.set_lows.new.lows k 0) (slice_index_or c.set_highs.new.highs k 0) there
    c.requires.has c.requires.low c.in-Some.ensures.some c.in-Some.ensures.half
    (c.set_lows.ensures k lt
    ∙ ap (λ n. less n (low.addend % 256)) (found_is dump c.args.first k c.found_at.result.now low c.found_at.ensures lt (one_there dump address bytes low there c.requires.has)))
    (c.set_highs.ensures k lt
    ∙ ap (λ n. less n (high_sum 0 (slice_index_or c.set_lows.new.lows k 0) high.addend))
    (found_is dump c.args.first k c.found_at-in-Some.result.now high c.found_at-in-Some.ensures lt (one_there dump address bytes high there c.in-Some.ensures.some)))
    (λ n. free_known address (first_number bytes) n c.requires.free)

pub returns-in-None : goal.returns-in-None
returns-in-None c = λ k lt there.
    let dump = c.args.dump.now in
    let bytes = c.args.bytes.now in
    let address = c.args.first + k in
    let low = c.args.low in
    low_best dump address (first_number bytes) bytes low (slice_index_or c.set_lows.new.lows k 0) (slice_index_or c.clear.new.bytes k 0) there
    c.requires.has c.requires.low c.in-None.ensures.none (omega (arith, c.clear.ensures k lt))
    (c.set_lows.ensures k lt
    ∙ ap (λ n. less n (low.addend % 256)) (found_is dump c.args.first k c.found_at.result.now low c.found_at.ensures lt (one_there dump address bytes low there c.requires.has)))
    (λ n. free_known address (first_number bytes) n c.requires.free)
