use Rattle.std.proofs.Common.{◌+◌, ◌==◌, slice_index_or}
use Rattle.rom80_find.proofs.FitLemmas.{found_is, high_compared, low_compared}
use Rattle.rom80_find.proofs.fitting.compare.Goals as goal

pub returns-in-Low : goal.returns-in-Low
returns-in-Low c = λ k lt there.
    let dump = c.args.dump.now in
    let found = c.found_at-found.result.now in
    low_compared dump (c.args.first + k) c.args.byte (slice_index_or c.args.highs.now k 0) (slice_index_or c.args.lows.now k 0) (slice_index_or found k 0)
    (slice_index_or c.args.wrong.now k 0 == 0) (slice_index_or c.compare_lows.new.wrong k 0 == 0) there
    (found_is dump c.args.first k found c.args.byte c.found_at-found.ensures lt there) c.in-Low.is (c.compare_lows.ensures k lt)

pub returns-in-High : goal.returns-in-High
returns-in-High c = λ k lt there.
    let dump = c.args.dump.now in
    let found = c.found_at-found.result.now in
    high_compared dump (c.args.first + k) c.args.byte (slice_index_or c.args.highs.now k 0) (slice_index_or c.args.lows.now k 0) (slice_index_or found k 0)
    (slice_index_or c.args.wrong.now k 0 == 0) (slice_index_or c.compare_highs.new.wrong k 0 == 0) there
    (found_is dump c.args.first k found c.args.byte c.found_at-found.ensures lt there) c.in-High.is (c.compare_highs.ensures k lt)
