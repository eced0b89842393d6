use Rattle.std.proofs.Common.{◌∙◌, length-set}
use Rattle.std.specs.Prelude.{bit_and, slice_index_or}
use Rattle.rom80_find.proofs.SieveLemmas.{done_more, none_more, rest_more}
use Rattle.rom80_find.proofs.sieve.keep_in_row.Goals as goal

pub loop-word-preserved : goal.loop-word-preserved
loop-word-preserved c =
    let now = c.loop-word.invariant in
    let w = c.loop-word.word in
    let alive = c.loop-word.alive in
    let bits = c.bits_from.result in
    record {
      whole = length-set alive w (bit_and (slice_index_or alive w 0) bits) ∙ now.whole;
      done = done_more c.args.alive.now c.args.row.now alive c.args.offset w bits c.loop-word-test.true now.whole c.bits_from.ensures now.rest now.done;
      rest = rest_more c.args.alive.now c.args.row.now alive c.args.offset w bits c.loop-word-test.true now.whole c.bits_from.ensures now.rest;
      none = none_more c.args.alive.now c.args.row.now alive c.args.offset w bits c.loop-word-test.true now.whole c.bits_from.ensures now.rest c.loop-word.any now.none;
    }
