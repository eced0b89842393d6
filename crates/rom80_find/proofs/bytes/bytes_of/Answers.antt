use Rattle.rom80_find.specs.Dump.{dump_of}
use Rattle.rom80_find.proofs.TableLemmas.{bytes_more}
use Rattle.rom80_find.proofs.bytes.bytes_of.Goals as goal

pub loop-at-preserved : goal.loop-at-preserved
loop-at-preserved c =
    bytes_more (dump_of c.args.dump) c.loop-at.at c.loop-at.bytes.items c.push.new.self.items c.byte_or_zero-byte.result c.byte_or_zero-byte.ensures
    c.in_ok-push.ensures.items c.loop-at.invariant
