use Rattle.std.proofs.Common.{ℕ, List, ap, sym, subst, ◌∙◌, length}
use Rattle.rom80_find.specs.Dump.{DumpValue, dump_of}
use Rattle.rom80_find.specs.Blocks.{AreBytes, AreFound}
use Rattle.rom80_find.proofs.indexed_dump.IndexedDump.block_from.Goals as goal

pub block_from-requires-clause-whole : goal.block_from-requires-clause-whole
block_from-requires-clause-whole c = ap (λ (l : List ℕ). length l) c.deref.ensures.value ∙ c.self.invariant.bytes.whole

pub returns : goal.returns
returns c =
    let dump = dump_of c.self.inside.dump in
    subst (λ (d : DumpValue). AreFound d c.args.first c.block_from.result.now) c.self.view_is
    (c.block_from.ensures dump (subst (λ (l : List ℕ). AreBytes dump 131072 l) (sym c.deref.ensures.value) c.self.invariant.bytes))
