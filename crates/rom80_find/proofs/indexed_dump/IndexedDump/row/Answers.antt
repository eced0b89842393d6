use Rattle.std.proofs.Common.{ℕ, List, sym, subst}
use Rattle.rom80_find.specs.Dump.{DumpValue, dump_of}
use Rattle.rom80_find.specs.Marks.{AreMarks, IsRow}
use Rattle.rom80_find.proofs.indexed_dump.IndexedDump.row.Goals as goal

pub returns : goal.returns
returns c =
    let dump = dump_of c.self.inside.dump in
    subst (λ (d : DumpValue). IsRow d c.args.row c.row_of_marks.result.now) c.self.view_is
    (c.row_of_marks.ensures dump (subst (λ (l : List ℕ). AreMarks dump 131072 l) (sym c.deref.ensures.value) c.self.invariant.marks))
