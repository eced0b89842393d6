-- the lines so far
use Rattle.plm80_regions.proofs.Names.{◌≡◌}
use Rattle.plm80_regions.proofs.CaseLemmas.{Shown}
use Rattle.plm80_regions.proofs.cases.write_searched.Given as goal

abbrev pub invariant-loop-address : goal.invariant-loop-address
invariant-loop-address g l = record {
  unfailed : g.K.Sink.failed l.out ≡ g.K.Sink.failed l.fn.out;
  shown : Shown l.image l.search.reached l.search.taken l.address l.notes.items (g.K.Sink.written l.fn.out) (g.K.Sink.written l.out);
}
