-- the cases so far, and their lines
use Rattle.plm80_regions.proofs.Names.{◌≡◌, cases_text, AreFoundBelow}
use Rattle.plm80_regions.proofs.cases.keep_searched.Given as goal

abbrev pub invariant-loop-address : goal.invariant-loop-address
invariant-loop-address l = record {
  found : AreFoundBelow l.image l.search.reached l.search.taken l.address l.kept.cases.items l.kept.notes.items;
  lines_are : l.kept.lines.items ≡ cases_text l.kept.cases.items;
}
