use Rattle.plm80_programs.proofs.explain.overrun.Goals as goal

pub returns : goal.returns
returns c = record {
  rows = c.in-Ok.report.procedures.items;
  bytes = c.in-Ok.report.stack_bytes;
  measured = c.in-Ok.ensures.measured;
  goes_on = simp (c.publics.ensures, c.in_ok-text.ensures, c.deref.ensures.value) at c.in_ok-append_chain.ensures;
}
