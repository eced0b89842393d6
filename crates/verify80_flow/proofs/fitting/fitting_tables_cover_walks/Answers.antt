use Rattle.verify80_flow.proofs.FitLemmas.{covers_walks, fits_close, wants_above, no_look_fault, no_move_fault, no_differ, no_uneven, no_short}
use Rattle.verify80_flow.proofs.fitting.fitting_tables_cover_walks.Goals as goal

pub returns-clause-covers : goal.returns-clause-covers
returns-clause-covers c = λ code table fits. covers_walks c.frame_laws.ensures code table (fits_close code table fits)

pub returns-clause-wants : goal.returns-clause-wants
returns-clause-wants c = wants_above c.frame_laws.ensures

pub returns-clause-no_fault : goal.returns-clause-no_fault
returns-clause-no_fault c = λ code table fits. record {
  look = no_look_fault c.frame_laws.ensures code table fits;
  move = no_move_fault c.frame_laws.ensures code table fits;
  differ = no_differ c.frame_laws.ensures code table fits;
  uneven = no_uneven c.frame_laws.ensures code table fits;
  short = no_short c.frame_laws.ensures code table fits;
}
