use Rattle.frames80.proofs.NumberLemmas.{none_kept}
use Rattle.frames80.proofs.point_numbers.PointNumbers.new.Goals as goal

pub returns : goal.returns
returns c = none_kept (record { first = c.in_ok-table.field-0; further = c.new.result }) c.in_ok-table.ensures.values c.new.ensures.empty
