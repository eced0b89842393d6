use Rattle.frames80.proofs.NumberLemmas.{number_below}
use Rattle.frames80.proofs.point_numbers.numbers_are_of_addresses.Goals as goal

pub returns : goal.returns
returns c = number_below
