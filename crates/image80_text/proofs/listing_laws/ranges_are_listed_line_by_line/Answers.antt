use Rattle.std.proofs.Common.{arith}
use Rattle.image80_text.proofs.ListingLemmas.{lines_from-are_lines}
use Rattle.image80_text.proofs.listing_laws.ranges_are_listed_line_by_line.Goals as goal

pub returns : goal.returns
returns c = λ memory range below. lines_from-are_lines (λ i. (c.spelling_laws.ensures.sizes i).0) memory range.length range.first range.length below (omega arith)
