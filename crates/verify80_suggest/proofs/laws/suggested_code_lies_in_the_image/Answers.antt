use Rattle.verify80_suggest.proofs.LawLemmas.{code_inside}
use Rattle.verify80_suggest.proofs.laws.suggested_code_lies_in_the_image.Goals as goal

pub returns : goal.returns
returns c = code_inside
