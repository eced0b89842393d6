use Rattle.place80.proofs.LaidOut.{layout_is_laid_out, laid_out_in_one_way}
use Rattle.place80.proofs.laws.segments_are_laid_out_in_one_way.Goals as goal

pub returns-clause-laid_out : goal.returns-clause-laid_out
returns-clause-laid_out c = layout_is_laid_out

pub returns-clause-one_way : goal.returns-clause-one_way
returns-clause-one_way c = laid_out_in_one_way
