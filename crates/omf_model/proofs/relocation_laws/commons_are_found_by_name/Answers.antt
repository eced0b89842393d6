use Rattle.std.specs.Prelude.{[]}
use Rattle.omf_model.proofs.CommonLemmas.{common_word}
use Rattle.omf_model.proofs.relocation_laws.commons_are_found_by_name.Goals as goal

pub returns : goal.returns
returns c = λ commons base id new named. common_word base [] commons id new named
