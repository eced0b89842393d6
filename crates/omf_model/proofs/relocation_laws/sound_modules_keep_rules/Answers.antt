use Rattle.omf_model.proofs.SoundLemmas.{rules_of}
use Rattle.omf_model.proofs.relocation_laws.sound_modules_keep_rules.Goals as goal

pub returns : goal.returns
returns c = rules_of
