use Rattle.rom80_find.proofs.ModuleLieLemmas.{lies_as_module}
use Rattle.rom80_find.proofs.found.laws.patterns_lie_as_modules.Goals as goal

pub returns : goal.returns
returns c = λ dump m address sound short lt. lies_as_module dump m address (c.sound_modules_keep_rules.ensures m sound) c.commons_are_found_by_name.ensures c.parts_of_one_start_at_zero.ensures short lt
