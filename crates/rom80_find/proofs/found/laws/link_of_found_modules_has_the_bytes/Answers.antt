use Rattle.rom80_find.proofs.LinkLemmas.{link_has}
use Rattle.rom80_find.proofs.found.laws.link_of_found_modules_has_the_bytes.Goals as goal

pub returns : goal.returns
returns c = link_has c.sound_modules_keep_rules.ensures
