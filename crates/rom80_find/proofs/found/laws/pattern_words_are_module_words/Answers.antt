use Rattle.rom80_find.proofs.OnlyWordLemmas.{module_words}
use Rattle.rom80_find.proofs.found.laws.pattern_words_are_module_words.Goals as goal

pub returns : goal.returns
returns c = λ dump m address count words sound short some lt below are. module_words dump m address count words
    (c.sound_modules_keep_rules.ensures m sound) c.commons_are_found_by_name.ensures c.parts_of_one_start_at_zero.ensures short some lt below are
