use Rattle.rom80_find.proofs.TargetLemmas.{words_listed}
use Rattle.rom80_find.proofs.found.laws.pattern_words_may_be_listed.Goals as goal

pub returns : goal.returns
returns c = λ dump m address count words sound are targets. words_listed dump m address count
    (c.sound_modules_keep_rules.ensures m sound) words are targets
