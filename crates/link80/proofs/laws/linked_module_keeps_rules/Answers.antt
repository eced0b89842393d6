use Rattle.link80.proofs.RuleLemmas.{linked_keeps_rules}
use Rattle.link80.proofs.WordLemmas.{lengths_are_words}
use Rattle.link80.proofs.laws.linked_module_keeps_rules.Goals as goal

pub returns-clause-rules : goal.returns-clause-rules
returns-clause-rules c = linked_keeps_rules c.sound_modules_keep_rules.ensures c.commons_are_found_by_name.ensures

pub returns-clause-words : goal.returns-clause-words
returns-clause-words c = lengths_are_words
