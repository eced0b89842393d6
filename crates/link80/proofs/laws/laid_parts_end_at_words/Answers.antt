use Rattle.link80.proofs.SegmentLemmas.{ends_later}
use Rattle.link80.proofs.WordLemmas.{laid_parts_end_at_words}
use Rattle.link80.proofs.laws.laid_parts_end_at_words.Goals as goal

pub returns-clause-words : goal.returns-clause-words
returns-clause-words c = laid_parts_end_at_words

pub returns-clause-later : goal.returns-clause-later
returns-clause-later c = ends_later
