use Rattle.loader80.proofs.SendsLemmas.{answers_of, sends_of, prefix_of}
use Rattle.loader80.proofs.laws.what_is_said_is_sent.Goals as goal

pub returns-clause-whole : goal.returns-clause-whole
returns-clause-whole c = λ limit steps t answer text old new within says appended.
    sends_of limit steps t answer text old new says (answers_of limit steps t answer text within says) appended

pub returns-clause-prefix : goal.returns-clause-prefix
returns-clause-prefix c = λ limit steps t answer text count old new within says part appended. prefix_of limit steps t answer text count old new within says part appended
