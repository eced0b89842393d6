use Rattle.std.specs.Prelude.{◌≡◌, Result, Ok, Err, IfErr}
use Rattle.plm80_console.specs.{Answer.AnswerValue, Answer.GaveUp, Answer.IsGivenUp, Answer.IsGivenUp.within, Journal.Journal}
use Rattle.plm80_console.proofs.console.Console.give_if_made.Goals as goal

-- an answer that was made is given up
given_up : {A E F : Type 0} (made : Result AnswerValue F) (answer : AnswerValue) (old new : Journal) (r : Result A E) → made ≡ Ok answer
    → IfErr r (λ _. GaveUp answer old new) → IfErr r (λ _. IsGivenUp (λ a. made ≡ Ok a) old new)
given_up made answer old new (Ok x) is gave = tt
given_up made answer old new (Err e) is gave = within answer is gave

pub returns-in-Ok-clause-fault : goal.returns-in-Ok-clause-fault
returns-in-Ok-clause-fault g c =
    given_up c.args.answer c.in-Ok.answer (g.Self.Console.journal c.args.self.now) (g.Self.Console.journal c.give.new.self) c.give.result
    c.in-Ok.is c.give.ensures.fault
