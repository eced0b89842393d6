use Rattle.std.proofs.Common.{rules, subst}
use Rattle.verify80_cases.specs.Suggested.{IsNote}
use Rattle.verify80_cases.proofs.NoteLemmas.{note_of_case, note_of_other}
use Rattle.verify80_cases.proofs.SuggestedLemmas.{one_found, one_other}
use Rattle.verify80_cases.proofs.suggesting.Suggestions.add.Goals as goal

pub returns-in_ok-push-in-Some-clause-cases : goal.returns-in_ok-push-in-Some-clause-cases
returns-in_ok-push-in-Some-clause-cases c =
    rw c.in_ok-push-in-Some.ensures.items
    (one_found c.args.image.now c.args.search.now.reached c.args.search.now.taken c.args.at c.args.self.now.cases.items c.args.self.now.tableless.items c.requires.before c.in-Some.found (search rules) (search rules) (search rules))

pub returns-in_ok-push-in-Some-clause-notes : goal.returns-in_ok-push-in-Some-clause-notes
returns-in_ok-push-in-Some-clause-notes c =
    rw c.in_ok-push-in-Some.ensures.items
    (rw c.in_ok-push_given.ensures
    (note_of_case c.args.image.now c.args.search.now.reached c.args.search.now.taken c.args.at c.args.self.now.cases.items c.args.self.now.tableless.items c.args.self.now.notes.items c.requires.notes
    c.in-Some.found c.note.result (search rules) (search rules) (subst (λ o. IsNote c.args.at o c.note.result) c.in-Some.is c.note.ensures)))

pub returns-in_ok-push-in-None-clause-cases : goal.returns-in_ok-push-in-None-clause-cases
returns-in_ok-push-in-None-clause-cases c =
    rw c.in_ok-push-in-None.ensures.items
    (one_other c.args.image.now c.args.search.now.reached c.args.search.now.taken c.args.at c.args.self.now.cases.items c.args.self.now.tableless.items c.requires.before (search rules))

pub returns-in_ok-push-in-None-clause-notes : goal.returns-in_ok-push-in-None-clause-notes
returns-in_ok-push-in-None-clause-notes c =
    rw c.in_ok-push-in-None.ensures.items
    (rw c.in_ok-push_given.ensures
    (note_of_other c.args.image.now c.args.search.now.reached c.args.search.now.taken c.args.at c.args.self.now.cases.items c.args.self.now.tableless.items c.args.self.now.notes.items c.requires.notes
    c.note.result (subst (λ o. IsNote c.args.at o c.note.result) c.in-None.is c.note.ensures)))
