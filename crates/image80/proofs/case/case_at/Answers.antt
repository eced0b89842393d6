use Rattle.std.proofs.Common.{Some, ap, sym, ◌∙◌, rules}
use Rattle.std.proofs.lemmas.List.Sorted.{answers_always}
use Rattle.image80.proofs.CaseLemmas.{searched}
use Rattle.image80.proofs.case.case_at.Goals as goal

pub returns-in-Ok-clause-found : goal.returns-in-Ok-clause-found
returns-in-Ok-clause-found c =
    let facts = c.binary_search_by_key.ensures in
    let answered = searched c.args.cases.now c.requires c.args.address _ facts.bound (facts.position (λ case. case.at) (answers_always _ _ _ (λ f a r g called. search rules))) in
    let found = rw c.in-Ok.is at answered.found in
    found c.index-cases-place.result ∙ ap (λ case. Some case) (sym c.index-cases-place.is)

pub returns-in-Err-clause-none : goal.returns-in-Err-clause-none
returns-in-Err-clause-none c =
    let facts = c.binary_search_by_key.ensures in
    let answered = searched c.args.cases.now c.requires c.args.address _ facts.bound (facts.position (λ case. case.at) (answers_always _ _ _ (λ f a r g called. search rules))) in
    rw c.in-Err.is at answered.absent
