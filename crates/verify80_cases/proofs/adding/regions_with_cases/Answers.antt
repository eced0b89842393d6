use Rattle.std.proofs.Common.{◌++◌, Bor, List, ap, subst, ◌∙◌}
use Rattle.std.specs.Prelude.{IsPermutation, map}
use Rattle.image80.specs.Case.{DeclaredCase}
use Rattle.image80.specs.RegionsText.{cases_text}
use Rattle.verify80_cases.proofs.AddedLemmas.{adds_cases}
use Rattle.verify80_cases.proofs.adding.regions_with_cases.Goals as goal

abbrev cases_of : List (Bor DeclaredCase) → List DeclaredCase
cases_of cases = map (λ case. case.now) cases

pub returns : goal.returns
returns c =
    let areas = c.args.regions.now in
    let new = c.args.cases.now in
    let joined = cases_of c.in_ok-joined.joined.items in
    adds_cases areas new joined c.cases.ensures.rules c.requires.by_address c.requires.each c.requires.new
    (subst (λ (cases : List DeclaredCase). IsPermutation (cases ++ new) joined) c.cases.ensures.cases c.in_ok-joined.ensures.same) c.in_ok-joined.ensures.sorted
    c.in_ok-text.text.items c.add_lines.new.text.items c.text_of_regions_is_read_as_itself.ensures.written2 c.in_ok-text.ensures
    (c.in_ok-add_lines.ensures ∙ ap (λ (cases : List (Bor DeclaredCase)). c.in_ok-text.text.items ++ cases_text (cases_of cases)) c.deref.ensures.value)
