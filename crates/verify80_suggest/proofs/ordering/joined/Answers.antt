use Rattle.std.proofs.Common.{List, ap, subst, sym, ◌++◌, ◌≡◌, ◌∙◌}
use Rattle.image80.specs.Case.{DeclaredCase}
use Rattle.verify80_suggest.proofs.OrderLemmas.{AreApart, apart_moved}
use Rattle.verify80_suggest.proofs.ordering.joined.Goals as goal

pub unreachable-requires : goal.unreachable-requires
unreachable-requires c =
    let given = c.args.given.now in
    let found = c.args.found.now in
    let cases = c.add_copies-2.new.all.items in
    let copied : cases ≡ given ++ found =
    c.in_ok-add_copies-2.ensures
    ∙ ap (λ (all : List DeclaredCase). all ++ found) (c.in_ok-add_copies.ensures ∙ ap (λ (all : List DeclaredCase). all ++ given) c.new-cases.ensures.items) in
    c.in-Some.ensures.twice (apart_moved cases c.sort_cases.new.cases.items c.sort_cases.ensures.permutation (subst AreApart (sym copied) c.requires))
