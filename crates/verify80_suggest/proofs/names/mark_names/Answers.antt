use Rattle.std.proofs.Common.{rules, ◌≡◌, ◌∙◌, false, get_or, subst, sym, true}
use Rattle.verify80_cases.specs.Reach.{given}
use Rattle.verify80_suggest.specs.Names.{Marks, first_name, second_name}
use Rattle.verify80_suggest.proofs.NameLemmas.{marks_both, names_found}
use Rattle.verify80_suggest.proofs.names.mark_names.Goals as goal

pub returns : goal.returns
returns c =
    let instr = c.in-Ok.found.instr in
    let old = c.args.named.now.items in
    let mid = c.mark_given.new.named.items in
    let new = c.mark_given-2.new.named.items in
    let is : get_or c.args.reached.now c.args.at false ≡ true = search rules in
    let one : Marks old (given (first_name instr)) mid = subst (λ n. Marks old (given n) mid) c.first_name.ensures c.mark_given.ensures in
    let two : Marks mid (given (second_name instr)) new = subst (λ n. Marks mid (given n) new) c.second_name.ensures c.mark_given-2.ensures in
    subst (λ names. Marks old names new) (sym (names_found c.args.code.now c.args.reached.now c.args.at c.in-Ok.found is (sym c.fetch.ensures ∙ c.in-Ok.is)))
    (marks_both old mid new (given (first_name instr)) (given (second_name instr)) one two)
