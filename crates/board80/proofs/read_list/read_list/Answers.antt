use Rattle.std.proofs.Common.{◌==◌, ◌∙◌, ap, length, sym}
use Rattle.board80.proofs.ReadLemmas.{no_list_empty, no_list_start, no_list_tail}
use Rattle.board80.proofs.read_list.read_list.Goals as goal

pub returns-then-is_empty-clause-none : goal.returns-then-is_empty-clause-none
returns-then-is_empty-clause-none c = no_list_empty c.args.text.now (sym c.is_empty.ensures ∙ c.if-is_empty.true)

pub returns-then-text-ne32-clause-none : goal.returns-then-text-ne32-clause-none
returns-then-text-ne32-clause-none c = no_list_start c.args.text.now c.if-text-ne32.true

pub returns-in-None-clause-none : goal.returns-in-None-clause-none
returns-in-None-clause-none c =
    no_list_tail c.args.text.now c.in_ok-items.rest.now c.in_ok-items.items.items c.in_ok-items.ensures.found c.in_ok-items.ensures.proper c.in_ok-items.ensures.ended c.in_ok-items.ensures.at_end
    (λ empty. let e = ap (λ r. length r == 0) empty in cc) (rw c.in-None.is at c.in_ok-bytes.ensures.none)
