use Rattle.plm80_regions.proofs.CaseLemmas.{finds_cases, found_nothing, lines_more, long_cases, one_more}
use Rattle.plm80_regions.proofs.Names.{[], ◌≡◌, ◌∙◌, ap, arith, cases_text, cons_option, rules, sym}
use Rattle.plm80_regions.proofs.cases.keep_searched.Goals as goal

pub loop-address-init : goal.loop-address-init
loop-address-init c = record {
  found = found_nothing c.args.image.now c.args.search.now.reached c.args.search.now.taken c.new.result.items c.new-3.result.items
      c.new.ensures.items c.new-3.ensures.items;
  lines_are = c.new-2.ensures.items ∙ sym (ap cases_text c.new.ensures.items);
}

pub loop-address-preserved : goal.loop-address-preserved
loop-address-preserved c =
    let kept = c.loop-address.kept in
    let found = c.in_ok-found.found in
    record {
      found = one_more c.args.image.now c.args.search.now.reached c.args.search.now.taken c.loop-address.address kept.cases.items kept.notes.items
          c.loop-address.invariant.found found c.add.new.self.cases.items c.add.new.self.notes.items c.in_ok-found.ensures
          c.in_ok-add.ensures.cases c.in_ok-add.ensures.notes;
      lines_are = lines_more kept.cases.items (cons_option found.case []) c.add.new.self.cases.items kept.lines.items
          c.add.new.self.lines.items c.loop-address.invariant.lines_are c.in_ok-add.ensures.lines c.in_ok-add.ensures.cases;
    }

pub returns-clause-found : goal.returns-clause-found
returns-clause-found c = λ entries searched.
    let all : c.loop-address.address ≡ 65536 = omega (arith, c.loop-address-test.false, c.loop-address.auto.address-end) in
    finds_cases c.args.image.now entries c.args.search.now.reached c.args.search.now.taken c.loop-address.address c.loop-address.kept.cases.items
    c.loop-address.kept.notes.items searched all c.loop-address.invariant.found

pub returns-clause-lines : goal.returns-clause-lines
returns-clause-lines c = c.loop-address.invariant.lines_are

pub returns-in_err-add-clause-too_long : goal.returns-in_err-add-clause-too_long
returns-in_err-add-clause-too_long c = λ entries searched is.
    let kept = c.loop-address.kept in
    long_cases c.args.image.now entries c.args.search.now.reached c.args.search.now.taken c.loop-address.address kept.cases.items kept.notes.items
    kept.lines.items c.loop-address.invariant.found c.loop-address.invariant.lines_are searched c.in_ok-found.found
    c.in_ok-found.ensures (c.in_err-add.ensures.too_long (search rules))
