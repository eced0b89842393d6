use Rattle.std.proofs.Common.{◌≡◌, ◌∙◌, ap, sym}
use Rattle.image80.specs.Reading.{is_seen}
use Rattle.image80.proofs.ReadingLemmas.{entry_same}
use Rattle.image80.proofs.read.next_entry.Goals as goal

pub returns-then-has-clause-none : goal.returns-then-has-clause-none
returns-then-has-clause-none c = λ other proper is.
    let spelled = rw c.in-Some.is at c.in_ok-entry.ensures.spelled in
    let own_proper = rw c.in-Some.is at c.in_ok-entry.ensures.proper in
    let same : other ≡ c.in-Some.entry = entry_same c.args.version c.args.version other c.in-Some.entry proper own_proper (sym is ∙ spelled) in
    ap (is_seen c.args.seen.now) same ∙ sym c.has.ensures ∙ c.if-has.true
