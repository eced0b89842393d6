use Rattle.std.proofs.{Common.sym, Common.refl, Common.below_more, lemmas.Option.slice_get_read}
use Rattle.plm80_console.proofs.SharedLemmas.{all_apart, apart_there}
use Rattle.plm80_console.proofs.syntax.Syntax.path_shared_by.Goals as goal
use Rattle.plm80_console.proofs.syntax.Syntax.path_shared_by.Goals.{else-other-index-via-then-other-index+else-shares, else-other-index-via-else-other-index}

pub loop-other-preserved : goal.loop-other-preserved
loop-other-preserved g c = λ letters.
    below_more _ c.loop-other.other (c.loop-other.invariant letters)
    (elim c.else-other-index.branch [
      | else-other-index-via-then-other-index+else-shares w ↦ λ other stands differs.
          apart_there c.args.matches.now c.in_ok-written.field-0.now c.in_ok-path.path.now c.args.self.now.arguments.now c.loop-other.other _
          other stands (w.shares.ensures.apart letters w.if-shares.false)
      | else-other-index-via-else-other-index w ↦ λ other stands differs. absurd (differs w.if-other-index.false)
    ])

pub returns-clause-apart : goal.returns-clause-apart
returns-clause-apart g c = λ letters.
    all_apart c.args.matches.now c.args.self.now.arguments.now c.args.index c.in_ok-written.field-0.now c.in_ok-path.path.now
    c.loop-other.other
    (slice_get_read c.args.self.now.arguments.now _ c.args.index c.in_ok-written.field-0.now refl c.in_ok-written.ensures.lookup.3.0
    c.in_ok-written.ensures.lookup.1)
    (sym c.in_ok-path.ensures) c.loop-other-test.false (c.loop-other.invariant letters)
