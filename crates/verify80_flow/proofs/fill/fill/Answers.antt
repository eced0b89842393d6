use Rattle.std.proofs.Common.{sym, subst, refl, Bool, true≢false}
use Rattle.std.proofs.lemmas.Result.{err_from_is_err_and}
use Rattle.verify80_flow.specs.Known.{Stands, is_exact}
use Rattle.verify80_flow.proofs.ManyVisits.{nothing_stands, nothing_small, same_mode}
use Rattle.verify80_flow.proofs.fill.fill.Goals as goal

pub loop-changes-init : goal.loop-changes-init
loop-changes-init g c =
    let known = c.args.table.now.known in
    record {
      small = nothing_small known known.forgets c.requires;
      stands = nothing_stands (is_exact known.forgets) (g.C.Code.code c.args.program.now) known known.forgets c.requires refl;
      closed = λ e. absurd (true≢false e);
    }

pub sweep-requires : goal.sweep-requires
sweep-requires g c = c.loop-changes.invariant.small

pub returns-in_err-changes-clause-refused : goal.returns-in_err-changes-clause-refused
returns-in_err-changes-clause-refused g c =
    let p = err_from_is_err_and c.from_residual.result c.from_residual.ensures.1 in
    rw (p.1, p.2) (c.in_err-changes.ensures.sweeps.stands (is_exact c.args.table.now.known.forgets) c.loop-changes.invariant.stands)

pub loop-changes-preserved : goal.loop-changes-preserved
loop-changes-preserved g c = record {
  small = c.in_ok-changes.ensures.sweeps.small;
  stands = c.in_ok-changes.ensures.sweeps.stands (is_exact c.args.table.now.known.forgets) c.loop-changes.invariant.stands;
  closed = c.in_ok-changes.ensures.closed;
}

pub returns-clause-filled : goal.returns-clause-filled
returns-clause-filled g c =
    let i = c.loop-changes.invariant in
    let code = g.C.Code.code c.args.program.now in
    λ _. record {
      small = i.small;
      stands = subst (λ (e : Bool). Stands e code c.loop-changes.table.known) i.stands.mode i.stands;
      closed = i.closed c.loop-changes-test.false;
    }

pub returns-clause-same : goal.returns-clause-same
returns-clause-same g c = same_mode c.loop-changes.table.known.forgets c.args.table.now.known.forgets (sym c.loop-changes.invariant.stands.mode)
