use Rattle.std.proofs.Common.{subst, List, ℕ}
use Rattle.verify80_flow.specs.Survey.{IsBounded, AreListed}
use Rattle.verify80_flow.proofs.AcceptLemmas.{IsAnalyzed, measured}
use Rattle.verify80_flow.proofs.ProgramPointLemmas.{are_points}
use Rattle.verify80_flow.proofs.analysis.report_on.Goals as goal

pub returns-clause-found : goal.returns-clause-found
returns-clause-found g c =
    let code = g.C.Code.code c.args.program.now in
    let known = c.args.table.now.known in
    let wants = c.in_ok-wants.wants.items in
    let bytes = c.in_ok-bounds.bounds in
    let analyzed : IsAnalyzed code known wants bytes =
    record {
      filled = c.requires;
      wanted = c.in_ok-wants.ensures.wants;
      bounded = subst (λ (w : List ℕ). IsBounded code known w bytes) c.deref.ensures.value c.in_ok-bounds.ensures.bounded;
    } in
    let listed = subst (λ (w : List ℕ). AreListed known w bytes 65536 c.in_ok-list_rows.field-0.items) c.deref-2.ensures.value c.in_ok-list_rows.ensures in
    record {
      measured = rw c.get.ensures (measured c.frame_laws.ensures code known wants bytes analyzed c.in_ok-list_rows.field-0.items listed);
      points = are_points c.frame_laws.ensures code known c.requires analyzed.bounded.addresses c.in_ok-list_points.field-0.items c.in_ok-list_points.ensures;
    }
