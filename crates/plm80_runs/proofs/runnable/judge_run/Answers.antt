use Rattle.plm80_runs.proofs.Names.{IfSome, Located, Option, subst}
use Rattle.verify80_follow.specs.declared.fit.Table.{Table}
use Rattle.plm80_runs.specs.OnBoards.{FitsTable, KeepsTable, RunsKeepPromise}
use Rattle.plm80_runs.specs.declared.runnable.Runnable.TheVariants.{Followed}
use Rattle.plm80_runs.proofs.runnable.judge_run.Goals as goal

pub returns-in-Ok : goal.returns-in-Ok
returns-in-Ok c = record {
  ground = record { image_is = c.in-Ok.ensures.image; vouched = c.in-Ok.ensures.vouched };
  promise = c.vouched_images_keep_the_promise.ensures;
}

pub returns-in-Some : goal.returns-in-Some
returns-in-Some c =
    let image = c.in-Err.image in
    let table = c.in-Some.table in
    record {
      ground = record {
        image_is = c.in-Err.ensures.handed_back;
        line = c.in_ok-line-in-Err.line.items;
        refused = record {
          refusal = c.in-Err.refusal;
          holds = c.in-Err.ensures.refused;
          no_memory = c.in_ok-line-in-Err.ensures.no_memory;
          line_is = simp (c.in-Err.ensures.handed_back) at c.in_ok-line-in-Err.ensures.line;
        };
        fit = subst (λ (i : Located). FitsTable i table) c.in-Err.ensures.handed_back
            (subst (λ (found : Option Table). IfSome found (FitsTable image)) c.in-Some.is c.in_ok-table-in-Err.ensures.fit);
        promise = subst (λ (i : Located). KeepsTable i table) c.in-Err.ensures.handed_back
            (subst (λ (found : Option Table). IfSome found (KeepsTable image)) c.in-Some.is c.in_ok-table-in-Err.ensures.table);
      };
      promise = subst (λ (found : Option Table). IfSome found (λ t. RunsKeepPromise (Followed image t))) c.in-Some.is
          c.in_ok-table-in-Err.ensures.runs;
    }
