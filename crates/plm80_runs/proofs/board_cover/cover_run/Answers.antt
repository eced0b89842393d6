use Rattle.plm80_runs.proofs.Names.{List, Located, rules, subst, ℕ}
use Rattle.loader80_board.specs.BoardCounts.{IsCounted}
use Rattle.plm80_runs.specs.OnBoards.{CoversProgram}
use Rattle.plm80_runs.proofs.board_cover.cover_run.Goals as goal

pub returns : goal.returns
returns c =
    let counts = c.in_ok-counts.counts in
    let code = c.in_ok-code.code.items in
    record {
      counts = counts;
      counted = subst (λ (i : Located). IsCounted c.args.board.now i c.args.limits counts) c.image.ensures c.in_ok-counts.ensures;
      listed = code;
      covers = subst (λ (steps : List ℕ). CoversProgram c.args.program.now steps code) c.deref.ensures.value c.in_ok-code.ensures;
      answer_is = search rules;
    }
