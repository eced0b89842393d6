use Rattle.plm80_runs.proofs.Names.{◌<◌, ℕ, All, List, rules, subst}
use Rattle.plm80_runs.proofs.FollowedLemmas.{stands_followed}
use Rattle.plm80_runs.proofs.runnable.runs_of_followed.Goals as goal

pub returns : goal.returns
returns c table keeps =
    stands_followed c.runs_are_on_quiet_boards.ensures.runs c.runs_are_on_quiet_boards.ensures.start c.args.image.now table (search rules)
    (subst (λ (memory : List ℕ). All (λ byte. byte < 256) memory) c.requires c.are_bytes.ensures) keeps
