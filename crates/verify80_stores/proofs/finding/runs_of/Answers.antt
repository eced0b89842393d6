use Rattle.verify80_stores.proofs.Names.{◌∙◌, subst, Located, AreRegions, IsVouched}
use Rattle.verify80_stores.proofs.finding.runs_of.Goals as goal

pub returns : goal.returns
returns c =
    let vouched = c.args.vouched.now in
    let known : IsVouched vouched.image vouched.rows vouched.stack_bytes = c.image.ensures.vouched in
    let rules : AreRegions vouched.image.regions = subst (λ (i : Located). AreRegions i.regions) (c.behind-vouched.view_is ∙ c.image.ensures.image) c.stack.ensures.rules in
    record {
      rules = rules;
      sound = c.images_never_go_wrong_from_power_on.ensures vouched.image vouched.stack_bytes rules known.accepted.fitted known.accepted.within;
      walks = c.accepted_images_stay_on_walks.ensures vouched.image vouched.rows vouched.stack_bytes rules known.accepted;
      promise = c.promise_is_kept_on_boards.ensures.promise vouched.image vouched.stack_bytes rules known.accepted.fitted known.accepted.within;
      boards = c.walks_are_kept_on_boards.ensures vouched.image vouched.rows vouched.stack_bytes rules known.accepted;
      unset = c.promise_is_kept_on_boards.ensures.unset vouched.image vouched.stack_bytes rules known.accepted.fitted known.accepted.within;
      guarded = c.promise_is_kept_on_boards.ensures.steps vouched.image vouched.stack_bytes rules known.accepted.fitted known.accepted.within;
    }
