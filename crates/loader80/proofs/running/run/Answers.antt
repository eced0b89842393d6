use Rattle.std.proofs.Common.{◌≡◌, ◌∙◌, ℕ, ap}
use Rattle.std.specs.Prelude.{Bool, nat_lt, Option}
use Rattle.image80.specs.Regions.{Areas}
use Rattle.image80.specs.Image.{Located}
use Rattle.machine80.specs.Cpu.{started}
use Rattle.loader80.proofs.RunLemmas.{most_for, most_agrees, ends_properly, parts_run, parts_stay_right}
use Rattle.loader80.proofs.running.run.Goals as goal

pub returns-clause-run : goal.returns-clause-run
returns-clause-run g c = λ most agrees.
    let whole = c.image.view_is ∙ c.image-image.ensures.image in
    let regions : c.image.inside.regions ≡ c.args.vouched.now.image.regions = ap (λ (v : Located). v.regions) whole in
    let start : c.image.inside.start ≡ c.args.vouched.now.image.start = ap (λ (v : Located). v.start) whole in
    let cpu : c.start-cpu.result ≡ started c.args.vouched.now.image.start c.args.vouched.now.image.regions =
    c.start-cpu.ensures ∙ ap (λ (n : ℕ). started n c.image.inside.regions) start ∙ ap (λ (r : Areas). started c.args.vouched.now.image.start r) regions in
    let stays = parts_stay_right c.args.vouched.now.image c.image.inside.regions c.start-cpu.result _ (g.P.Ports.lists c.args.ports.now).inputs (g.P.Ports.lists c.args.ports.now).outputs regions cpu c.requires.content
    (c.images_that_never_go_wrong_stay_right.ensures c.args.vouched.now.image c.args.vouched.now.stack_bytes _ _ c.image-image.ensures.vouched.never_goes_wrong) in
    parts_run c.args.vouched.now.image c.image.inside.regions c.start-cpu.result _ _ _ most c.args.steps _ _ _ regions cpu c.requires.content
    (c.quick_advance-advanced.ensures.run stays most agrees)

pub returns-clause-proper : goal.returns-clause-proper
returns-clause-proper g c =
    let refused : Bool = nat_lt (g.P.Ports.lists c.args.ports.now).refused (g.P.Ports.lists c.quick_advance-advanced.new.ports).refused in
    let most : Option ℕ = most_for refused (g.P.Ports.lists c.quick_advance-advanced.new.ports).outputs in
    ends_properly c.args.vouched.now.stack_bytes c.args.vouched.now.image _ _ most c.args.steps _ _ c.quick_advance-advanced.result.end c.image-image.ensures.vouched.never_goes_wrong
    (returns-clause-run g c most (most_agrees refused (g.P.Ports.lists c.quick_advance-advanced.new.ports).outputs))
