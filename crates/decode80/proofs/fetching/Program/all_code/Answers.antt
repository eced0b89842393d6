use Rattle.std.proofs.Common.{◌∙◌, ◌+◌, ◌-◌, ap, sym}
use Rattle.std.specs.Prelude.{Bool, ◌&&◌}
use Rattle.std.specs.List.{list_all, range_with_len}
use Rattle.decode80.proofs.FetchLemmas.{all_code-each, each-more, each-none}
use Rattle.decode80.proofs.fetching.Program.all_code.Goals as goal

pub loop-place-init : goal.loop-place-init
loop-place-init g c = all_code-each (g.Self.Program.code c.args.self.now) c.args.address c.from-first.result c.args.count c.from-first.ensures c.if-first-count-gt65536.false

pub returns-then-not-is_code : goal.returns-then-not-is_code
returns-then-not-is_code g c =
    sym (c.loop-place.invariant ∙ each-more (g.Self.Program.code c.args.self.now) c.loop-place.place (c.from-first.result + c.args.count) c.loop-place-test.true
    ∙ ap (λ (b : Bool). b && list_all (g.Self.Program.code c.args.self.now) (range_with_len (c.loop-place.place + 1) (c.from-first.result + c.args.count - (c.loop-place.place + 1)))) (sym c.is_code.ensures ∙ c.if-not-is_code.true))

pub loop-place-preserved : goal.loop-place-preserved
loop-place-preserved g c =
    c.loop-place.invariant ∙ each-more (g.Self.Program.code c.args.self.now) c.loop-place.place (c.from-first.result + c.args.count) c.loop-place-test.true
    ∙ ap (λ (b : Bool). b && list_all (g.Self.Program.code c.args.self.now) (range_with_len (c.loop-place.place + 1) (c.from-first.result + c.args.count - (c.loop-place.place + 1)))) (sym c.is_code.ensures ∙ c.if-not-is_code.false)

pub returns : goal.returns
returns g c = sym (c.loop-place.invariant ∙ each-none (g.Self.Program.code c.args.self.now) c.loop-place.place (c.from-first.result + c.args.count) c.loop-place-test.false)
