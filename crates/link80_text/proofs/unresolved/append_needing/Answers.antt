use Rattle.std.proofs.Common.{◌≤◌, arith, map, length, drop, Bor}
use Rattle.std.proofs.lemmas.List.{length-map}
use Rattle.omf_model.specs.declared.modules.Module.{Module}
use Rattle.link80_text.specs.Needs.{needers}
use Rattle.link80_text.proofs.NeedLemmas.{all_done, dropped_next, ended_by, none_left, text_next}
use Rattle.link80_text.proofs.unresolved.append_needing.Goals as goal

pub returns-then-is_none : goal.returns-then-is_none
returns-then-is_none c =
    let ms = map (λ (m : Bor Module). m.now) c.args.modules.now in
    let rest = drop c.loop.counter (needers c.args.name.now 0 ms) in
    all_done ms c.args.name.now c.loop.text.items c.args.text.now.items rest
    (ended_by c.args.needs.now.needs c.loop.at rest c.is_none.result c.is_none.ensures c.if-is_none.true c.loop.invariant.chain) c.loop.invariant.text

pub loop-preserved : goal.loop-preserved
loop-preserved c =
    let ms = map (λ (m : Bor Module). m.now) c.args.modules.now in
    let all = needers c.args.name.now 0 ms in
    let rest = drop c.loop.counter all in
    record {
      chain = dropped_next c.args.needs.now.needs c.in_ok-at.at all c.loop.counter (c.in_ok-at.ensures.next rest c.loop.invariant.chain);
      text = text_next ms c.args.name.now c.loop.text.items c.append_next.new.text.items _ all c.loop.counter
          (c.in_ok-at.ensures.text rest c.loop.invariant.chain) c.loop.invariant.text;
    }

pub returns : goal.returns
returns c =
    let ms = map (λ (m : Bor Module). m.now) c.args.modules.now in
    let past : length ms ≤ c.loop.counter = omega (arith, c.loop-test.false, length-map c.args.modules.now (λ (m : Bor Module). m.now)) in
    all_done ms c.args.name.now c.loop.text.items c.args.text.now.items (drop c.loop.counter (needers c.args.name.now 0 ms))
    (none_left ms c.args.name.now c.loop.counter past) c.loop.invariant.text
