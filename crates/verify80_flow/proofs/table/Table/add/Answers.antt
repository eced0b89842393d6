use Rattle.std.proofs.Common.{◌≡◌, ◌<◌, ◌≤◌, ◌∙◌, ap, arith, sym, subst, length, ◌++◌, ◌∷◌, [], Ok, true}
use Rattle.std.specs.Prelude.{is_some}
use Rattle.frames80_interned.specs.Frames.{frame_at}
use Rattle.verify80_flow.specs.Points.{Point}
use Rattle.verify80_flow.specs.Known.{Known, KnownFrames, Flows}
use Rattle.verify80_flow.specs.Faults.{most_points}
use Rattle.verify80_flow.proofs.KnownLemmas.{added, flows_added, flows_too_many}
use Rattle.verify80_flow.proofs.table.Table.add.Goals as goal

pub returns-then-number-ge-MOST_POINTS-clause-flows : goal.returns-then-number-ge-MOST_POINTS-clause-flows
returns-then-number-ge-MOST_POINTS-clause-flows c =
    let known = c.args.self.now.known in
    let count : c.len-number.result ≡ length known.points = c.len-number.ensures.count ∙ ap (λ (t : KnownFrames). length t.known.points) c.self.view_is in
    let full = c.if-number-ge-MOST_POINTS.true in
    let many : most_points ≤ length known.points = omega arith in
    flows_too_many known known c.args.procedure c.args.to (frame_at c.args.self.now.frames c.args.frame) c.requires.frame.small many c.requires.new

pub returns-clause-flows : goal.returns-clause-flows
returns-clause-flows c =
    let table = c.args.self.now in
    let known = table.known in
    let g = frame_at table.frames c.args.frame in
    let count : c.len-number.result ≡ length known.points = c.len-number.ensures.count ∙ ap (λ (t : KnownFrames). length t.known.points) c.self.view_is in
    let not_full = c.if-number-ge-MOST_POINTS.false in
    let few : length known.points < most_points = omega arith in
    let lesser = c.in_ok-lesser.ensures.lesser in
    let mid = c.lessen.new.self in
    let k = frame_at mid.frames c.in_ok-lesser.lesser in
    let point : Point = record { procedure = c.args.procedure; at = c.args.to; frame = k } in
    let same : mid.known ≡ known = c.in_ok-lesser.ensures.known in
    let grown : c.add.new.self.points ≡ known.points ++ point ∷ [] =
    c.in_ok-add.ensures.added
    ∙ (λ i. let t = c.self-2.view_is i in t.known.points ++ record { procedure = c.args.procedure; at = c.args.to; frame = frame_at t.frames c.in_ok-lesser.lesser } ∷ [])
    ∙ ap (λ (x : Known). x.points ++ point ∷ []) same in
    let exits : c.self-2.inside.exits.items ≡ known.exits = ap (λ (t : KnownFrames). t.known.exits) c.self-2.view_is ∙ ap (λ (x : Known). x.exits) same in
    let forgets : is_some c.self-2.inside.asked ≡ known.forgets = ap (λ (t : KnownFrames). t.known.forgets) c.self-2.view_is ∙ ap (λ (x : Known). x.forgets) same in
    let after : c.visit_again.new.self.known ≡ added known point =
    ap (λ (t : KnownFrames). t.known) c.visit_again.ensures ∙ (λ i. record { points = grown i; exits = exits i; forgets = forgets i }) in
    subst (λ (x : Known). Flows known x c.args.procedure c.args.to g (Ok true)) (sym after)
    (flows_added known c.args.procedure c.args.to g k lesser.covers lesser.same c.requires.frame.small few c.requires.frame.fits c.requires.new)
