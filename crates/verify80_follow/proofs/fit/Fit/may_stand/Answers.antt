use Rattle.std.specs.Prelude.{◌≤◌, IfSome, List, Option, length}
use Rattle.std.proofs.Common.{refl, subst}
use Rattle.image80.specs.Regions.{Areas}
use Rattle.verify80_spans.specs.declared.byte_span.ByteSpan.{ByteSpan}
use Rattle.verify80_follow.specs.Follows.{IsShownOrListed}
use Rattle.verify80_follow.proofs.fit.Fit.may_stand.Goals as goal

pub returns : goal.returns
returns c is =
    let fit = c.args.self.now in
    let state = c.args.state.now in
    record {
      serves = c.if-not-serves.ensures refl;
      shown = subst (λ (r : Areas). IsShownOrListed r fit.listed.now c.args.instr state) c.requires.regions (c.if-not-is_shown_or_listed.ensures refl);
      depth = subst (λ (stack : Option (List ByteSpan)). IfSome stack (λ bytes. length bytes ≤ fit.bytes)) c.bytes.ensures (c.if-not-is_within.ensures refl);
      knows = c.if-not-is_quiet.ensures refl;
    }
