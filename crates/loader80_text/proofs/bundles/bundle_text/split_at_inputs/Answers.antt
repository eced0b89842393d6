-- Whether the line at this place is the one that parts the bundle.
use Rattle.std.proofs.Common.{◌≡◌, ◌∷◌, ◌++◌, length, drop, arith, ap, sym, ◌∙◌, length-append, length-drop}
use Rattle.image80.specs.Lines.{parts}
use Rattle.loader80_text.proofs.BundleLemmas.{sides_of-here, sides_of-further, slice_to_end}
use Rattle.loader80_text.proofs.bundles.bundle_text.split_at_inputs.Goals as goal

pub returns-then-eq : goal.returns-then-eq
returns-then-eq c =
    let text = c.args.text.now in
    let at = c.loop-line.at in
    sides_of-here text c.in-Some.line.now c.in-Some.rest.now at
    (ap parts (sym (slice_to_end text at)) ∙ c.in-Some.ensures.found)
    (sym c.if-eq.ensures) c.loop-line.invariant.parted

pub loop-line-preserved : goal.loop-line-preserved
loop-line-preserved c =
    let text = c.args.text.now in
    let at = c.loop-line.at in
    let whole = slice_to_end text at in
    let joined : drop at text ≡ c.in-Some.line.now ++ 10 ∷ c.in-Some.rest.now = sym whole ∙ c.in-Some.ensures.joined in
    record {
      in_range = omega (arith, simp (length-append, length-drop) at (ap length joined));
      parted = sides_of-further text c.in-Some.line.now c.in-Some.rest.now at
          (ap parts (sym whole) ∙ c.in-Some.ensures.found) joined
          (sym c.if-eq.ensures) c.loop-line.invariant.parted;
    }
