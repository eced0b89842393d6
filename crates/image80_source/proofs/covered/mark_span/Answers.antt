use Rattle.std.proofs.Common.{◌∙◌, sym, arith, length-set}
use Rattle.image80_source.proofs.MarkLemmas.{set-more, set-none, set_all}
use Rattle.image80_source.proofs.covered.mark_span.Goals as goal

pub loop-address-init : goal.loop-address-init
loop-address-init c = record {
  whole = c.requires.whole;
  marks = λ place. set-none _ _ place _ (omega arith);
}

pub loop-address-preserved : goal.loop-address-preserved
loop-address-preserved c = record {
  whole = simp length-set c.loop-address.invariant.whole;
  marks = λ place. set-more _ _ place _ _ (omega arith) (omega arith) (c.loop-address.invariant.marks place);
}

pub returns : goal.returns
returns c = set_all c.args.first c.args.count c.loop-address.address _ _ (omega arith) (omega arith) (c.loop-address.invariant.whole ∙ sym c.requires.whole) c.loop-address.invariant.marks
