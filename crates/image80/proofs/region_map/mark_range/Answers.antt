use Rattle.std.proofs.Common.{◌∙◌, sym, arith, length-set}
use Rattle.image80.proofs.RegionMapLemmas.{set-more, set-none, set_all}
use Rattle.image80.proofs.region_map.mark_range.Goals as goal

pub loop-address-init : goal.loop-address-init
loop-address-init c = record {
  whole = c.requires.whole;
  marks = λ place. set-none _ _ place c.args.mark _ (omega arith);
}

pub loop-address-preserved : goal.loop-address-preserved
loop-address-preserved c = record {
  whole = simp length-set c.loop-address.invariant.whole;
  marks = λ place. set-more _ _ place c.args.mark _ _ (omega arith) (omega arith) (c.loop-address.invariant.marks place);
}

pub returns : goal.returns
returns c = set_all c.args.range c.loop-address.address c.args.mark _ _ (omega arith) (omega arith) (c.loop-address.invariant.whole ∙ sym c.requires.whole) c.loop-address.invariant.marks
