use Rattle.std.proofs.Common.{sym, subst, List}
use Rattle.image80.specs.declared.range.Range.{Range}
use Rattle.image80.specs.Regions.{AreApart}
use Rattle.image80.proofs.RangeLemmas.{code_apart}
use Rattle.image80.proofs.regions.Regions.in_code.Goals as goal

pub in_ranges-requires : goal.in_ranges-requires
in_ranges-requires c = subst (λ (ranges : List Range). AreApart ranges) (sym c.deref.ensures.value) (code_apart _ c.self.invariant)
