use Rattle.std.proofs.Common.{arith, ◌-◌}
use Rattle.omf_library.proofs.ProviderLemmas.{table_grows}
use Rattle.omf_library.proofs.providers.Providers.of.Goals as goal

pub loop-place-preserved : goal.loop-place-preserved
loop-place-preserved c = (
  table_grows (λ m. m.now) c.args.modules.now
      (c.loop-place.place - 1) c.loop-place.place c.index-modules-place.result c.loop-place.providers c.take_names.new.self
      (omega (arith, c.loop-place-test.true)) c.loop-place.invariant.1 c.index-modules-place.is c.loop-place.invariant.0
      c.in_ok-take_names.ensures,
  omega (arith, c.loop-place.invariant.1),
)
