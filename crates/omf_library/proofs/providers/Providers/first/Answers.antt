use Rattle.std.proofs.Common.{rules, nat_eq}
use Rattle.std.specs.Cmp.Lexicographic.{pointwise}
use Rattle.omf_library.proofs.ProviderLemmas.{lookup_mapped}
use Rattle.omf_library.proofs.providers.Providers.first.Goals as goal

pub returns : goal.returns
returns c = λ modules are.
    search (
      rules,
      are.first c.args.name.now,
      lookup_mapped (λ k. k.now)
          (pointwise nat_eq c.args.name.now) c.self.inside.places.entries,
    )
