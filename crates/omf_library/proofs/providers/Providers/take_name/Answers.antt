use Rattle.std.proofs.Common.{rules, nat_eq}
use Rattle.std.specs.Cmp.Lexicographic.{pointwise}
use Rattle.omf_library.proofs.ProviderLemmas.{lookup_mapped}
use Rattle.omf_library.proofs.providers.Providers.take_name.Goals as goal

pub returns : goal.returns
returns c = record {
  taken = λ name.
      let set = c.in_ok-insert.ensures.updates.0 (record c.bytes.result { now = name }) in
      search (
        rules,
        set,
        c.bytes.ensures.value,
        lookup_mapped (λ k. k.now) (pointwise nat_eq name) c.insert.new.self.entries,
        lookup_mapped (λ k. k.now) (pointwise nat_eq name) c.self.inside.places.entries,
      );
}
