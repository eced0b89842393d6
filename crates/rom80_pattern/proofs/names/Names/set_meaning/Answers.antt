use Rattle.std.proofs.Common.{rules}
use Rattle.rom80_pattern.proofs.NameLemmas.{meaning_mapped}
use Rattle.rom80_pattern.proofs.names.Names.set_meaning.Goals as goal

pub returns : goal.returns
returns c = record {
  set = λ other.
      let set = c.in_ok-insert.ensures.updates.0 (record c.bytes.result { now = other }) in
      search (
        rules,
        set,
        c.bytes.ensures.value,
        meaning_mapped (λ k. k.now) other c.insert.new.self.entries,
        meaning_mapped (λ k. k.now) other c.self.inside.meanings.entries,
      );
}
