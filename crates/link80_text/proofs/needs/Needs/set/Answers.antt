use Rattle.std.proofs.Common.{rules}
use Rattle.link80_text.proofs.NeedLemmas.{first_mapped}
use Rattle.link80_text.proofs.needs.Needs.set.Goals as goal

pub returns-clause-heads : goal.returns-clause-heads
returns-clause-heads c = record {
  set = λ other.
      let set = c.in_ok-insert.ensures.updates.0 (record c.bytes.result { now = other }) in
      search (
        rules,
        set,
        c.bytes.ensures.value,
        first_mapped (λ k. k.now) other c.insert.new.self.entries,
        first_mapped (λ k. k.now) other c.self.inside.heads.entries,
      );
}
