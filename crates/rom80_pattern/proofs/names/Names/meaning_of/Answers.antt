use Rattle.std.proofs.Common.{rules}
use Rattle.rom80_pattern.proofs.NameLemmas.{meaning_mapped}
use Rattle.rom80_pattern.proofs.names.Names.meaning_of.Goals as goal

pub returns : goal.returns
returns c = search (rules, meaning_mapped (λ k. k.now) c.args.name.now c.self.inside.meanings.entries)
