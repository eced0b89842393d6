use Rattle.std.proofs.Common.{rules}
use Rattle.link80_text.proofs.NeedLemmas.{first_mapped}
use Rattle.link80_text.proofs.needs.Needs.first.Goals as goal

pub returns : goal.returns
returns c = search (rules, first_mapped (λ k. k.now) c.args.name.now c.self.inside.heads.entries)
