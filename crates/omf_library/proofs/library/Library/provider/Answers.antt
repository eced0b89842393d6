use Rattle.std.proofs.Common.{rules}
use Rattle.omf_library.proofs.ProviderLemmas.{none_exactly}
use Rattle.omf_library.proofs.library.Library.provider.Goals as goal

pub returns-clause-none : goal.returns-clause-none
returns-clause-none c = none_exactly c.args.name.now c.args.self.now c.first_provider.result (search rules)
