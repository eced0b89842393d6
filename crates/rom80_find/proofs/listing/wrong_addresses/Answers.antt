use Rattle.std.proofs.Common.{◌+◌, ◌*◌, subst, ℕ, slice_index_or}
use Rattle.std.proofs.lemmas.List.{get_or-replicate}
use Rattle.rom80_find.specs.Blocks.{IsFitted}
use Rattle.rom80_find.proofs.listing.wrong_addresses.Goals as goal

pub returns-then-is_any_left-clause-each : goal.returns-then-is_any_left-clause-each
returns-then-is_any_left-clause-each c = λ k lt on there.
    subst (λ (n : ℕ). IsFitted c.args.dump.now c.args.fixups.now (4096 * c.args.block + k) n (slice_index_or c.fit_fixups.new.wrong k 0))
    (get_or-replicate 4096 k 0 0 lt) (c.fit_fixups.ensures k lt there)
