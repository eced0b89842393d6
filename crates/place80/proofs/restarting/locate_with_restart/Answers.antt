use Rattle.std.proofs.Common.{◌<◌, ◌∙◌, ◌∷◌, ◌++◌, [], ap, sym, subst, List}
use Rattle.std.specs.List.{AllByRecursion}
use Rattle.place80.specs.declared.placed_segments.Placed.{Placed}
use Rattle.place80.specs.PlaceFault.{first_sharing}
use Rattle.place80.specs.Restart.{restart_chunk, restart_pairs}
use Rattle.place80.proofs.LocatingLemmas.{laid_fit}
use Rattle.place80.proofs.RestartLemmas.{none_beside, restart_memory}
use Rattle.place80.proofs.restarting.locate_with_restart.Goals as goal

pub with_restart-requires-clause-fit : goal.with_restart-requires-clause-fit
with_restart-requires-clause-fit c =
    laid_fit c.args.options.now c.args.program.now c.deref-in-None.result.now (c.deref-in-None.ensures.value ∙ c.in-Ok.ensures.places)
    (subst (λ (s : List Placed). AllByRecursion (λ p. p.length < 65536) s) (sym c.deref-in-None.ensures.value) c.in-Ok.ensures.lengths) c.in-Ok.ensures.none

pub with_restart-requires-clause-apart : goal.with_restart-requires-clause-apart
with_restart-requires-clause-apart c =
    none_beside c.args.program.now c.deref-in-None.result.now
    (ap (λ (l : List Placed). first_sharing (restart_pairs c.args.program.now l)) (c.deref-in-None.ensures.value ∙ sym c.deref.ensures.value)
    ∙ sym c.first_over_restart.ensures ∙ c.in-None.is)

pub returns-in_ok-with_restart-in-None-clause-restart : goal.returns-in_ok-with_restart-in-None-clause-restart
returns-in_ok-with_restart-in-None-clause-restart c = record {
  start = c.in_ok-image.image.start;
  goes = sym c.in_ok-image.ensures.start;
  are = c.in_ok-with_restart-in-None.ensures.chunks ∙ ap (λ chunks. chunks ++ restart_chunk c.in_ok-image.image.start ∷ []) c.in_ok-image.ensures.chunks;
  memory =
      restart_memory c.args.options.now c.args.program.now c.in_ok-image.image.start c.in_ok-image.image.chunks c.in_ok-with_restart-in-None.field-0.chunks
      c.in_ok-with_restart-in-None.ensures.chunks c.in_ok-image.ensures.memory;
}
