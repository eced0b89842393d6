use Rattle.std.proofs.Common.{rules, ◌≡◌, ◌≢◌, ◌++◌, ◌∷◌, [], true, List, sym, subst}
use Rattle.omf_module.specs.declared.module_file.PlacedBody.{PlacedBody}
use Rattle.omf_module.specs.Reading.{is_end}
use Rattle.omf_module.proofs.WithinLemmas.{WithinSoFar, one_within, other_than_end}
use Rattle.omf_module.proofs.record_reading.within_at.Goals as goal

pub loop-read-preserved : goal.loop-read-preserved
loop-read-preserved c =
    let f = c.in-Ok.ensures.follows in
    let not : is_end c.in-Ok.read.0 ≢ true = other_than_end c.in-Ok.read.0 c.in_default.not-ModuleEnd in
    let same : c.push.new.self.items ≡ c.loop-read.bodies.items ++ record { at = c.loop-read.here; body = c.in-Ok.read.0 } ∷ [] =
    search rules in (
      subst (λ (x : List PlacedBody). WithinSoFar c.args.bytes.now c.args.first c.in-Ok.read.1 x c.next_body.new.commons.items)
          (sym same)
          (one_within c.args.bytes.now c.args.first c.loop-read.here c.in-Ok.read.1 c.loop-read.bodies.items
          c.loop-read.commons.items c.next_body.new.commons.items c.in-Ok.read.0 c.loop-read.invariant.0 f not),
      f.inside,
    )
