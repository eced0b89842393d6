use Rattle.std.specs.Prelude.{Ok, Err, refl}
use Rattle.std.proofs.lemmas.Result.{err_from_is_err_and}
use Rattle.frames80.specs.declared.moves.Moves.TheVariants.{MaybeReturn}
use Rattle.frames80_interned.specs.Frames.{frame_at}
use Rattle.verify80_flow.proofs.StepLemmas.{steps_first_refused, steps_maybe_return}
use Rattle.verify80_flow.proofs.table.Table.return_if.Goals as goal

pub returns-in_err-one-clause-steps : goal.returns-in_err-one-clause-steps
returns-in_err-one-clause-steps c targets =
    let p = err_from_is_err_and c.from_residual.result c.from_residual.ensures.1 in
    let table = c.args.self.now in
    let s = c.args.site.now in
    let f = frame_at table.frames s.frame in
    rw (p.1, p.2) (steps_first_refused c.frame_laws.ensures table.known c.flow.new.self.known s.procedure s.at targets s.next s.next s.role (MaybeReturn f c.args.taken) f c.in_err-one.field-0.0 (refl, refl) c.in_err-one.ensures.flows)

pub returns-in_err-other-clause-steps : goal.returns-in_err-other-clause-steps
returns-in_err-other-clause-steps c targets =
    let p = err_from_is_err_and c.from_residual-in_err-other.result c.from_residual-in_err-other.ensures.1 in
    let table = c.args.self.now in
    let s = c.args.site.now in
    let f = frame_at table.frames s.frame in
    rw (p.1, p.2) (steps_maybe_return c.frame_laws.ensures table.known c.flow.new.self.known c.exit.new.self.known s.procedure s.at targets s.next s.role f c.args.taken c.in_ok-one.one (Err c.in_err-other.field-0.0) c.in_ok-one.ensures.flows c.in_err-other.ensures.exits)

pub returns-clause-steps : goal.returns-clause-steps
returns-clause-steps c targets =
    let table = c.args.self.now in
    let s = c.args.site.now in
    let f = frame_at table.frames s.frame in
    steps_maybe_return c.frame_laws.ensures table.known c.flow.new.self.known c.exit.new.self.known s.procedure s.at targets s.next s.role f c.args.taken c.in_ok-one.one (Ok c.in_ok-other.other) c.in_ok-one.ensures.flows c.in_ok-other.ensures.exits
