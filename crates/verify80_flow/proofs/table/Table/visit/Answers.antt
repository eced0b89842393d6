use Rattle.verify80_flow.proofs.VisitLemmas.{visits_moves}
use Rattle.frames80_interned.specs.Admitted.{move_of}
use Rattle.frames80_interned.specs.Frames.{frame_at}
use Rattle.verify80_flow.proofs.table.Table.visit.Goals as goal

pub follow-requires : goal.follow-requires
follow-requires g c =
    let is = c.in_ok-site.ensures.moves in
    record {
      small = c.requires.small;
      there = is.framed.there;
      fits = rw is.framed.is (c.requires.small.frames c.args.point is.move.point is.move.there);
    }

pub returns : goal.returns
returns g c =
    let table = c.args.self.now in
    let site = c.in_ok-site.site in
    visits_moves (g.C.Code.code c.args.program.now) table.known c.follow.new.self.known c.args.point site c.targets.result.now (move_of c.in_ok-site.effect (frame_at table.frames site.frame)) c.follow.result
    c.in_ok-site.ensures.moves.move c.targets.ensures c.follow.ensures
