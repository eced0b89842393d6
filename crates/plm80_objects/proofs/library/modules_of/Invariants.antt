-- the files that were read so far
use Rattle.plm80_objects.proofs.Names.{map, take, AreAllRead}
use Rattle.plm80_objects.proofs.library.modules_of.Given as goal

abbrev pub invariant-loop-path : goal.invariant-loop-path
invariant-loop-path g l =
    AreAllRead (map (λ path. path.now) (take l.path-index l.paths)) (g.C.Console.journal l.fn.console) (g.C.Console.journal l.console) l.modules.items
