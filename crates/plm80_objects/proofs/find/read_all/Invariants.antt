-- the files that were read so far
use Rattle.plm80_objects.proofs.Names.{map, take, AreFilesRead}
use Rattle.plm80_objects.proofs.find.read_all.Given as goal

abbrev pub invariant-loop-path : goal.invariant-loop-path
invariant-loop-path g l =
    AreFilesRead (map (λ path. path.now) (take l.path-index l.paths)) (g.C.Console.journal l.fn.console) (g.C.Console.journal l.console) l.files.items
