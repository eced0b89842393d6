-- the files that were read so far, and whether one of their dumps has a byte at the start
use Rattle.plm80_objects.proofs.Names.{◌≡◌, take, is_covered, AreDumpsRead}
use Rattle.plm80_objects.proofs.absolute.read_dumps.Given as goal

abbrev pub invariant-loop-rom : goal.invariant-loop-rom
invariant-loop-rom g l = record {
  read : AreDumpsRead (take l.rom-index l.files) (g.C.Console.journal l.fn.console) (g.C.Console.journal l.console) l.dumps;
  start : l.has_start ≡ is_covered l.dumps l.start;
}
