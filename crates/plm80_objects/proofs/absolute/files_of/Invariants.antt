use Rattle.plm80_objects.proofs.Names.{◌≡◌, take, AreRomFiles}
use Rattle.plm80_objects.proofs.absolute.files_of.Given as goal

-- the files so far
abbrev pub invariant-loop-further : goal.invariant-loop-further
invariant-loop-further g l = record {
  files : AreRomFiles l.arguments.bytes.now l.arguments.first.text.now (take l.further-index l.arguments.further.items) l.files.items;
  unchanged : g.C.Console.journal l.console ≡ g.C.Console.journal l.fn.console;
}
