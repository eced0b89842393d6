-- the files so far
use Rattle.plm80_objects.proofs.Names.{take, dump_of, PrintsFiles}
use Rattle.plm80_objects.proofs.find.find_all.Given as goal

abbrev pub invariant-loop-file : goal.invariant-loop-file
invariant-loop-file l = PrintsFiles (dump_of l.dump) (take l.file-index l.files) l.are_there l.text.items
