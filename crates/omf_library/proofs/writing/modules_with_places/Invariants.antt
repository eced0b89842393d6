-- what is written, and that it is read again
use Rattle.std.proofs.Common.{◌≡◌, drop, take}
use Rattle.std.specs.List.{flat_map, AllByRecursion}
use Rattle.omf_module.specs.Writing.{module_bytes}
use Rattle.omf_module.specs.WritingLaws.{IsReadAgain}
use Rattle.omf_library.specs.Writing.{places_from}
use Rattle.omf_library.proofs.writing.modules_with_places.Given as goal

abbrev pub invariant-loop-source : goal.invariant-loop-source
invariant-loop-source l = record {
  bytes : l.bytes.items ≡ flat_map module_bytes (take l.source-index l.modules);
  places : l.places.items ≡ places_from 10 (take l.source-index l.modules);
  read : AllByRecursion IsReadAgain (drop l.source-index l.modules) → AllByRecursion IsReadAgain l.modules;
}
