use Rattle.std.proofs.Common.{arith, ◌≡◌, ◌+◌, take, subst, sym}
use Rattle.std.proofs.lemmas.List.{drop_all}
use Rattle.std.proofs.lemmas.Grind.{common_steps}
use Rattle.std.specs.List.{flat_map, AllByRecursion}
use Rattle.omf_module.specs.Writing.{module_bytes}
use Rattle.omf_module.specs.WritingLaws.{IsReadAgain}
use Rattle.omf_library.proofs.WritingLemmas.{places_step, read_step}
use Rattle.omf_library.proofs.writing.modules_with_places.Goals as goal

pub loop-source-preserved : goal.loop-source-preserved
loop-source-preserved c =
    let bytes : c.push_module.new.bytes.items ≡ flat_map module_bytes (take (c.loop-source.source-index + 1) c.args.modules.now) =
    grind (arith, common_steps, c.loop-source.invariant.bytes, c.in_ok-push_module.ensures.bytes, c.source-item.is) in record {
      bytes = bytes;
      places = places_step c.args.modules.now c.loop-source.source-index c.source-item.result c.loop-source.bytes.items
          c.loop-source.places.items c.push_module.new.places.items c.loop-source-test.true c.source-item.is
          c.loop-source.invariant.bytes c.in_ok-push_module.ensures.place c.loop-source.invariant.places;
      read = read_step c.args.modules.now c.loop-source.source-index c.source-item.result c.loop-source-test.true c.source-item.is
          c.in_ok-push_module.ensures.read c.loop-source.invariant.read;
    }

pub returns-clause-read : goal.returns-clause-read
returns-clause-read c = c.loop-source.invariant.read
    (subst (AllByRecursion IsReadAgain)
    (sym (drop_all c.loop-source.source-index c.args.modules.now c.loop-source-test.false)) tt)
