use Rattle.std.proofs.Common.{get_or, refl}
use Rattle.rom80_find.specs.Dump.{dump_of}
use Rattle.rom80_find.specs.Lies.{HasModule}
use Rattle.rom80_find.proofs.PlaceTextLemmas.{each_more, one_of}
use Rattle.rom80_find.proofs.lines.places.append_each_place.Goals as goal

pub append_place_at-requires : goal.append_place_at-requires
append_place_at-requires c =
    one_of (HasModule (dump_of c.args.dump) c.args.pattern.now) c.args.places.now c.loop-address.address-index
    (get_or c.args.places.now c.loop-address.address-index 0) c.loop-address-test.true refl c.requires

pub loop-address-preserved : goal.loop-address-preserved
loop-address-preserved c =
    each_more (dump_of c.args.dump) c.args.pattern.now c.args.places.now c.loop-address.address-index
    (get_or c.args.places.now c.loop-address.address-index 0) c.args.text.now.items c.loop-address.text.items c.append_place_at.new.text.items
    c.loop-address-test.true refl c.loop-address.invariant c.in_ok-append_place_at.ensures
