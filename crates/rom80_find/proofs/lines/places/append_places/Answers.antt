use Rattle.std.proofs.Common.{subst, sym, List, ℕ}
use Rattle.std.specs.List.{AllByRecursion}
use Rattle.rom80_find.specs.Dump.{dump_of}
use Rattle.rom80_find.specs.Lies.{HasModule}
use Rattle.rom80_find.specs.Prints.{PrintsEach}
use Rattle.rom80_find.proofs.PlaceTextLemmas.{prints_places}
use Rattle.rom80_find.proofs.lines.places.append_places.Goals as goal

pub append_each_place-requires : goal.append_each_place-requires
append_each_place-requires c =
    subst (λ (l : List ℕ). AllByRecursion (HasModule (dump_of c.args.dump) c.args.pattern.now) l) (sym c.deref.ensures.value) c.requires

pub returns : goal.returns
returns c =
    let dump = dump_of c.args.dump in
    let m = c.args.pattern.now in
    let before = c.args.text.now.items in
    let between = c.append_each_place.new.text.items in
    prints_places dump m c.args.places.now before between c.append_more_count.new.text.items
    (subst (λ (l : List ℕ). PrintsEach dump m l before between) c.deref.ensures.value c.in_ok-append_each_place.ensures)
    c.in_ok-append_more_count.ensures
