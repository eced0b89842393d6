use Rattle.std.proofs.Common.{◌∙◌, sym, subst, List, ℕ}
use Rattle.std.specs.List.{AllByRecursion}
use Rattle.rom80_find.specs.Dump.{DumpValue}
use Rattle.rom80_find.specs.Lies.{HasModule}
use Rattle.rom80_find.specs.Listed.{Shows}
use Rattle.rom80_find.specs.Prints.{PrintsPlaces}
use Rattle.rom80_find.proofs.FindingLemmas.{finds_short, finds_missing, finds_there}
use Rattle.rom80_find.proofs.PlaceTextLemmas.{first_places}
use Rattle.rom80_find.proofs.lines.finding.append_module_places.Goals as goal

pub append_places-requires : goal.append_places-requires
append_places-requires c =
    subst (λ (d : DumpValue). AllByRecursion (HasModule d c.in_ok-pattern.pattern) c.in_ok-places.places.first.items) (sym c.dump.ensures)
    (first_places c.args.dump.now c.in_ok-pattern.pattern c.in_ok-places.places c.in_ok-places.ensures)

pub returns-then-is_short : goal.returns-then-is_short
returns-then-is_short c =
    finds_short c.args.dump.now c.args.source.now c.in_ok-pattern.pattern c.args.text.now.items c.in_ok-pattern.ensures
    (sym c.is_short.ensures ∙ c.if-is_short.true)

pub returns-then-places-eq0 : goal.returns-then-places-eq0
returns-then-places-eq0 c =
    finds_missing c.args.dump.now c.args.source.now c.in_ok-pattern.pattern c.in_ok-places.places c.args.text.now.items
    c.in_ok-pattern.ensures (sym c.is_short.ensures ∙ c.if-is_short.false) c.in_ok-places.ensures c.if-places-eq0.true

pub returns : goal.returns
returns c =
    finds_there c.args.dump.now c.args.source.now c.in_ok-pattern.pattern c.in_ok-places.places c.args.text.now.items
    c.append_places.new.text.items c.in_ok-pattern.ensures (sym c.is_short.ensures ∙ c.if-is_short.false) c.in_ok-places.ensures
    c.if-places-eq0.false
    (subst (λ (d : DumpValue). (all : List ℕ) → Shows c.in_ok-places.places all
    → PrintsPlaces d c.in_ok-pattern.pattern all c.args.text.now.items c.append_places.new.text.items) c.dump.ensures c.in_ok-append_places.ensures)
