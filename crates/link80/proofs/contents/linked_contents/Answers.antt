use Rattle.std.specs.Prelude.{◌≤◌, ◌++◌, ◌+◌, List, map, drop, slice_get, length}
use Rattle.std.specs.List.{flat_map, enumerate_from}
use Rattle.std.proofs.lemmas.Option.{slice_get_within}
use Rattle.std.proofs.Common.{◌∙◌, ap, sym, arith}
use Rattle.omf_model.specs.Modules.{ModuleValue}
use Rattle.omf_model.specs.Rules.{IsModule}
use Rattle.link80.specs.Linked.{linked_content, linked_contents}
use Rattle.link80.specs.LinkFault.{segment_too_long}
use Rattle.link80.proofs.LoopLemmas.{all_made, more_numbered, one_further, holds_of_all}
use Rattle.link80.proofs.contents.linked_contents.Goals as goal

pub loop-number-preserved : goal.loop-number-preserved
loop-number-preserved c = (
  ap (λ l. l ++ flat_map (λ m. map (linked_content c.args.tables.now m) m.1.contents)
      (enumerate_from (c.loop-number.number + 1) (drop (c.loop-number.number + 1) c.args.tables.now)))
      c.in_ok-add_contents.ensures.contents
      ∙ more_numbered (λ m. map (linked_content c.args.tables.now m) m.1.contents) c.args.tables.now c.loop-number.number
      c.get.result.now c.loop-number.contents.items
      (ap (λ (ms : List ModuleValue). slice_get ms c.loop-number.number) (sym c.tables.view_is) ∙ c.get.ensures)
      ∙ c.loop-number.invariant.0,
  one_further IsModule c.args.tables.now c.loop-number.number c.get.result.now
      (ap (λ (ms : List ModuleValue). slice_get ms c.loop-number.number) (sym c.tables.view_is)
      ∙ c.get.ensures) c.loop-number.invariant.1 c.in_ok-add_contents.ensures.sound,
)

pub returns-clause-sound : goal.returns-clause-sound
returns-clause-sound c =
    holds_of_all IsModule c.args.tables.now
    (λ k m at. c.loop-number.invariant.1 k m
    (omega (
      arith,
      slice_get_within c.args.tables.now k m at,
      c.loop-number-test.false,
      c.len-number-end.ensures,
      ap length
          c.tables.view_is,
    )) at)

pub get-requires : goal.get-requires
get-requires c = omega (arith, c.loop-number-test.true, c.len-number-end.ensures)

pub add_contents-requires-clause-here : goal.add_contents-requires-clause-here
add_contents-requires-clause-here c = ap (λ (ms : List ModuleValue). slice_get ms c.loop-number.number) (sym c.tables.view_is)
    ∙ c.get.ensures

pub add_contents-requires-clause-segments_fit : goal.add_contents-requires-clause-segments_fit
add_contents-requires-clause-segments_fit c = ap segment_too_long (sym c.tables.view_is) ∙ c.tables.invariant.segments_fit

pub returns-clause-contents : goal.returns-clause-contents
returns-clause-contents c =
    let past : length c.args.tables.now ≤ c.loop-number.number =
    omega (arith, c.loop-number-test.false, c.len-number-end.ensures, ap length c.tables.view_is) in
    sym (all_made (λ m. map (linked_content c.args.tables.now m) m.1.contents) c.args.tables.now c.loop-number.number
    c.loop-number.contents.items past) ∙ c.loop-number.invariant.0

pub loop-number-init : goal.loop-number-init
loop-number-init c = (
  ap (λ l. l ++ linked_contents c.args.tables.now) c.new-contents.ensures.items,
  λ k m below at.
      absurd (omega (arith, below)),
)
