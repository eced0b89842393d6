use Rattle.std.specs.Prelude.{◌≡◌, ◌≤◌, ◌+◌, ◌-◌, ◌++◌, ◌∷◌, [], ℕ, List, Some, None, length, drop, map, filter_map, option_map, IsTrue}
use Rattle.std.specs.Global.{Vec}
use Rattle.std.specs.List.{AllByRecursion}
use Rattle.std.proofs.Common.{◌∙◌, ap, sym, subst, arith, get_or}
use Rattle.std.proofs.lemmas.Option.{slice_get_within}
use Rattle.omf_body.specs.declared.field.Field.TheVariants.{Low}
use Rattle.omf_model.specs.declared.fixup.Fixup.{Fixup}
use Rattle.omf_model.specs.declared.fixup.Target.TheVariants.{Segment}
use Rattle.omf_model.specs.Contents.{ContentValue}
use Rattle.omf_model.specs.Rules.{has_target}
use Rattle.omf_model.specs.Modules.{ModuleValue}
use Rattle.omf_model.specs.declared.patching.Patch.{Patch}
use Rattle.omf_model.specs.Place.{part_start}
use Rattle.link80.specs.declared.reference.Reference.{Reference}
use Rattle.link80.specs.Linked.{fixup_to, linked_fixup, link_patch}
use Rattle.link80.proofs.LoopLemmas.{item_has, one_item_more, one_left_more, none_left_more}
use Rattle.link80.proofs.contents.resolve_fixups.Goals as goal
use Rattle.link80.proofs.contents.resolve_fixups.Goals.{in-Some+in_ok-push-2, in_default}

-- (where no item stands)
abbrev nothing : Fixup
nothing = record { offset = 0; field = Low; target = Segment 0 }

pub start-start-requires : goal.start-start-requires
start-start-requires c =
    omega (arith, slice_get_within c.args.tables.now c.args.number c.args.source.now c.requires.here, ap length c.tables.view_is)

pub reference-reference-requires-clause-there : goal.reference-reference-requires-clause-there
reference-reference-requires-clause-there c =
    let items = c.deref-fixup-items.ensures.value ∙ ap (λ (k : ContentValue). k.fixups) c.content.view_is in
    let has : Fixup → Type 0 = λ f. IsTrue (has_target c.args.source.now.commons (length c.args.source.now.externals) f.target) in
    item_has has c.deref-fixup-items.result.now c.loop-fixup.fixup-index nothing
    (subst (AllByRecursion has) (sym items) c.requires.movable.fixups.targets) c.loop-fixup-test.true

pub overflow_sub-fixup : goal.overflow_sub-fixup
overflow_sub-fixup c =
    let items = c.deref-fixup-items.ensures.value ∙ ap (λ (k : ContentValue). k.fixups) c.content.view_is in
    let offset : c.content.inside.offset ≡ c.args.content.now.offset = ap (λ (k : ContentValue). k.offset) c.content.view_is in
    let begins : Fixup → Type 0 = λ f. c.args.content.now.offset ≤ f.offset in
    let here = item_has begins c.deref-fixup-items.result.now c.loop-fixup.fixup-index nothing
    (subst (AllByRecursion begins) (sym items) c.requires.movable.fixups.begin) c.loop-fixup-test.true in
    omega (arith, here, offset)

pub loop-fixup-init : goal.loop-fixup-init
loop-fixup-init c = (
  ap (λ l. l ++ map (link_patch c.args.tables.now (c.args.number, c.args.source.now) c.args.content.now)
      c.args.content.now.fixups) c.new-patches.ensures.items,
  ap (λ l. l ++ filter_map
      (linked_fixup c.args.tables.now (c.args.number, c.args.source.now) c.args.content.now) c.args.content.now.fixups)
      c.new-left.ensures.items,
)

pub loop-fixup-preserved : goal.loop-fixup-preserved
loop-fixup-preserved c =
    let tables = c.args.tables.now in
    let number = c.args.number in
    let source = c.args.source.now in
    let content = c.args.content.now in
    let read = c.deref-fixup-items.result.now in
    let i = c.loop-fixup.fixup-index in
    let f : Fixup = get_or read i nothing in
    let items : read ≡ content.fixups = c.deref-fixup-items.ensures.value
    ∙ ap (λ (k : ContentValue). k.fixups) c.content.view_is in
    let offset = ap (λ (k : ContentValue). k.offset) c.content.view_is in
    let patches = c.loop-fixup.patches.items in
    let left = c.loop-fixup.left.items in
    let patch : Patch = record { at = c.from.result; field = f.field; word = c.reference-reference.result.word } in
    let at_is = c.from.ensures ∙ ap (λ (n : ℕ). f.offset - n) offset in
    let word_is = ap (λ (r : Reference). r.word) c.reference-reference.ensures in
    let patch_is : patch ≡ link_patch tables (number, source) content f =
    λ j. record { at = at_is j; field = f.field; word = word_is j } in
    let target_is = ap (λ (r : Reference). r.target) c.reference-reference.ensures in
    let start = part_start tables number content.segment in
    let start_is : c.start-start.result ≡ start = c.start-start.ensures
    ∙ ap (λ (ms : List ModuleValue). part_start ms number c.content.inside.segment) c.tables.view_is
    ∙ ap (λ (k : ContentValue). part_start tables number k.segment) c.content.view_is in
    let to = linked_fixup tables (number, source) content in (
      ap (λ (l : List Patch). l
          ++ map (link_patch tables (number, source) content) (drop (i + 1) content.fixups)) c.in_ok-push.ensures.items
          ∙ ap (λ (l : List Fixup). (patches ++ patch ∷ []) ++ map (link_patch tables (number, source) content) (drop (i + 1) l))
          (sym items)
          ∙ one_item_more (link_patch tables (number, source) content) read i nothing patches patch c.loop-fixup-test.true
          patch_is
          ∙ ap (λ (l : List Fixup). patches ++ map (link_patch tables (number, source) content) (drop i l)) items
          ∙ c.loop-fixup.invariant.0,
      elim c.match-reference.branch [
        | in-Some+in_ok-push-2 w ↦
            let fixup : Fixup = record { offset = f.offset + c.start-start.result; field = f.field; target = w.in-Some.target } in
            let is : to f ≡ Some fixup =
            ap (option_map (fixup_to start f)) (sym target_is ∙ w.in-Some.is)
            ∙ ap (λ (n : ℕ). Some (record { offset = f.offset + n; field = f.field; target = w.in-Some.target }))
            (sym start_is) in
            ap (λ (v : Vec Fixup). v.items ++ filter_map to (drop (i + 1) content.fixups)) w.left-is
            ∙ ap (λ (l : List Fixup). l ++ filter_map to (drop (i + 1) content.fixups)) w.in_ok-push-2.ensures.items
            ∙ ap (λ (l : List Fixup). (left ++ fixup ∷ []) ++ filter_map to (drop (i + 1) l)) (sym items)
            ∙ one_left_more to read i nothing left fixup c.loop-fixup-test.true is
            ∙ ap (λ (l : List Fixup). left ++ filter_map to (drop i l)) items
            ∙ c.loop-fixup.invariant.1
        | in_default w ↦
            let none : to f ≡ None = ap (option_map (fixup_to start f)) (sym target_is ∙ w.in_default.is) in
            ap (λ (v : Vec Fixup). v.items ++ filter_map to (drop (i + 1) content.fixups)) w.left-is
            ∙ ap (λ (l : List Fixup). left ++ filter_map to (drop (i + 1) l)) (sym items)
            ∙ none_left_more to read i nothing left c.loop-fixup-test.true none
            ∙ ap (λ (l : List Fixup). left ++ filter_map to (drop i l)) items
            ∙ c.loop-fixup.invariant.1
      ],
    )
