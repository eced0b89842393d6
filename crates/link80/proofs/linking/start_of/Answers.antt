use Rattle.std.specs.Prelude.{ℕ, List, [], Option, Some, slice_get}
use Rattle.std.specs.List.{cons_option}
use Rattle.std.proofs.Common.{◌∙◌, ap, sym}
use Rattle.link80.proofs.MainLemmas.{no_start, main_within, main_has_start, start_from}
use Rattle.link80.proofs.linking.start_of.Goals as goal

pub returns-in_err-number : goal.returns-in_err-number
returns-in_err-number c =
    c.from_residual.ensures
    ∙ ap (λ (l : List (ℕ × ℕ)). slice_get l 0)
    (sym (no_start c.args.tables.now 0 c.args.tables.now (sym c.requires
    ∙ ap (λ (o : Option ℕ). cons_option o []) c.in_err-number.was)))

pub get-source-requires : goal.get-source-requires
get-source-requires c = main_within c.tables.inside.joined.now c.args.tables.now c.in_ok-number.number c.tables.view_is
    (sym c.requires ∙ ap (λ (o : Option ℕ). cons_option o []) c.in_ok-number.was)

pub returns-in_err-id : goal.returns-in_err-id
returns-in_err-id c =
    absurd (main_has_start c.tables.inside.joined.now c.args.tables.now c.in_ok-number.number c.get-source.result.now
    c.tables.view_is (sym c.requires ∙ ap (λ (o : Option ℕ). cons_option o []) c.in_ok-number.was)
    c.get-source.ensures (sym c.in_err-id.ensures.value))

pub linked_offset-requires : goal.linked_offset-requires
linked_offset-requires c = main_within c.tables.inside.joined.now c.args.tables.now c.in_ok-number.number c.tables.view_is (sym c.requires
    ∙ ap (λ (o : Option ℕ). cons_option o []) c.in_ok-number.was)

pub returns : goal.returns
returns c =
    (λ j. Some (c.linked_id.ensures j, c.linked_offset.ensures j))
    ∙ sym (start_from c.tables.inside.joined.now c.args.tables.now c.in_ok-number.number c.get-source.result.now c.in_ok-id.id
    c.in_ok-id.offset c.tables.view_is
    (sym c.requires ∙ ap (λ (o : Option ℕ). cons_option o []) c.in_ok-number.was) c.get-source.ensures
    (sym c.in_ok-id.ensures.value))
