use Rattle.std.proofs.Common.{List, length, ap, sym, ◌∙◌, eqb-true}
use Rattle.std.proofs.lemmas.List.{nil_from_length}
use Rattle.omf_model.specs.declared.symbols.Public.{Public}
use Rattle.image80_text.specs.NameText.{labelled_text}
use Rattle.plm80_names.proofs.names.Names.label.Goals as goal

pub returns-then-is_empty-clause-labelled : goal.returns-then-is_empty-clause-labelled
returns-then-is_empty-clause-labelled c =
    let none = nil_from_length c.self.inside.publics (eqb-true (length c.self.inside.publics) 0 (sym c.is_empty.ensures ∙ c.if-is_empty.true)) in
    sym (ap (λ (ps : List Public). labelled_text ps c.args.numbered c.args.text.items) (sym c.self.view_is ∙ none) ∙ (c.texts_without_names_are_as_before.ensures c.args.text.items).0 c.args.numbered)
