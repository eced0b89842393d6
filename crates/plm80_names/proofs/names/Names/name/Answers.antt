use Rattle.std.proofs.Common.{List, length, ap, sym, ◌∙◌, eqb-true}
use Rattle.std.proofs.lemmas.List.{nil_from_length}
use Rattle.omf_model.specs.declared.symbols.Public.{Public}
use Rattle.image80_text.specs.NameText.{named_text}
use Rattle.plm80_names.proofs.names.Names.name.Goals as goal

pub returns-then-is_empty-clause-named : goal.returns-then-is_empty-clause-named
returns-then-is_empty-clause-named c =
    let none = nil_from_length c.self.inside.publics (eqb-true (length c.self.inside.publics) 0 (sym c.is_empty.ensures ∙ c.if-is_empty.true)) in
    sym (ap (λ (ps : List Public). named_text c.args.code.now ps c.args.word.now c.args.text.items) (sym c.self.view_is ∙ none) ∙ (c.texts_without_names_are_as_before.ensures c.args.text.items).1 c.args.code.now c.args.word.now)
