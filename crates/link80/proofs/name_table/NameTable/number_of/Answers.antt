use Rattle.std.proofs.Common.{◌∙◌, ap, position, nat_eq}
use Rattle.std.specs.Cmp.Lexicographic.{pointwise}
use Rattle.link80.proofs.NumberLemmas.{position_is}
use Rattle.link80.proofs.NameTableLemmas.{position_of_key}
use Rattle.link80.proofs.name_table.NameTable.number_of.Goals as goal

pub returns-clause-number : goal.returns-clause-number
returns-clause-number c = c.get_index_of.ensures.index ∙ position_of_key c.self.inside.names.keys c.args.name.now
    ∙ ap (position (pointwise nat_eq c.args.name.now)) c.self.view_is ∙ position_is c.args.self.now c.args.name.now
