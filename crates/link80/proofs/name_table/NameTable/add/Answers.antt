use Rattle.std.proofs.Common.{◌∙◌, ap, not}
use Rattle.link80.specs.FirstSight.{is_among, with_name}
use Rattle.link80.proofs.NameTableLemmas.{names_of, among_keys, keys_with}
use Rattle.link80.proofs.name_table.NameTable.add.Goals as goal

pub returns-clause-new : goal.returns-clause-new
returns-clause-new c = c.in_ok-new.ensures.added ∙ ap not (among_keys c.self.inside.names.keys c.args.name.now)
    ∙ ap (λ names. not (is_among names c.args.name.now)) c.self.view_is

pub returns-clause-names : goal.returns-clause-names
returns-clause-names c = ap names_of c.in_ok-new.ensures.keys ∙ keys_with c.self.inside.names.keys c.args.name
    ∙ ap (λ names. with_name names c.args.name.now) c.self.view_is
