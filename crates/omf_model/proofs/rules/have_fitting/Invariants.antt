-- what is left passes as all does
use Rattle.std.proofs.Common.{◌≡◌, drop}
use Rattle.std.specs.List.{list_all}
use Rattle.omf_model.specs.Rules.{has_fitting}
use Rattle.omf_model.proofs.rules.have_fitting.Given as goal

abbrev pub invariant-loop-content : goal.invariant-loop-content
invariant-loop-content l = list_all (has_fitting l.commons l.externals) (drop l.content-index l.contents) ≡ list_all (has_fitting l.commons l.externals) l.contents
