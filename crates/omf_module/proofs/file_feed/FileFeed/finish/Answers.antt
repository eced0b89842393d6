use Rattle.std.proofs.Common.{ℕ, List, ◌≡◌, sym, ap, subst, ◌∙◌}
use Rattle.omf_module.specs.Spelled.{SpellsFile, FaultsFile}
use Rattle.omf_module.specs.FileFeed.{FileFeedValue}
use Rattle.omf_module.proofs.AnswerLemmas.{answered}
use Rattle.omf_module.proofs.file_feed.FileFeed.finish.Goals as goal

pub returns-clause-every_file : goal.returns-clause-every_file
returns-clause-every_file c = λ none ms s.
    let same : c.deref.result.now ≡ c.args.self.bytes = c.deref.ensures.value
    ∙ ap (λ (v : FileFeedValue). v.bytes) c.self.view_is in
    let spelled = subst (λ (b : List ℕ). SpellsFile b ms) (sym same) s in
    answered (FaultsFile c.deref.result.now) c.modules_of.result c.modules_of.ensures.fault
    (λ f x. c.one_file_reading.ensures.never_both c.deref.result.now ms f spelled x)
