use Rattle.std.proofs.Common.{◌≡◌, ℕ, List, sym, subst, ap, ◌∙◌}
use Rattle.omf_library.specs.Spelled.{SpellsLibrary}
use Rattle.omf_library.specs.LibraryFeed.{LibraryFeedValue}
use Rattle.omf_library.proofs.ReadingLemmas.{every_library}
use Rattle.omf_library.proofs.feed.LibraryFeed.finish.Goals as goal

pub returns-clause-every_library : goal.returns-clause-every_library
returns-clause-every_library c = λ none ms s.
    let same : c.deref.result.now ≡ c.args.self.bytes = c.deref.ensures.value
    ∙ ap (λ (v : LibraryFeedValue). v.bytes) c.self.view_is in
    every_library c.one_library.ensures.library c.one_library.ensures.never_both c.deref.result.now c.finish.result
    c.finish.ensures.read c.finish.ensures.fault ms
    (subst (λ (b : List ℕ). SpellsLibrary b ms) (sym same) s)
