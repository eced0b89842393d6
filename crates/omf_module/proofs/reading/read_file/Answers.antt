use Rattle.std.proofs.Common.{◌≡◌, ℕ, ◌++◌, List, Some, None, Err, sym, subst, ap, ◌∙◌}
use Rattle.omf_module.specs.Spelled.{SpellsFile, FaultsFile}
use Rattle.omf_module.specs.Reading.{OrNoMemory}
use Rattle.omf_module.specs.FileFeed.{FileFeedValue}
use Rattle.omf_module.proofs.AnswerLemmas.{answered, refused_by}
use Rattle.omf_module.proofs.FileFeedLemmas.{kept_answer}
use Rattle.omf_module.proofs.reading.read_file.Goals as goal

pub returns-in-Ok-clause-every_file : goal.returns-in-Ok-clause-every_file
returns-in-Ok-clause-every_file c = λ ms s.
    let taken = c.in-Ok.ensures.taken in
    let whole : c.piece.new.self.bytes ≡ c.args.bytes.now = ap (λ (v : FileFeedValue). v.bytes) taken
    ∙ ap (λ (v : FileFeedValue). v.bytes ++ c.args.bytes.now) c.new-feed.ensures in
    c.finish.ensures.every_file (ap (λ (v : FileFeedValue). v.kept) taken) ms
    (subst (λ (b : List ℕ). SpellsFile b ms) (sym whole) s)

pub returns-in-Err-clause-fault : goal.returns-in-Err-clause-fault
returns-in-Err-clause-fault c =
    let taken = c.new-feed.result.bytes ++ c.args.bytes.now in
    let whole : taken ≡ c.args.bytes.now = ap (λ (v : FileFeedValue). v.bytes ++ c.args.bytes.now) c.new-feed.ensures in
    let none : c.new-feed.result.kept ≡ None = ap (λ (v : FileFeedValue). v.kept) c.new-feed.ensures in
    subst (λ (b : List ℕ). OrNoMemory (FaultsFile b) c.in-Err.fault) whole
    (kept_answer taken (λ fault. c.piece.new.self ≡ record { bytes = c.new-feed.result.bytes; kept = Some fault }) c.in-Err.fault
    (c.in-Err.ensures.fault none))

pub returns-in-Err-clause-every_file : goal.returns-in-Err-clause-every_file
returns-in-Err-clause-every_file c = λ ms s.
    answered (FaultsFile c.args.bytes.now) (Err c.in-Err.fault) (returns-in-Err-clause-fault c)
    (λ f x. c.one_file_reading.ensures.never_both c.args.bytes.now ms f s x)

pub returns-in-Err-clause-every_fault : goal.returns-in-Err-clause-every_fault
returns-in-Err-clause-every_fault c = λ fault x.
    refused_by c.one_file_reading.ensures.fault c.args.bytes.now c.in-Err.fault fault (returns-in-Err-clause-fault c) x
