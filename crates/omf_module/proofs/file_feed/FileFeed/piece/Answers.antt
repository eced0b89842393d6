use Rattle.std.proofs.Common.{rules, ◌≡◌, ℕ, ◌++◌, List, sym, subst}
use Rattle.omf_module.specs.FileFeed.{ReadsFile}
use Rattle.omf_module.proofs.StayLemmas.{of_stay}
use Rattle.omf_module.proofs.FileFeedLemmas.{reads_stay}
use Rattle.omf_module.proofs.file_feed.FileFeed.piece.Goals as goal

pub read_on-requires : goal.read_on-requires
read_on-requires c =
    let feed = c.self.inside in
    let same : c.deref.result.now ≡ feed.bytes.items ++ c.args.piece.now = search rules in
    subst (λ (b : List ℕ). ReadsFile b feed.read) (sym same)
    (reads_stay (of_stay c.records_stay.ensures c.other_faults_stay.ensures) feed.bytes.items c.args.piece.now feed.read
    c.self.invariant)
