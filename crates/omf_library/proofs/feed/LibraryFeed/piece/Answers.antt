use Rattle.std.proofs.Common.{rules, ◌≡◌, ℕ, ◌++◌, List, length, take, sym, subst, ap, ◌∙◌}
use Rattle.std.proofs.Math.Seq.{take-append_seam}
use Rattle.omf_library.specs.LibraryFeed.{CountsModules, LastingLibraryFault, LibraryFeedValue}
use Rattle.omf_library.specs.Unfinished.{ReadsLibrary}
use Rattle.omf_library.proofs.FeedLemmas.{of_stay, reads_stay}
use Rattle.omf_library.proofs.UnfinishedLemmas.{counted}
use Rattle.omf_library.proofs.feed.LibraryFeed.piece.Goals as goal

taken_back : (bytes piece now : List ℕ) (n : ℕ) → now ≡ bytes ++ piece → n ≡ length bytes → take n now ≡ bytes
taken_back bytes piece now n grown size =
    ap (take n) grown ∙ (ap (λ (k : ℕ). take k (bytes ++ piece)) size ∙ take-append_seam bytes piece)

pub read_on-requires : goal.read_on-requires
read_on-requires c =
    let library = c.self.inside.library in
    let same : c.deref.result.now ≡ c.self.inside.bytes.items ++ c.args.piece.now = search rules in
    let s = of_stay c.records_stay.ensures c.lists_stay.ensures c.modules_stay.ensures.stay c.modules_stay.ensures.stand in
    subst (λ (b : List ℕ). ReadsLibrary b library) (sym same)
    (reads_stay s c.self.inside.bytes.items c.args.piece.now library.modules.items library.next library.progress
    c.self.invariant)

pub invariant_of-self-in-Err : goal.invariant_of-self-in-Err
invariant_of-self-in-Err c =
    let grown : c.extend_from_slice.new.self.items ≡ c.self.inside.bytes.items ++ c.args.piece.now = search rules in
    let size : c.len-taken.result ≡ length c.self.inside.bytes.items = search rules in
    let back : c.truncate.new.self.items ≡ c.self.inside.bytes.items =
    c.truncate.ensures.items
    ∙ taken_back c.self.inside.bytes.items c.args.piece.now c.extend_from_slice.new.self.items c.len-taken.result grown
    size in
    subst (λ (b : List ℕ). ReadsLibrary b c.read_on.new.self) (sym back)
    (c.in-Err.ensures.as_before c.self.inside.bytes.items c.self.invariant)

pub returns-in-Ok-clause-counted : goal.returns-in-Ok-clause-counted
returns-in-Ok-clause-counted c =
    let library = c.read_on.new.self in
    let same : c.deref.result.now ≡ c.self.inside.bytes.items ++ c.args.piece.now = search rules in
    let view : c.self.inside.bytes.items ≡ c.args.self.now.bytes = ap (λ (v : LibraryFeedValue). v.bytes) c.self.view_is in
    let all : c.len.result ≡ length library.modules.items = search rules in
    subst (λ (n : ℕ). CountsModules (c.args.self.now.bytes ++ c.args.piece.now) n) (sym all)
    (subst (λ (b : List ℕ). CountsModules b (length library.modules.items)) (same
    ∙ ap (λ (b : List ℕ). b ++ c.args.piece.now) view)
    (counted c.deref.result.now library.modules.items library.next library.progress c.in-Ok.ensures.reads c.in-Ok.ensures.waits))

pub returns-in-Ok-clause-none_lasts : goal.returns-in-Ok-clause-none_lasts
returns-in-Ok-clause-none_lasts c = λ fault lasts.
    let library = c.read_on.new.self in
    let same : c.deref.result.now ≡ c.self.inside.bytes.items ++ c.args.piece.now = search rules in
    let view : c.self.inside.bytes.items ≡ c.args.self.now.bytes = ap (λ (v : LibraryFeedValue). v.bytes) c.self.view_is in
    c.counted_have_none.ensures c.deref.result.now (length library.modules.items) fault
    (counted c.deref.result.now library.modules.items library.next library.progress c.in-Ok.ensures.reads c.in-Ok.ensures.waits)
    (subst (λ (b : List ℕ). LastingLibraryFault b fault) (sym (same ∙ ap (λ (b : List ℕ). b ++ c.args.piece.now) view)) lasts)
