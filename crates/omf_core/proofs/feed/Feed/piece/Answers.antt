use Rattle.std.proofs.Common.{rules, ◌≡◌, ℕ, ◌++◌, List, length, take, sym, subst, ap, ◌∙◌, refl}
use Rattle.std.proofs.Math.Seq.{take-append_seam}
use Rattle.omf_core.specs.Feed.{CountsRecords, LastingRecordFault, ReadsUpTo, FeedValue}
use Rattle.omf_core.proofs.FeedLemmas.{reads_stay}
use Rattle.omf_core.proofs.feed.Feed.piece.Goals as goal

taken_back : (bytes piece now : List ℕ) (n : ℕ) → now ≡ bytes ++ piece → n ≡ length bytes → take n now ≡ bytes
taken_back bytes piece now n grown size =
    ap (take n) grown ∙ (ap (λ (k : ℕ). take k (bytes ++ piece)) size ∙ take-append_seam bytes piece)

pub read_on-requires : goal.read_on-requires
read_on-requires c =
    let same : c.deref.result.now ≡ c.self.inside.bytes.items ++ c.args.piece.now = search rules in
    subst (λ (b : List ℕ). ReadsUpTo b c.self.inside.read.at c.self.inside.read.count c.self.inside.read.ended) (sym same)
    (reads_stay c.self.inside.bytes.items c.args.piece.now c.self.inside.read.at c.self.inside.read.count c.self.inside.read.ended c.self.invariant)

pub returns-in-Ok-clause-counted : goal.returns-in-Ok-clause-counted
returns-in-Ok-clause-counted c =
    let same : c.deref.result.now ≡ c.self.inside.bytes.items ++ c.args.piece.now = search rules in
    let view : c.self.inside.bytes.items ≡ c.args.self.now.bytes = ap (λ (v : FeedValue). v.bytes) c.self.view_is in
    subst (λ (b : List ℕ). CountsRecords b c.in-Ok.read.count) (same ∙ ap (λ (b : List ℕ). b ++ c.args.piece.now) view) c.in-Ok.ensures.counted

pub returns-in-Ok-clause-none_lasts : goal.returns-in-Ok-clause-none_lasts
returns-in-Ok-clause-none_lasts c = λ fault lasts.
    let same : c.deref.result.now ≡ c.self.inside.bytes.items ++ c.args.piece.now = search rules in
    let view : c.self.inside.bytes.items ≡ c.args.self.now.bytes = ap (λ (v : FeedValue). v.bytes) c.self.view_is in
    c.in-Ok.ensures.none_lasts fault (subst (λ (b : List ℕ). LastingRecordFault b fault) (sym (same ∙ ap (λ (b : List ℕ). b ++ c.args.piece.now) view)) lasts)

pub returns-in-Err-clause-fault : goal.returns-in-Err-clause-fault
returns-in-Err-clause-fault c = λ fault none is.
    let same : c.deref.result.now ≡ c.self.inside.bytes.items ++ c.args.piece.now = search rules in
    let view : c.self.inside.bytes.items ≡ c.args.self.now.bytes = ap (λ (v : FeedValue). v.bytes) c.self.view_is in
    let named : c.in-Err.fault ≡ fault = cc in
    let grown : c.extend_from_slice.new.self.items ≡ c.self.inside.bytes.items ++ c.args.piece.now = search rules in
    let size : c.len-taken.result ≡ length c.self.inside.bytes.items = search rules in
    let back : c.truncate.new.self.items ≡ c.args.self.now.bytes =
    c.truncate.ensures.items ∙ (taken_back c.self.inside.bytes.items c.args.piece.now c.extend_from_slice.new.self.items c.len-taken.result grown size ∙ view) in (
      subst (λ f. LastingRecordFault (c.args.self.now.bytes ++ c.args.piece.now) f) named
          (subst (λ (b : List ℕ). LastingRecordFault b c.in-Err.fault) (same ∙ ap (λ (b : List ℕ). b ++ c.args.piece.now) view) c.in-Err.ensures.fault),
      rw (back, named) refl,
    )
