use Rattle.std.proofs.Common.{ℕ, List, Err, refl, sym, subst}
use Rattle.std.specs.Prelude.{IfOk, IfErr}
use Rattle.std.proofs.lemmas.Result.{err_from_is_err_and}
use Rattle.omf_library.specs.Fault.{OrNoMemory}
use Rattle.omf_library.specs.Spelled.{SpellsLibrary, FaultsLibrary}
use Rattle.omf_library.proofs.FeedLemmas.{first_piece_fault, one_piece}
use Rattle.omf_library.proofs.ReadingLemmas.{every_library, every_fault}
use Rattle.omf_library.proofs.reading.read_library.Goals as goal

pub returns-in_err-piece-clause-every_library : goal.returns-in_err-piece-clause-every_library
returns-in_err-piece-clause-every_library c =
    let bytes = c.args.bytes.now in
    let f = c.in_err-piece.field-0.0 in
    let p = err_from_is_err_and c.from_residual.result c.from_residual.ensures.1 in
    let x = first_piece_fault c.new-feed.result bytes f c.new-feed.ensures
    (λ none real. (c.in_err-piece.ensures.fault f none real refl).0) in
    rw (p.1, p.2) (every_library c.one_library.ensures.library c.one_library.ensures.never_both bytes (Err f) tt x)

pub returns-in_err-piece-clause-fault : goal.returns-in_err-piece-clause-fault
returns-in_err-piece-clause-fault c =
    let f = c.in_err-piece.field-0.0 in
    let p = err_from_is_err_and c.from_residual.result c.from_residual.ensures.1 in
    rw (p.1, p.2) (first_piece_fault c.new-feed.result c.args.bytes.now f c.new-feed.ensures
    (λ none real. (c.in_err-piece.ensures.fault f none real refl).0))

pub returns-in_err-piece-clause-every_fault : goal.returns-in_err-piece-clause-every_fault
returns-in_err-piece-clause-every_fault c =
    let bytes = c.args.bytes.now in
    let f = c.in_err-piece.field-0.0 in
    let p = err_from_is_err_and c.from_residual.result c.from_residual.ensures.1 in
    let x = first_piece_fault c.new-feed.result bytes f c.new-feed.ensures
    (λ none real. (c.in_err-piece.ensures.fault f none real refl).0) in
    rw (p.1, p.2) (λ g. every_fault c.one_library.ensures.fault bytes f g x)

pub returns-clause-read : goal.returns-clause-read
returns-clause-read c =
    let has = one_piece c.new-feed.result c.piece.new.self c.args.bytes.now c.new-feed.ensures c.in_ok-piece.ensures.taken in
    subst (λ (b : List ℕ). IfOk c.finish.result (SpellsLibrary b)) has.1 c.finish.ensures.read

pub returns-clause-every_library : goal.returns-clause-every_library
returns-clause-every_library c = λ ms s.
    let has = one_piece c.new-feed.result c.piece.new.self c.args.bytes.now c.new-feed.ensures c.in_ok-piece.ensures.taken in
    c.finish.ensures.every_library has.0 ms (subst (λ (b : List ℕ). SpellsLibrary b ms) (sym has.1) s)

pub returns-clause-fault : goal.returns-clause-fault
returns-clause-fault c =
    let has = one_piece c.new-feed.result c.piece.new.self c.args.bytes.now c.new-feed.ensures c.in_ok-piece.ensures.taken in
    subst (λ (b : List ℕ). IfErr c.finish.result (OrNoMemory (FaultsLibrary b))) has.1 (c.finish.ensures.fault has.0)

pub returns-clause-every_fault : goal.returns-clause-every_fault
returns-clause-every_fault c = λ fault x.
    let has = one_piece c.new-feed.result c.piece.new.self c.args.bytes.now c.new-feed.ensures c.in_ok-piece.ensures.taken in
    c.finish.ensures.every_fault has.0 fault (subst (λ (b : List ℕ). FaultsLibrary b fault) (sym has.1) x)
