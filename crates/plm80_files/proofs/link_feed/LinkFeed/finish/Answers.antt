use Rattle.std.proofs.Common.{◌≡◌, true, false}
use Rattle.std.proofs.lemmas.Result.{err_from_is_err_and}
use Rattle.omf_module.specs.{Fault.no_memory, Spelled.FaultsFile}
use Rattle.omf_library.specs.{Spelled.FaultsLibrary, declared.fault.LibraryFault.TheVariants.Memory}
use Rattle.plm80_files.proofs.PieceLemmas.{begun_kind, refused}
use Rattle.plm80_files.proofs.link_feed.LinkFeed.finish.Goals as goal

pub returns-in_err-finish-in-ObjectFile-clause-fault :
    goal.returns-in_err-finish-in-ObjectFile-clause-fault
returns-in_err-finish-in-ObjectFile-clause-fault c = λ text h.
    let p = err_from_is_err_and c.from_residual-in_err-finish-in-ObjectFile.result c.from_residual-in_err-finish-in-ObjectFile.ensures.1 in
    let f = c.in_err-finish-in-ObjectFile.field-0.0 in
    let taken = rw c.in-ObjectFile.is at h in
    rw (p.1, p.2) (refused FaultsFile no_memory f c.in-ObjectFile.feed.bytes text c.in-ObjectFile.feed.kept (λ g some. let e = c.in_err-finish-in-ObjectFile.ensures.kept g some in (let same : f ≡ g = cc in same)) c.in_err-finish-in-ObjectFile.ensures.fault taken.0, begun_kind false text taken.1)

pub returns-in_err-finish-in-Library-clause-fault :
    goal.returns-in_err-finish-in-Library-clause-fault
returns-in_err-finish-in-Library-clause-fault c = λ text h.
    let p = err_from_is_err_and c.from_residual-in_err-finish-in-Library.result c.from_residual-in_err-finish-in-Library.ensures.1 in
    let f = c.in_err-finish-in-Library.field-0.0 in
    let taken = rw c.in-Library.is at h in
    rw (p.1, p.2) (refused FaultsLibrary Memory f c.in-Library.feed.bytes text c.in-Library.feed.kept (λ g some. let e = c.in_err-finish-in-Library.ensures.kept g some in (let same : f ≡ g = cc in same)) c.in_err-finish-in-Library.ensures.fault taken.0, begun_kind true text taken.1)
