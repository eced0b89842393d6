use Rattle.omf_library.proofs.FeedLemmas.{header_cut}
use Rattle.omf_library.proofs.UnfinishedLemmas.{faults_in_modules, faults_in_index}
use Rattle.omf_library.proofs.unfinished.UnfinishedLibrary.fault_at_end.Goals as goal

pub returns-in-Header-clause-fault : goal.returns-in-Header-clause-fault
returns-in-Header-clause-fault c =
    header_cut c.args.bytes.now c.fault_where_cut.result (rw c.in-Header.is at c.requires.waits) c.fault_where_cut.ensures

pub returns-in-Modules-clause-fault : goal.returns-in-Modules-clause-fault
returns-in-Modules-clause-fault c =
    faults_in_modules c.modules_stay.ensures.stand c.args.bytes.now _ c.args.self.now.modules.items c.args.self.now.next c.fault_in_modules.result
    (rw c.in-Modules.is at c.requires.reads) (rw c.in-Modules.is at c.requires.waits)
    c.fault_in_modules.ensures.between c.fault_in_modules.ensures.inside

pub returns-in-Index-clause-fault : goal.returns-in-Index-clause-fault
returns-in-Index-clause-fault c =
    faults_in_index c.args.bytes.now _ c.in-Index.at c.args.self.now.modules.items c.fault_where_cut-in-Index.result
    (rw c.in-Index.is at c.requires.reads) (rw c.in-Index.is at c.requires.waits)
    c.fault_where_cut-in-Index.ensures
