use Rattle.omf_module.proofs.FileLemmas.{modules_push, module_further}
use Rattle.omf_module.proofs.StayLemmas.{of_stay, begun_stays, begun_inside, begun_faults}
use Rattle.omf_module.proofs.FileFeedLemmas.{module_stays, modules_stay, reads_module_stays}
use Rattle.omf_module.proofs.WrittenModule.{modules_spelled}
use Rattle.omf_module.proofs.laws.modules_stay.Goals as goal

pub returns-clause-stay : goal.returns-clause-stay
returns-clause-stay c =
    let s = of_stay c.records_stay.ensures c.other_faults_stay.ensures in
    record { whole = module_stays s; all = modules_stay s; begun = begun_stays s; reads = reads_module_stays s }

pub returns-clause-stand : goal.returns-clause-stand
returns-clause-stand c = record {
  further = module_further;
  grow = modules_push;
  inside = begun_inside;
  faults = begun_faults;
  spelled = modules_spelled;
}
