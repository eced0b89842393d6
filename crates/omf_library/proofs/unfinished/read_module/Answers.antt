use Rattle.std.proofs.Common.{◌≡◌, ℕ, List, [], Ok, None, sym, subst}
use Rattle.std.proofs.lemmas.Result.{err_from_is_err_and}
use Rattle.omf_model.specs.Modules.{ModuleValue}
use Rattle.omf_library.specs.declared.unfinished.Progress.TheVariants.{Modules}
use Rattle.omf_module.specs.declared.pieces.UnfinishedModule.{UnfinishedModule}
use Rattle.omf_module.specs.Pieces.{IsCutOff, ReadsModule}
use Rattle.omf_library.specs.LibraryFeed.{OpenLibrary}
use Rattle.omf_library.specs.Unfinished.{left_after, ReadsModules, ReadsFurther, ReadsAll}
use Rattle.omf_library.proofs.FeedLemmas.{of_stay}
use Rattle.omf_library.proofs.UnfinishedLemmas.{module_lasts, same_as, one_module_more}
use Rattle.omf_library.proofs.unfinished.read_module.Goals as goal

still_waits : (bytes : List ℕ) (said : ℕ) (ms : List ModuleValue) (old next : UnfinishedModule) → next.begin ≡ old.begin
    → ReadsModules bytes said ms old → ReadsModule bytes old.begin next.here next.commons.items → IsCutOff bytes next.here
    → ReadsAll bytes ms next (Modules said)
still_waits bytes said ms old next same r reads cut = record {
  reads = record {
    so_far = subst (λ (b : ℕ). OpenLibrary bytes said b b ms []) (sym same) r.so_far;
    next_module = subst (λ (b : ℕ). ReadsModule bytes b next.here next.commons.items) (sym same) reads;
  };
  waits = cut;
}

pub returns-in-None-clause-waits : goal.returns-in-None-clause-waits
returns-in-None-clause-waits c = λ _.
    let none : c.next_module.result ≡ Ok None = cc in
    still_waits c.args.bytes.now c.args.said c.args.modules.now.items c.args.next.now c.next_module.new.unfinished
    c.next_module.ensures.begin c.requires.reads (c.next_module.ensures.reads none) (c.next_module.ensures.cut_off none)

pub returns-in_err-next_module-clause-fault : goal.returns-in_err-next_module-clause-fault
returns-in_err-next_module-clause-fault c =
    let p = err_from_is_err_and c.from_residual.result c.from_residual.ensures.1 in
    let s = of_stay c.records_stay.ensures c.lists_stay.ensures c.modules_stay.ensures.stay c.modules_stay.ensures.stand in
    rw (p.1, p.2) (module_lasts s c.args.bytes.now c.args.said c.args.modules.now.items c.args.next.now
    c.in_err-next_module.field-0.0 c.requires.reads c.requires.header c.in_err-next_module.ensures.fault)

pub returns-in_err-push-in-Some-clause-extends : goal.returns-in_err-push-in-Some-clause-extends
returns-in_err-push-in-Some-clause-extends c =
    same_as c.args.modules.now.items c.push.new.self.items c.in_err-push-in-Some.ensures.items

pub returns-in_ok-push-in-Some-clause-further : goal.returns-in_ok-push-in-Some-clause-further
returns-in_ok-push-in-Some-clause-further c = λ _.
    let module_is = rw c.in-Some.is at c.in_ok-next_module.ensures.module in
    subst (λ (ms : List ModuleValue). ReadsFurther c.args.bytes.now
    (left_after c.args.bytes.now c.args.next.now (Modules c.args.said)) ms c.begin_at.new.next (Modules c.args.said))
    (sym c.in_ok-push-in-Some.ensures.items)
    (one_module_more c.modules_stay.ensures.stand c.args.bytes.now c.args.said c.in-Some.after c.args.modules.now.items c.in-Some.module c.args.next.now
    c.begin_at.new.next
    c.begin_at.ensures.begin c.begin_at.ensures.here c.begin_at.ensures.commons c.requires.reads module_is)
