use Rattle.std.specs.Prelude.{Bool, false, if◌then◌else◌}
use Rattle.std.proofs.Common.{◌∙◌, ap, sym, subst}
use Rattle.rom80_find.specs.Dump.{DumpValue, dump_of}
use Rattle.rom80_find.specs.Prints.{PrintsModule}
use Rattle.rom80_find.proofs.FindingLemmas.{modules_more}
use Rattle.rom80_find.proofs.lines.modules.append_modules.Goals as goal
use Rattle.rom80_find.proofs.lines.modules.append_modules.Goals.{then-branch, else-branch}

pub loop-source-preserved : goal.loop-source-preserved
loop-source-preserved c =
    modules_more (dump_of c.args.dump) c.args.modules.now c.loop-source.source-index c.source-item.result c.loop-source.are_there
    c.in_ok-append_module.field-0 c.if-branch.are_there c.args.text.now.items c.loop-source.text.items c.append_module.new.text.items
    c.loop-source-test.true c.source-item.is c.loop-source.invariant
    (subst (λ (d : DumpValue). PrintsModule d c.source-item.result c.in_ok-append_module.field-0 c.loop-source.text.items c.append_module.new.text.items)
    c.in_ok-dump.ensures c.in_ok-append_module.ensures)
    (elim c.if-branch.branch [
      | then-branch w ↦ w.are_there-is ∙ sym (ap (λ (b : Bool). if b then false else c.loop-source.are_there) w.if-branch.true)
      | else-branch w ↦ w.are_there-is ∙ sym (ap (λ (b : Bool). if b then false else c.loop-source.are_there) w.if-branch.false)
    ])
