use Rattle.std.proofs.Common.{◌++◌, ◌-◌, ◌∙◌, ap, arith, ℕ, List}
use Rattle.std.specs.Prelude.{Bool, ◌==◌, slice_index}
use Rattle.image80_source.specs.SourceText.{begins, label_equate}
use Rattle.image80_source.proofs.MarkLemmas.{mark_is}
use Rattle.image80_source.proofs.RestLemmas.{all_equates, rest_more, rest_none}
use Rattle.image80_source.proofs.text.append_equates.Goals as goal

pub loop-address-init : goal.loop-address-init
loop-address-init c = ap (λ (l : List ℕ). c.args.out.now.items ++ l) (all_equates c.args.labels.now c.args.lines.now)

pub loop-address-preserved : goal.loop-address-preserved
loop-address-preserved c =
    rest_more (λ address. label_equate c.args.labels.now (begins c.args.lines.now address) address) 65536 c.loop-address.address c.loop-address.out.items _ _
    c.loop-address-test.true c.loop-address.invariant
    (c.in_ok-append_label_equate.ensures
    ∙ ap (λ (b : Bool). c.loop-address.out.items ++ label_equate c.args.labels.now b c.loop-address.address)
    (c.is_marked-is_begun.ensures ∙ ap (λ (l : List ℕ). slice_index l c.loop-address.address == 1) c.deref.ensures.value
    ∙ mark_is (begins c.args.lines.now) c.in_ok-begun.begun.items c.loop-address.address c.in_ok-begun.ensures))

pub returns : goal.returns
returns c =
    rest_none (λ address. label_equate c.args.labels.now (begins c.args.lines.now address) address) c.loop-address.address (65536 - c.loop-address.address)
    c.loop-address.out.items _ (omega (arith, c.loop-address-test.false)) c.loop-address.invariant
