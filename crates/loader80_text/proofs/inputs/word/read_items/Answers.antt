use Rattle.std.proofs.Common.{◌≡◌, List, ◌++◌, sym, subst, ◌∙◌}
use Rattle.std.specs.Prelude.{All, IfSome}
use Rattle.std.specs.Option.{option_map}
use Rattle.std.proofs.lemmas.List.Elements.{All-push}
use Rattle.loader80_text.specs.declared.inputs.repeated.Repeated.{Repeated}
use Rattle.loader80_text.specs.Text.{IsRepeated}
use Rattle.loader80_text.specs.Words.{items_of}
use Rattle.loader80_text.proofs.WordLemmas.{one_more}
use Rattle.loader80_text.proofs.inputs.word.read_items.Goals as goal

pub loop-item-preserved : goal.loop-item-preserved
loop-item-preserved c = record {
  read = subst (λ (is : List Repeated). option_map (λ later. is ++ later) (items_of c.args.port c.in-Some.others.now) ≡ items_of c.args.port c.args.items.now)
      (sym c.in_ok-push.ensures.items)
      (one_more c.args.port c.loop-item.inputs.items c.in-Some-2.input c.args.items.now c.loop-item.rest.now c.in-Some.item.now c.in-Some.others.now
      c.in-Some.ensures.found (sym c.in-Some-2.is ∙ c.in_ok-input.ensures.read) c.loop-item.invariant.read);
  repeated = subst (All IsRepeated) (sym c.in_ok-push.ensures.items)
      (All-push IsRepeated c.loop-item.inputs.items c.in-Some-2.input c.loop-item.invariant.repeated
      (subst (λ read. IfSome read IsRepeated) c.in-Some-2.is c.in_ok-input.ensures.repeated));
}
