use Rattle.std.proofs.lemmas.List.Elements.{All-drop, All-take}
use Rattle.image80_source.specs.Placed.{IsShort}
use Rattle.image80_source.proofs.RestLemmas.{lines_end, lines_next}
use Rattle.image80_source.proofs.text.append_lines.Goals as goal

pub loop-rest-preserved : goal.loop-rest-preserved
loop-rest-preserved c = record {
  text = lines_next c.args.labels.now c.loop-rest.behind c.loop-rest.rest.now _ c.loop-rest.out.items c.append_origin.new.out.items c.append_line.new.out.items _ _ _
      c.in-len1-up.len_at_least c.loop-rest.invariant.text c.in_ok-append_origin.ensures c.in_ok-append_line.ensures c.from.ensures c.size_of.ensures;
  short = All-take IsShort _ _ (All-drop IsShort 1 c.loop-rest.rest.now c.loop-rest.invariant.short);
}

pub returns : goal.returns
returns c = lines_end c.args.labels.now c.loop-rest.behind c.loop-rest.rest.now c.loop-rest.out.items _ c.in_default.len_below c.loop-rest.invariant.text
