use Rattle.std.proofs.Common.{rules, ◌≡◌, ◌+◌, ◌-◌, ◌≤◌, ◌++◌, ◌∙◌, [], ◌∷◌, List, arith, length, subst, sym}
use Rattle.std.specs.Prelude.{All}
use Rattle.image80_source.specs.declared.line.Line.{Line}
use Rattle.image80_source.specs.Lines.{bytes_of, IsFound}
use Rattle.image80_source.specs.Placed.{IsShort}
use Rattle.image80_source.proofs.PlaceLemmas.{line_within, lines_step, marked_none, one_more, skip_step}
use Rattle.image80_source.proofs.lines.lines_of.Goals as goal

pub loop-at-preserved-then-is_marked : goal.loop-at-preserved-then-is_marked
loop-at-preserved-then-is_marked c =
    let line : Line = c.line_at-line.result in
    let made : c.push.new.self.items ≡ c.loop-at.lines.items ++ line ∷ [] = search rules in
    let within : c.loop-at.at + length (bytes_of line.content) ≤ 65536 =
    line_within c.args.contents.covered.now c.args.contents.memory.now c.loop-at.at (bytes_of line.content) c.requires.marks c.line_at-line.ensures.some c.line_at-line.ensures.marked in
    record {
      bytes = lines_step c.args.contents.covered.now c.args.contents.memory.now c.loop-at.lines.items c.push.new.self.items line c.loop-at.at c.size_of-at.result _
          c.line_at-line.ensures.at c.line_at-line.ensures.marked c.size_of-at.ensures (omega (arith, within, c.size_of-at.ensures)) made c.loop-at.invariant.bytes;
      found = subst (λ (l : List Line). All (IsFound c.args.contents.table.now) l) (sym made) (one_more (IsFound c.args.contents.table.now) c.loop-at.lines.items line c.loop-at.invariant.found c.line_at-line.ensures.found);
      short = subst (λ (l : List Line). All IsShort l) (sym made) (one_more IsShort c.loop-at.lines.items line c.loop-at.invariant.short (omega (arith, within)));
      inside = omega (arith, within, c.size_of-at.ensures);
    }

pub loop-at-preserved : goal.loop-at-preserved
loop-at-preserved c = record {
  bytes = skip_step c.args.contents.covered.now c.args.contents.memory.now c.loop-at.lines.items c.loop-at.at _ (omega arith) (sym c.is_marked.ensures ∙ c.if-is_marked.false) c.loop-at.invariant.bytes;
  found = c.loop-at.invariant.found;
  short = c.loop-at.invariant.short;
  inside = omega arith;
}

pub returns-clause-bytes : goal.returns-clause-bytes
returns-clause-bytes c =
    marked_none c.args.contents.covered.now c.args.contents.memory.now c.loop-at.at (65536 - c.loop-at.at) _ _ (omega arith) c.loop-at.invariant.bytes
