-- the lines so far, and those of the modules that are left
use Rattle.std.proofs.Common.{◌≡◌, ◌++◌, drop, map}
use Rattle.std.specs.List.{flat_map}
use Rattle.link80_text.specs.Needs.{IsChain, line_at, needers}
use Rattle.link80_text.proofs.unresolved.append_needing.Given as goal

abbrev pub invariant-loop : goal.invariant-loop
invariant-loop l = record {
  chain : IsChain l.needs.needs l.at (drop l.counter (needers l.name 0 (map (λ m. m.now) l.modules)));
  text : l.text.items ++ flat_map (line_at (map (λ m. m.now) l.modules) l.name) (drop l.counter (needers l.name 0 (map (λ m. m.now) l.modules)))
      ≡ l.initial.text.items ++ flat_map (line_at (map (λ m. m.now) l.modules) l.name) (needers l.name 0 (map (λ m. m.now) l.modules));
}
