-- the cases so far
use Rattle.std.specs.Prelude.{◌≡◌, map, take}
use Rattle.plm80_regions.specs.CaseTexts.{AreCaseTexts}
use Rattle.plm80_regions.proofs.case_texts.written_cases.Given as goal

abbrev pub invariant-loop-value : goal.invariant-loop-value
invariant-loop-value g l = record {
  cases : AreCaseTexts (map (λ value. value.now) (take l.value-index l.values)) l.cases.items;
  unchanged : g.C.Console.journal l.console ≡ g.C.Console.journal l.fn.console;
}
