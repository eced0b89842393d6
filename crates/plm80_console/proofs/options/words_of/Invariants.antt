-- the words so far
use Rattle.std.specs.Prelude.{◌≡◌, map, take, All}
use Rattle.plm80_console.specs.NumberText.{IsWordText, word_value}
use Rattle.plm80_console.proofs.options.words_of.Given as goal

abbrev pub invariant-loop-value : goal.invariant-loop-value
invariant-loop-value g l = record {
  words : l.words.items ≡ map (λ value. word_value value.now) (take l.value-index l.values);
  written : All (λ value. IsWordText value.now) (take l.value-index l.values);
  unchanged : g.C.Console.journal l.console ≡ g.C.Console.journal l.fn.console;
}
