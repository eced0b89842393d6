-- the inputs of the words so far
use Rattle.plm80_runs.proofs.Names.{◌≡◌, All, map, take, IsGoodWord, inputs_named}
use Rattle.plm80_runs.proofs.inputs.inputs_of.Given as goal

abbrev pub invariant-loop-word : goal.invariant-loop-word
invariant-loop-word l = record {
  inputs : l.inputs ≡ inputs_named (map (λ word. word.now) (take l.word-index l.words));
  good : All IsGoodWord (map (λ word. word.now) (take l.word-index l.words));
}
