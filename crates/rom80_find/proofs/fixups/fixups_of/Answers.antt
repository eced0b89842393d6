use Rattle.std.proofs.Common.{rules, subst, List}
use Rattle.std.specs.List.Sorted.{IsPermutation}
use Rattle.std.proofs.lemmas.List.Sorted.{IsNonDecreasingBy-from_sort_by_key}
use Rattle.rom80_pattern.specs.declared.code_byte.CodeByte.{CodeByte}
use Rattle.rom80_pattern.specs.CodeBytes.{number_of}
use Rattle.rom80_find.proofs.fixups.fixups_of.Goals as goal

pub returns : goal.returns
returns c = record {
  same = subst (λ (l : List CodeByte). IsPermutation l c.sort_by_key.new.self.items) (search rules) c.in_ok-sort_by_key.ensures.permutation;
  sorted = IsNonDecreasingBy-from_sort_by_key (λ b. number_of b.target) _ c.in_ok-sort_by_key.ensures.sorted (λ a r q k. search rules);
}
