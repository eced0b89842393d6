use Rattle.std.specs.Prelude.{◌++◌, ◌∷◌, ◌<◌, All, List}
use Rattle.std.proofs.Common.{subst, sym, ◌∙◌, ap}
use Rattle.std.proofs.lemmas.List.Elements.{All-from_recursion}
use Rattle.image80.specs.declared.range.Range.{Range}
use Rattle.image80.specs.Range.{IsInMemory}
use Rattle.image80.specs.Regions.{AreDisjoint}
use Rattle.place80.specs.Locating.{located_code, located_stack}
use Rattle.place80.proofs.LocatedDisjoint.{HasWord, code_not_empty, data_not_empty, code_in_memory, data_in_memory, stack_in_memory}
use Rattle.place80.proofs.LocatedApart.{disjoint_located}
use Rattle.place80.proofs.located_regions.located_regions.Goals as goal

pub code_ranges-requires : goal.code_ranges-requires
code_ranges-requires c = c.requires.words

pub stack_range-stack-requires : goal.stack_range-stack-requires
stack_range-stack-requires c = c.requires.words

pub data_ranges-requires : goal.data_ranges-requires
data_ranges-requires c = c.requires.words

pub from_disjoint-requires-clause-code_filled : goal.from_disjoint-requires-clause-code_filled
from_disjoint-requires-clause-code_filled c =
    subst (λ (l : List Range). All (λ range. 0 < range.length) l) (sym c.in_ok-code.ensures) (code_not_empty c.args.segments.now)

pub from_disjoint-requires-clause-data_filled : goal.from_disjoint-requires-clause-data_filled
from_disjoint-requires-clause-data_filled c =
    subst (λ (l : List Range). All (λ range. 0 < range.length) l) (sym c.in_ok-data_ranges.ensures)
    (data_not_empty c.args.segments.now)

pub from_disjoint-requires-clause-code_in_memory : goal.from_disjoint-requires-clause-code_in_memory
from_disjoint-requires-clause-code_in_memory c =
    subst (λ (l : List Range). All IsInMemory l) (sym c.in_ok-code.ensures)
    (code_in_memory c.args.segments.now c.requires.ends (All-from_recursion HasWord c.args.segments.now c.requires.words))

pub from_disjoint-requires-clause-stack_in_memory : goal.from_disjoint-requires-clause-stack_in_memory
from_disjoint-requires-clause-stack_in_memory c =
    subst (λ (r : Range). IsInMemory r) (sym c.stack_range-stack.ensures)
    (stack_in_memory c.args.segments.now c.requires.ends (All-from_recursion HasWord c.args.segments.now c.requires.words))

pub from_disjoint-requires-clause-data_in_memory : goal.from_disjoint-requires-clause-data_in_memory
from_disjoint-requires-clause-data_in_memory c =
    subst (λ (l : List Range). All IsInMemory l) (sym c.in_ok-data_ranges.ensures)
    (data_in_memory c.args.segments.now c.requires.ends (All-from_recursion HasWord c.args.segments.now c.requires.words))

pub from_disjoint-requires-clause-disjoint : goal.from_disjoint-requires-clause-disjoint
from_disjoint-requires-clause-disjoint c =
    let code = c.in_ok-code.ensures in
    let stack = c.stack_range-stack.ensures in
    let data_ranges = c.in_ok-data_ranges.ensures in
    let same = ap (λ (l : List Range). l ++ c.stack_range-stack.result ∷ c.in_ok-data_ranges.data_ranges.items) code
    ∙ ap (λ (r : Range). located_code c.args.segments.now ++ r ∷ c.in_ok-data_ranges.data_ranges.items) stack
    ∙ ap (λ (l : List Range). located_code c.args.segments.now ++ located_stack c.args.segments.now ∷ l) data_ranges in
    subst (λ (l : List Range). AreDisjoint l) (sym same) (disjoint_located c.args.segments.now c.requires.ends c.requires.apart)
