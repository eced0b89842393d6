use Rattle.std.specs.Prelude.{◌≡◌, ◌++◌, ◌∷◌, [], ◌<◌, All, List}
use Rattle.std.proofs.Common.{subst, sym, ◌∙◌, ap, arith}
use Rattle.std.proofs.lemmas.List.Elements.{All-from_recursion}
use Rattle.image80.specs.declared.range.Range.{Range}
use Rattle.image80.specs.Range.{IsInMemory}
use Rattle.image80.specs.Regions.{AreDisjoint}
use Rattle.place80.specs.Locating.{located_code, located_stack}
use Rattle.place80.specs.Restart.{restart_range}
use Rattle.place80.proofs.LocatedDisjoint.{HasWord, code_not_empty, data_not_empty, code_in_memory, data_in_memory, stack_in_memory}
use Rattle.place80.proofs.RestartLemmas.{all_with, disjoint_with_restart}
use Rattle.place80.proofs.restarting.regions_with_restart.Goals as goal

pub from_disjoint-requires-clause-code_filled : goal.from_disjoint-requires-clause-code_filled
from_disjoint-requires-clause-code_filled c =
    let code : c.push.new.self.items ≡ located_code c.args.segments.now ++ restart_range ∷ [] =
    c.in_ok-push.ensures.items ∙ ap (λ (l : List Range). l ++ restart_range ∷ []) c.in_ok-code.ensures in
    subst (λ (l : List Range). All (λ range. 0 < range.length) l) (sym code)
    (all_with (λ range. 0 < range.length) (located_code c.args.segments.now) restart_range (code_not_empty c.args.segments.now) (omega arith))

pub from_disjoint-requires-clause-data_filled : goal.from_disjoint-requires-clause-data_filled
from_disjoint-requires-clause-data_filled c =
    subst (λ (l : List Range). All (λ range. 0 < range.length) l) (sym c.in_ok-data_ranges.ensures)
    (data_not_empty c.args.segments.now)

pub from_disjoint-requires-clause-code_in_memory : goal.from_disjoint-requires-clause-code_in_memory
from_disjoint-requires-clause-code_in_memory c =
    let code : c.push.new.self.items ≡ located_code c.args.segments.now ++ restart_range ∷ [] =
    c.in_ok-push.ensures.items ∙ ap (λ (l : List Range). l ++ restart_range ∷ []) c.in_ok-code.ensures in
    subst (λ (l : List Range). All IsInMemory l) (sym code)
    (all_with IsInMemory (located_code c.args.segments.now) restart_range
    (code_in_memory c.args.segments.now c.requires.fit.ends (All-from_recursion HasWord c.args.segments.now c.requires.fit.words))
    (record { first = omega arith; length = omega arith; «end» = omega arith }))

pub from_disjoint-requires-clause-stack_in_memory : goal.from_disjoint-requires-clause-stack_in_memory
from_disjoint-requires-clause-stack_in_memory c =
    subst (λ (r : Range). IsInMemory r) (sym c.stack_range-stack.ensures)
    (stack_in_memory c.args.segments.now c.requires.fit.ends (All-from_recursion HasWord c.args.segments.now c.requires.fit.words))

pub from_disjoint-requires-clause-data_in_memory : goal.from_disjoint-requires-clause-data_in_memory
from_disjoint-requires-clause-data_in_memory c =
    subst (λ (l : List Range). All IsInMemory l) (sym c.in_ok-data_ranges.ensures)
    (data_in_memory c.args.segments.now c.requires.fit.ends (All-from_recursion HasWord c.args.segments.now c.requires.fit.words))

pub from_disjoint-requires-clause-disjoint : goal.from_disjoint-requires-clause-disjoint
from_disjoint-requires-clause-disjoint c =
    let code : c.push.new.self.items ≡ located_code c.args.segments.now ++ restart_range ∷ [] =
    c.in_ok-push.ensures.items ∙ ap (λ (l : List Range). l ++ restart_range ∷ []) c.in_ok-code.ensures in
    let same = ap (λ (l : List Range). l ++ c.stack_range-stack.result ∷ c.in_ok-data_ranges.data_ranges.items) code
    ∙ ap (λ (r : Range). (located_code c.args.segments.now ++ restart_range ∷ []) ++ r ∷ c.in_ok-data_ranges.data_ranges.items) c.stack_range-stack.ensures
    ∙ ap (λ (l : List Range). (located_code c.args.segments.now ++ restart_range ∷ []) ++ located_stack c.args.segments.now ∷ l) c.in_ok-data_ranges.ensures in
    subst (λ (l : List Range). AreDisjoint l) (sym same) (disjoint_with_restart c.args.segments.now c.requires.fit.ends c.requires.fit.apart c.requires.apart)
