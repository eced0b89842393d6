use Rattle.std.proofs.Common.{◌≡◌, ◌<◌, ◌≤◌, ℕ, zero, suc, length, sym, rules, ◌∙◌, refl, arith, true, false}
use Rattle.std.specs.Prelude.{nat_lt, ◌-◌}
use Rattle.std.proofs.lemmas.List.Sorted.{answers_always}
use Rattle.image80.specs.declared.range.Range.{Range}
use Rattle.image80.specs.Range.{in_ranges}
use Rattle.image80.proofs.RangeLemmas.{searched, before_place, below_all}
use Rattle.image80.proofs.range.in_many_ranges.Goals as goal

zero_tests : (n : ℕ) → n ≤ 0 → nat_lt 0 n ≡ false
zero_tests zero none = refl
zero_tests (suc n) none = absurd (omega (arith, none))

pub returns-in-Ok : goal.returns-in-Ok
returns-in-Ok c =
    let facts = c.binary_search_by_key.ensures in
    let answered = searched c.args.ranges.now c.requires c.args.address _ facts.bound (facts.position (λ range. range.first) (answers_always _ _ _ (λ f a r g called. search rules))) in
    let found = rw c.in-Ok.is at answered.found in
    sym found

pub returns-then-place-gt0 : goal.returns-then-place-gt0
returns-then-place-gt0 c =
    let facts = c.binary_search_by_key.ensures in
    let answered = searched c.args.ranges.now c.requires c.args.address _ facts.bound (facts.position (λ range. range.first) (answers_always _ _ _ (λ f a r g called. search rules))) in
    let between = rw c.in-Err.is at answered.between in
    let bound : c.in-Err.place ≤ length c.args.ranges.now = rw c.in-Err.is at facts.bound in
    let some : 0 < c.in-Err.place = c.if-place-gt0.true in
    let d : Range = record { first = 0; length = 0 } in
    c.contains.ensures ∙ before_place c.args.ranges.now c.args.address (c.in-Err.place - 1) c.requires d (omega arith)
    (between.0 (c.in-Err.place - 1) d (omega arith) (omega arith))
    (λ k e inside least. between.1 k e inside (omega arith))

pub returns-else-place-gt0 : goal.returns-else-place-gt0
returns-else-place-gt0 c =
    let facts = c.binary_search_by_key.ensures in
    let answered = searched c.args.ranges.now c.requires c.args.address _ facts.bound (facts.position (λ range. range.first) (answers_always _ _ _ (λ f a r g called. search rules))) in
    let between = rw c.in-Err.is at answered.between in
    let none : in_ranges c.args.ranges.now c.args.address ≡ false =
    below_all c.args.ranges.now c.args.address (λ k d inside least. between.1 k d inside (let zero = c.if-place-gt0.false in omega (arith, zero))) in
    zero_tests c.in-Err.place c.if-place-gt0.false ∙ sym none
