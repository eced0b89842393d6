use Rattle.std.proofs.Common.{◌≡◌, ◌∷◌, ◌+◌, ◌≤◌, [], ◌==◌, ◌∙◌, ap, length, sym, arith}
use Rattle.std.proofs.lemmas.Bool.{true≢false}
use Rattle.std.specs.Prelude.{Some}
use Rattle.std.proofs.lemmas.Bool.Decides.{Decides-eqb}
use Rattle.std.proofs.lemmas.Slice.Eq.{strip_prefix_is}
use Rattle.board80.proofs.ReadLemmas.{range_numbers}
use Rattle.board80.proofs.read_line.read_range.Goals as goal

pub returns-then-not-is_empty-clause-none : goal.returns-then-not-is_empty-clause-none
returns-then-not-is_empty-clause-none c = λ range inside some same.
    let numbers = range_numbers c.args.text.now c.in_ok-first.after.now c.in_ok-behind.behind.now c.in_ok-length.rest.now c.in_ok-first.first c.in_ok-length.length range
    c.in_ok-first.ensures.found c.in_ok-first.ensures.word (strip_prefix_is Decides-eqb c.in_ok-first.after.now (32 ∷ []) (Some c.in_ok-behind.behind) c.in_ok-behind.ensures.cases)
    c.in_ok-length.ensures.found c.in_ok-length.ensures.word inside same in
    true≢false (sym (c.is_empty.ensures ∙ ap (λ r. length r == 0) numbers.1.1) ∙ c.if-not-is_empty.true)

pub returns-then-length-eq0-clause-none : goal.returns-then-length-eq0-clause-none
returns-then-length-eq0-clause-none c = λ range inside some same.
    let numbers = range_numbers c.args.text.now c.in_ok-first.after.now c.in_ok-behind.behind.now c.in_ok-length.rest.now c.in_ok-first.first c.in_ok-length.length range
    c.in_ok-first.ensures.found c.in_ok-first.ensures.word (strip_prefix_is Decides-eqb c.in_ok-first.after.now (32 ∷ []) (Some c.in_ok-behind.behind) c.in_ok-behind.ensures.cases)
    c.in_ok-length.ensures.found c.in_ok-length.ensures.word inside same in
    let same_length : c.in_ok-length.length ≡ range.length = numbers.1.0 in omega arith

pub returns-then-from-gt65536-clause-none : goal.returns-then-from-gt65536-clause-none
returns-then-from-gt65536-clause-none c = λ range inside some same.
    let numbers = range_numbers c.args.text.now c.in_ok-first.after.now c.in_ok-behind.behind.now c.in_ok-length.rest.now c.in_ok-first.first c.in_ok-length.length range
    c.in_ok-first.ensures.found c.in_ok-first.ensures.word (strip_prefix_is Decides-eqb c.in_ok-first.after.now (32 ∷ []) (Some c.in_ok-behind.behind) c.in_ok-behind.ensures.cases)
    c.in_ok-length.ensures.found c.in_ok-length.ensures.word inside same in
    let same_first : c.in_ok-first.first ≡ range.first = numbers.0 in
    let same_length : c.in_ok-length.length ≡ range.length = numbers.1.0 in
    let within : range.first + range.length ≤ 65536 = inside.end in
    omega arith
