use Rattle.std.proofs.Common.{◌≡◌, ◌≢◌, ◌+◌, ◌<◌, ◌++◌, ◌∙◌, ap, arith, refl, subst, sym, true, List, [], length, take, drop, ℕ, slice_index_or}
use Rattle.std.proofs.lemmas.Bool.{eqb-true}
use Rattle.std.proofs.lemmas.List.{append_assoc, length-drop}
use Rattle.std.specs.List.{AllByRecursion}
use Rattle.rom80_pattern.specs.declared.code_byte.CodeByte.{CodeByte}
use Rattle.rom80_pattern.specs.CodeBytes.{number_of}
use Rattle.rom80_find.specs.Blocks.{IsFitted}
use Rattle.rom80_find.specs.Fixups.{AreApart, AreOf, AreSorted, are_there, first_number}
use Rattle.rom80_find.proofs.GroupLemmas.{apart_both, apart_first, apart_later, first_taken, fitted_more, later_sorted, none_fitted, nothing_left, parts_of, there_first, there_second}
use Rattle.rom80_find.proofs.fitting.fit_fixups.Goals as goal

pub loop-init : goal.loop-init
loop-init c = record {
  few = omega arith;
  sorted = c.requires.sorted;
  done = ([], refl, tt, λ k lt there. none_fitted c.args.dump.now (c.args.first + k) (slice_index_or c.args.wrong.now k 0));
}

pub loop-preserved : goal.loop-preserved
loop-preserved c =
    let now = c.loop.invariant in
    let dump = c.args.dump.now in
    let fixups = c.args.fixups.now in
    let rest = c.loop.rest.now in
    let count = c.count_of_value.result in
    let some = c.count_of_value.ensures.some in
    let few = c.count_of_value.ensures.few in
    let done = now.done.0 in
    let bytes = c.split_at.result.0.now in
    let others = c.split_at.result.1.now in
    let front : bytes ≡ take count rest = c.split_at.ensures.front in
    let back : others ≡ drop count rest = c.split_at.ensures.back in
    let any : 0 < length rest = omega (arith, some, few) in
    let of : AreOf (first_number bytes) bytes =
    subst (λ (bs : List CodeByte). AreOf (first_number bs) bs) (sym front)
    (subst (λ (n : ℕ). AreOf n (take count rest)) (sym (first_taken count rest some)) c.count_of_value.ensures.same) in
    let whole : done ++ (bytes ++ others) ≡ fixups =
    ap (λ (l : List CodeByte). done ++ (l ++ others)) front ∙ (ap (λ (l : List CodeByte). done ++ (take count rest ++ l)) back
    ∙ (ap (λ (l : List CodeByte). done ++ l) (parts_of count rest) ∙ now.done.1)) in
    record {
      few = omega (arith, now.few, some, few, ap (λ (l : List CodeByte). length l) back ∙ length-drop count rest);
      sorted = subst (λ (l : List CodeByte). AreSorted l) (sym back) (later_sorted count rest few now.sorted);
      done = (
        done ++ bytes,
        append_assoc done bytes others ∙ whole,
        apart_both done bytes others (subst (λ (l : List CodeByte). AreApart done l) (sym back) (apart_later done rest count now.done.2))
            (subst (λ (l : List CodeByte). AreApart bytes l) (sym back)
            (subst (λ (l : List CodeByte). AreApart l (drop count rest)) (sym front) c.count_of_value.ensures.others)),
        λ k lt there.
            let inside : are_there dump (c.args.first + k) bytes ≡ true =
            there_first dump (c.args.first + k) bytes others
            (there_second dump (c.args.first + k) done (bytes ++ others) (ap (λ (l : List CodeByte). are_there dump (c.args.first + k) l) whole ∙ there)) in
            fitted_more dump (c.args.first + k) (first_number bytes) done bytes (slice_index_or c.args.wrong.now k 0) (slice_index_or c.loop.wrong k 0) (slice_index_or c.fit_value.new.wrong k 0)
            (omega (arith, lt, c.requires.first))
            (subst (λ (n : ℕ). AllByRecursion (λ b. number_of b.target ≢ n) done) (sym (ap (λ (bs : List CodeByte). first_number bs) front ∙ first_taken count rest some)) (apart_first done rest any now.done.2))
            of (now.done.3 k lt there) (c.fit_value.ensures k lt inside),
      );
    }

pub returns-then-is_empty : goal.returns-then-is_empty
returns-then-is_empty c = λ k lt there.
    let now = c.loop.invariant in
    let none : length c.loop.rest.now ≡ 0 = eqb-true (length c.loop.rest.now) 0 (sym c.is_empty.ensures ∙ c.if-is_empty.true) in
    subst (λ (bs : List CodeByte). IsFitted c.args.dump.now bs (c.args.first + k) (slice_index_or c.args.wrong.now k 0) (slice_index_or c.loop.wrong k 0))
    (nothing_left now.done.0 c.loop.rest.now none ∙ now.done.1) (now.done.3 k lt there)

pub returns : goal.returns
returns c = λ k lt there.
    let now = c.loop.invariant in
    let none : length c.loop.rest.now ≡ 0 = omega (arith, now.few, c.loop-test.false) in
    subst (λ (bs : List CodeByte). IsFitted c.args.dump.now bs (c.args.first + k) (slice_index_or c.args.wrong.now k 0) (slice_index_or c.loop.wrong k 0))
    (nothing_left now.done.0 c.loop.rest.now none ∙ now.done.1) (now.done.3 k lt there)

pub fit_value-requires-clause-some : goal.fit_value-requires-clause-some
fit_value-requires-clause-some c =
    let long = ap (λ (l : List CodeByte). length l) c.split_at.ensures.front in
    omega (arith, long, c.count_of_value.ensures.some, c.count_of_value.ensures.few)

pub fit_value-requires-clause-same : goal.fit_value-requires-clause-same
fit_value-requires-clause-same c =
    subst (λ (bs : List CodeByte). AreOf (first_number bs) bs) (sym c.split_at.ensures.front)
    (subst (λ (n : ℕ). AreOf n (take c.count_of_value.result c.loop.rest.now)) (sym (first_taken c.count_of_value.result c.loop.rest.now c.count_of_value.ensures.some)) c.count_of_value.ensures.same)
