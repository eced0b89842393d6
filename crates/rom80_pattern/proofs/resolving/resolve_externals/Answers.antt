use Rattle.std.proofs.Common.{◌≡◌, ◌<◌, ◌∙◌, ◌+◌, List, ℕ, ap, sym, subst, arith, length, get_or, Some}
use Rattle.std.specs.Prelude.{slice_get}
use Rattle.std.proofs.lemmas.List.{length_push}
use Rattle.rom80_pattern.specs.declared.resolving.Resolved.{Resolved}
use Rattle.rom80_pattern.specs.Modules.{resolved_external}
use Rattle.rom80_pattern.proofs.NameLemmas.{externals_more, external_is, listed_more}
use Rattle.rom80_pattern.proofs.resolving.resolve_externals.Goals as goal

pub loop-index-preserved : goal.loop-index-preserved
loop-index-preserved c =
    let m = c.args.source.now in
    let i = c.loop-index.index in
    let x : List ℕ = c.index-names_of_externals-index.result in
    let names_are = c.externals-names_of_externals.ensures.value in
    let within : i < length m.externals = omega (arith, c.loop-index-test.true, c.min-index-end.ensures, ap (λ (l : List (List ℕ)). length l) names_are) in
    let is : x ≡ get_or m.externals i x = c.index-names_of_externals-index.is ∙ ap (λ (l : List (List ℕ)). get_or l i x) names_are in
    record {
      names = externals_more m.publics m.externals i x c.loop-index.names c.resolve_external.new.self within is c.in_ok-resolved.ensures.added c.loop-index.invariant.names;
      whole = ap (λ (l : List Resolved). length l) c.in_ok-push.ensures.items ∙ length_push c.loop-index.externals.items c.in_ok-resolved.resolved
          ∙ ap (λ (n : ℕ). n + 1) c.loop-index.invariant.whole;
      each = λ j lt. subst (λ (l : List Resolved). slice_get l j ≡ Some (resolved_external m j)) (sym c.in_ok-push.ensures.items)
          (listed_more m i c.loop-index.externals.items c.in_ok-resolved.resolved c.loop-index.invariant.whole c.loop-index.invariant.each
          (c.in_ok-resolved.ensures.value ∙ external_is m i x c.loop-index.names within is c.loop-index.invariant.names) j lt);
    }
