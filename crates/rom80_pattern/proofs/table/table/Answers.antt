use Rattle.std.specs.Prelude.{◌≡◌, ◌+◌, ◌∷◌, ◌++◌, [], ℕ, zero, suc, List, length, slice_index_or}
use Rattle.std.proofs.Common.{◌∙◌, ap, refl}
use Rattle.std.proofs.lemmas.List.{length_push}
use Rattle.rom80_pattern.proofs.table.table.Goals as goal

one_more : {X : Type 0} (value : X) (xs : List X) → ((k : ℕ) → slice_index_or xs k value ≡ value) → (k : ℕ) → slice_index_or (xs ++ value ∷ []) k value ≡ value
one_more value [] h zero = refl
one_more value [] h (suc k) = refl
one_more value (x ∷ xs) h zero = h 0
one_more value (x ∷ xs) h (suc k) = one_more value xs (λ n. h (suc n)) k

pub loop-init : goal.loop-init
loop-init g c = record {
  whole = ap (λ l. length l) c.in_ok-made.ensures.items;
  each = λ k. ap (λ l. slice_index_or l k c.args.value) c.in_ok-made.ensures.items;
}

pub loop-preserved : goal.loop-preserved
loop-preserved g c = record {
  whole = ap (λ l. length l) c.in_ok-push.ensures.items ∙ (length_push c.loop.made.items c.args.value ∙ ap (λ (k : ℕ). k + 1) c.loop.invariant.whole);
  each = λ k. ap (λ l. slice_index_or l k c.args.value) c.in_ok-push.ensures.items ∙ one_more c.args.value c.loop.made.items c.loop.invariant.each k;
}
