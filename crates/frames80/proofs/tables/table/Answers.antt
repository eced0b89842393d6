use Rattle.std.specs.Prelude.{◌≡◌, ◌+◌, ◌∷◌, ◌++◌, [], ℕ, All, List, length}
use Rattle.std.proofs.Common.{◌∙◌, ap, sym, subst, refl, arith}
use Rattle.std.proofs.lemmas.List.{length_push}
use Rattle.std.proofs.lemmas.List.Elements.{All-push}
use Rattle.frames80.proofs.tables.table.Goals as goal

-- a given number of places, each with the value
abbrev Filled : {X : Type 0} → X → List X → ℕ → Type 0
Filled value xs n = (length xs ≡ n) × All (λ x. x ≡ value) xs

none_filled : {X : Type 0} (value : X) (xs : List X) → xs ≡ [] → Filled value xs 0
none_filled {X} value xs is = subst (λ (l : List X). Filled value l 0) (sym is) (refl, λ k d below. absurd (omega (arith, below)))

one_more_filled : {X : Type 0} (value : X) (xs ys : List X) (n : ℕ) → ys ≡ xs ++ value ∷ [] → Filled value xs n → Filled value ys (n + 1)
one_more_filled {X} value xs ys n is filled =
    subst (λ (l : List X). Filled value l (n + 1)) (sym is) (length_push xs value ∙ ap (λ (k : ℕ). k + 1) filled.0, All-push (λ x. x ≡ value) xs value filled.1 refl)

pub loop-init : goal.loop-init
loop-init g c = none_filled c.args.value c.in_ok-table.table.items c.in_ok-table.ensures.items

pub loop-preserved : goal.loop-preserved
loop-preserved g c = one_more_filled c.args.value c.loop.table.items c.push.new.self.items c.loop.counter c.in_ok-push.ensures.items c.loop.invariant
