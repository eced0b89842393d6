use Rattle.std.specs.Prelude.{◌≡◌, ℕ, Option, None, Some, refl}
use Rattle.verify80_flow.proofs.table.no_exits.Goals as goal

-- a copy of None is None
only_none : (IsCopy : Option ℕ → Type 0) → ((x : ℕ) → IsCopy (Some x) → ⊥) → (y : Option ℕ) → IsCopy y → y ≡ None
only_none IsCopy never None copy = refl
only_none IsCopy never (Some x) copy = absurd (never x copy)

pub returns : goal.returns
returns c = c.in_ok-exits.ensures.items_if_clones_equal (only_none _ (λ x copy. copy))
