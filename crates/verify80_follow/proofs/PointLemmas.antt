-- Where a pair points that a store goes by, and where PCHL goes that has declared targets.
use Rattle.std.specs.Prelude.{◌≡◌, ◌==◌, ℕ, zero, suc, false, not, List, [], ◌∷◌, Option, None, Some, Contains}
use Rattle.std.specs.Option.{option_map_or}
use Rattle.std.proofs.Common.{ap, arith, refl, subst}
use Rattle.std.proofs.lemmas.{Bool.Decides.nat_tests, List.Folds.list_any_at}
use Rattle.decode80.specs.{declared.storing.Storing.Storing}
use Rattle.decode80.specs.declared.storing.Storing.TheVariants.{Through, ThroughHl}
use Rattle.decode80.specs.declared.pair.IndexPair.TheVariants.{Bc, De}
use Rattle.machine80.specs.{Cpu.hl_of, Cpu.index_pair_of, Effects.pointed_by, Step.leads_outside, declared.registers.Registers.Registers}
use Rattle.verify80_spans.specs.declared.span.Span.{Span}
use Rattle.verify80_spans.specs.Span.{IsInside, Within}
use Rattle.verify80_states.specs.{declared.states.known.Known.Known, Known.HoldsRegisters}
use Rattle.verify80_stores.specs.Opening.{span_through}

-- the address that a pair points to is one of its span
pub record Points (w : Storing) (s : Known) (address : ℕ) : Type 0 where
  pub span : Span
  pub is : span_through w s ≡ Some span
  pub within : Within span address

alone : (x y : ℕ) → Contains (x ∷ []) y → x ≡ y
alone x y (zero, inside, same) = same
alone x y (suc k, inside, same) = absurd (omega arith)

pub points_by : (w : Storing) (s : Known) (r : Registers) (address : ℕ) → HoldsRegisters s r → Contains (pointed_by w r) address → Points w s address
points_by ThroughHl s r address holds there = record { span = s.hl.words; is = refl; within = subst (λ a. Within s.hl.words a) (alone (hl_of r) address there) holds.hl.words }
points_by (Through Bc) s r address holds there = record { span = s.bc.words; is = refl; within = subst (λ a. Within s.bc.words a) (alone (index_pair_of r Bc) address there) holds.bc.words }
points_by (Through De) s r address holds there = record { span = s.de.words; is = refl; within = subst (λ a. Within s.de.words a) (alone (index_pair_of r De) address there) holds.de.words }
points_by w s r address holds there = absurd (omega (arith, there.1))

pub within_outer : (s t : Span) (n : ℕ) → IsInside s t → Within s n → Within t n
within_outer s t n inside within = let a = inside.above in let b = inside.below in let c = within.above in let d = within.below in record { above = omega (arith, a, c); below = omega (arith, b, d) }

-- a target that is declared is not outside
pub not_outside : (declared : Option (List ℕ)) (hl : ℕ) → Contains (option_map_or (λ targets. targets) declared []) hl → leads_outside declared hl ≡ false
not_outside None hl there = refl
not_outside (Some targets) hl (k, inside, same) = ap (λ b. not b) (list_any_at (λ y. y == hl) targets k hl inside (grind (arith, nat_tests, same)))
