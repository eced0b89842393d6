-- What it means that placed segments overlap.
use Rattle.std.proofs.Common.{◌≡◌, ℕ, ◌+◌, ◌<◌, ◌≤◌, true, ◌&&◌, arith, inl, inr}
use Rattle.std.specs.Prelude.{nat_le, nat_lt, ◌↔◌}
use Rattle.std.proofs.lemmas.Bool.{and_parts, cases_Bool, le-leb, lt-ltb, ltb-true, leb-true, and_from}
use Rattle.std.proofs.lemmas.Bool.Decides.{nat_tests}
use Rattle.place80.specs.declared.placed_segments.Placed.{Placed}
use Rattle.place80.specs.PlaceFault.{overlaps, is_in_placed}
use Rattle.place80.proofs.LocatedApart.{share_then_overlap}

-- an address of a segment
pub in_placed : (p : Placed) (address : ℕ) → p.base ≤ address → address < p.base + p.length → is_in_placed p address ≡ true
in_placed p address above below =
    and_from (nat_le p.base address) (nat_lt address (p.base + p.length)) (le-leb p.base address above)
    (lt-ltb address (p.base + p.length) below)

pub placed_bounds : (p : Placed) (address : ℕ) → is_in_placed p address ≡ true
    → (p.base ≤ address) × (address < p.base + p.length)
placed_bounds p address inside =
    let parts = and_parts (nat_le p.base address) (nat_lt address (p.base + p.length)) inside in
    (leb-true p.base address parts.0, ltb-true address (p.base + p.length) parts.1)

-- overlapping segments have an address in both
common_address : (p q : Placed) → overlaps p q ≡ true
    → (address : ℕ) × (is_in_placed p address ≡ true) × (is_in_placed q address ≡ true)
common_address p q both =
    let outer = and_parts (nat_lt 0 p.length && nat_lt 0 q.length && nat_lt p.base (q.base + q.length))
    (nat_lt q.base (p.base + p.length)) both in
    let inner = and_parts (nat_lt 0 p.length && nat_lt 0 q.length) (nat_lt p.base (q.base + q.length)) outer.0 in
    let some = and_parts (nat_lt 0 p.length) (nat_lt 0 q.length) inner.0 in
    let first_some : 0 < p.length = ltb-true 0 p.length some.0 in
    let other_some : 0 < q.length = ltb-true 0 q.length some.1 in
    let first_below : p.base < q.base + q.length = ltb-true p.base (q.base + q.length) inner.1 in
    let other_below : q.base < p.base + p.length = ltb-true q.base (p.base + p.length) outer.1 in
    elim (cases_Bool (nat_le p.base q.base)) [
      | inl e ↦
          let order : p.base ≤ q.base = leb-true p.base q.base e in
          (q.base, in_placed p q.base order other_below, in_placed q q.base (omega arith) (omega arith))
      | inr e ↦
          let order : q.base ≤ p.base = grind (arith, nat_tests, e) in
          (p.base, in_placed p p.base (omega arith) (omega arith), in_placed q p.base order first_below)
    ]

pub overlap_is_shared_address : (p q : Placed)
    → overlaps p q ≡ true ↔ ((address : ℕ) × (is_in_placed p address ≡ true) × (is_in_placed q address ≡ true))
overlap_is_shared_address p q = (
  common_address p q,
  λ shared.
      let here = placed_bounds p shared.0 shared.1 in
      let there = placed_bounds q shared.0 shared.2 in
      share_then_overlap p q shared.0 here.0 here.1 there.0 there.1,
)
