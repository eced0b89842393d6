-- What the accumulator's operations make of spans.
use Rattle.verify80_states.proofs.Names.{xor_of_8, or_of_8, ◌≡◌, ◌≤◌, ◌<◌, ◌&&◌, ℕ, ◌+◌, ◌-◌, ◌*◌, ◌%◌, Bool, true, false, Option, nat_lt, nat_le, bit_and}
use Rattle.verify80_states.proofs.Names.{bit_or, bit_xor, refl, or_add_and, xor_add_and, arith, and_le_l, and_le_r, le_or_l, le_or_r, nat_tests, Operation}
use Rattle.verify80_states.proofs.Names.{Add, AddCarry, Subtract, SubtractBorrow, And, ExclusiveOr, Or, Compare, Flags, ByteSpan, Outcome, ByteWithin}
use Rattle.verify80_states.proofs.Names.{byte_alone, is_byte_alone, are_alone, carry_span, sum_of, difference_of, and_of, or_of, exclusive_or_of, operated}
use Rattle.verify80_spans.specs.Span.{IsKnown}
use Rattle.machine80.specs.{Flags.bit_of}
use Rattle.verify80_states.proofs.{ArithmeticBounds.bit_is_small, SpanLemmas.any_byte_within, SpanLemmas.alone_within, SpanLemmas.carry_within}

-- an outcome has a byte and a carry
pub record Makes (out : Outcome) (byte : ℕ) (full : Bool) : Type 0 where
  pub value : ByteWithin out.value byte
  pub carry : IsKnown out.carry full

module _ (s t c : ByteSpan) (a v k : ℕ) (small : a < 256) (other_small : v < 256) (bit : k < 2) (first : ByteWithin s a) (second : ByteWithin t v) (third : ByteWithin c k) where
  abbrev sums_stay : Bool
  sums_stay = nat_lt (s.last + t.last + c.last) 256 && nat_lt (s.first + t.first + c.first) 256

  abbrev sums_wrap : Bool
  sums_wrap = nat_le 256 (s.first + t.first + c.first) && nat_le 256 (s.last + t.last + c.last) && nat_lt (s.last + t.last + c.last) 512 && nat_lt (s.first + t.first + c.first) 512

  sum_go : (b d : Bool) → sums_stay ≡ b → sums_wrap ≡ d → Makes (sum_of s t c) ((a + v + k) % 256) (nat_lt 255 (a + v + k))
  sum_go true d stay wrap =
      rw stay (record { value = record { above = grind (arith, nat_tests); below = grind (arith, nat_tests) }; carry = grind (arith, nat_tests) })
  sum_go false true stay wrap =
      rw (stay, wrap) (record { value = record { above = grind (arith, nat_tests); below = grind (arith, nat_tests) }; carry = grind (arith, nat_tests) })
  sum_go false false stay wrap =
      rw (stay, wrap) (record { value = any_byte_within ((a + v + k) % 256) (omega arith); carry = tt })

  pub sum_makes : Makes (sum_of s t c) ((a + v + k) % 256) (nat_lt 255 (a + v + k))
  sum_makes = sum_go sums_stay sums_wrap refl refl

  abbrev differences_stay : Bool
  differences_stay = nat_le (t.last + c.last) s.first && nat_le (t.first + c.first) s.last

  abbrev differences_wrap : Bool
  differences_wrap = nat_lt s.last (t.first + c.first) && nat_lt s.first (t.last + c.last) && nat_le (t.last + c.last) 256 && nat_le (t.first + c.first) 256

  difference_go : (b d : Bool) → differences_stay ≡ b → differences_wrap ≡ d → Makes (difference_of s t c) ((256 + a - (v + k)) % 256) (nat_lt a (v + k))
  difference_go true d stay wrap =
      rw stay (record { value = record { above = grind (arith, nat_tests); below = grind (arith, nat_tests) }; carry = grind (arith, nat_tests) })
  difference_go false true stay wrap =
      rw (stay, wrap) (record { value = record { above = grind (arith, nat_tests); below = grind (arith, nat_tests) }; carry = grind (arith, nat_tests) })
  difference_go false false stay wrap =
      rw (stay, wrap) (record { value = any_byte_within ((256 + a - (v + k)) % 256) (omega arith); carry = tt })

  pub difference_makes : Makes (difference_of s t c) ((256 + a - (v + k)) % 256) (nat_lt a (v + k))
  difference_makes = difference_go differences_stay differences_wrap refl refl

-- a span of one number has that one
pub is_first : (s : ByteSpan) (n : ℕ) → is_byte_alone s ≡ true → ByteWithin s n → s.first ≡ n
is_first s n alone inside = grind (arith, nat_tests)

both_first : (s t : ByteSpan) (a v : ℕ) → are_alone s t ≡ true → ByteWithin s a → ByteWithin t v → (s.first ≡ a) × (t.first ≡ v)
both_first s t a v alone first second = (grind (arith, nat_tests), grind (arith, nat_tests))

and_go : (s t : ByteSpan) (a v : ℕ) (b : Bool) → are_alone s t ≡ b → ByteWithin s a → ByteWithin t v → ByteWithin (and_of s t) (bit_and a v)
and_go s t a v true alone first second =
    let same = both_first s t a v alone first second in
    rw alone (rw (same.0, same.1) (alone_within (bit_and a v)))
and_go s t a v false alone first second =
    let left : bit_and a v ≤ a = and_le_l a v in
    let right : bit_and a v ≤ v = and_le_r a v in
    rw alone (record { above = omega arith; below = grind (arith, nat_tests) })

or_go : (s t : ByteSpan) (a v : ℕ) (b : Bool) → are_alone s t ≡ b → bit_or a v < 256 → ByteWithin s a → ByteWithin t v → ByteWithin (or_of s t) (bit_or a v)
or_go s t a v true alone small first second =
    let same = both_first s t a v alone first second in
    rw alone (rw (same.0, same.1) (alone_within (bit_or a v)))
or_go s t a v false alone small first second =
    let left : a ≤ bit_or a v = le_or_l a v in
    let right : v ≤ bit_or a v = le_or_r a v in
    let sum : bit_or a v + bit_and a v ≡ a + v = or_add_and a v in
    rw alone (record { above = grind (arith, nat_tests); below = grind (arith, nat_tests) })

xor_go : (s t : ByteSpan) (a v : ℕ) (b : Bool) → are_alone s t ≡ b → bit_xor a v < 256 → ByteWithin s a → ByteWithin t v → ByteWithin (exclusive_or_of s t) (bit_xor a v)
xor_go s t a v true alone small first second =
    let same = both_first s t a v alone first second in
    rw alone (rw (same.0, same.1) (alone_within (bit_xor a v)))
xor_go s t a v false alone small first second =
    let sum : bit_xor a v + bit_and a v * 2 ≡ a + v = xor_add_and a v in
    rw alone (record { above = omega arith; below = grind (arith, nat_tests) })

-- the operations: the bytes that they make, and the carries
abbrev pub result_of : Operation → (a v : ℕ) → Flags → ℕ
result_of Add a v f = (a + v + 0) % 256
result_of AddCarry a v f = (a + v + bit_of f.carry) % 256
result_of Subtract a v f = (256 + a - (v + 0)) % 256
result_of SubtractBorrow a v f = (256 + a - (v + bit_of f.carry)) % 256
result_of Compare a v f = (256 + a - (v + 0)) % 256
result_of And a v f = bit_and a v
result_of ExclusiveOr a v f = bit_xor a v
result_of Or a v f = bit_or a v

abbrev pub carry_of : Operation → (a v : ℕ) → Flags → Bool
carry_of Add a v f = nat_lt 255 (a + v + 0)
carry_of AddCarry a v f = nat_lt 255 (a + v + bit_of f.carry)
carry_of Subtract a v f = nat_lt a (v + 0)
carry_of SubtractBorrow a v f = nat_lt a (v + bit_of f.carry)
carry_of Compare a v f = nat_lt a (v + 0)
carry_of And a v f = false
carry_of ExclusiveOr a v f = false
carry_of Or a v f = false

pub operated_makes : (o : Operation) (s t : ByteSpan) (known : Option Bool) (a v : ℕ) (f : Flags) → a < 256 → v < 256 → ByteWithin s a → ByteWithin t v → IsKnown known f.carry →
    Makes (operated o s t known) (result_of o a v f) (carry_of o a v f)
operated_makes Add s t known a v f small other first second carry = sum_makes s t (byte_alone 0) a v 0 small other (omega arith) first second (alone_within 0)
operated_makes AddCarry s t known a v f small other first second carry = sum_makes s t (carry_span known) a v (bit_of f.carry) small other (bit_is_small f.carry) first second (carry_within known f.carry carry)
operated_makes Subtract s t known a v f small other first second carry = difference_makes s t (byte_alone 0) a v 0 small other (omega arith) first second (alone_within 0)
operated_makes SubtractBorrow s t known a v f small other first second carry = difference_makes s t (carry_span known) a v (bit_of f.carry) small other (bit_is_small f.carry) first second (carry_within known f.carry carry)
operated_makes Compare s t known a v f small other first second carry = difference_makes s t (byte_alone 0) a v 0 small other (omega arith) first second (alone_within 0)
operated_makes And s t known a v f small other first second carry = record { value = and_go s t a v (are_alone s t) refl first second; carry = refl }
operated_makes ExclusiveOr s t known a v f small other first second carry = record { value = xor_go s t a v (are_alone s t) refl (xor_of_8 a v small other) first second; carry = refl }
operated_makes Or s t known a v f small other first second carry = record { value = or_go s t a v (are_alone s t) refl (or_of_8 a v small other) first second; carry = refl }
