-- What spans say of numbers.
use Rattle.verify80_states.proofs.Names.{◌≡◌, ◌<◌, ℕ, ◌+◌, ◌%◌, Bool, true, false, Option, None, Some, nat_lt, nat_le, refl, arith, nat_tests, word}
use Rattle.verify80_states.proofs.Names.{Span, ByteSpan, Within, ByteWithin, IsInside, IsByteInside, any_word, any_byte, byte_alone, next_span}
use Rattle.verify80_states.proofs.Names.{previous_span, next_byte, previous_byte, sum_span, sum_carries, joined, meet, meet_bytes, carry_span, if◌then◌else◌}
use Rattle.verify80_spans.specs.Span.{IsKnown, high_of, low_of}
use Rattle.machine80.specs.{Flags.bit_of}

pub high_within : (s : Span) (h l : ℕ) → l < 256 → Within s (word h l) → ByteWithin (high_of s) h
high_within s h l small inside = record { above = omega arith; below = omega arith }

pub low_within : (s : Span) (h l : ℕ) → l < 256 → Within s (word h l) → ByteWithin (low_of s) l
low_within s h l small inside = record { above = grind (arith, nat_tests); below = grind (arith, nat_tests) }

pub joined_within : (s t : ByteSpan) (h l : ℕ) → ByteWithin s h → ByteWithin t l → Within (joined s t) (word h l)
joined_within s t h l high low = record { above = omega arith; below = omega arith }

pub any_word_within : (n : ℕ) → n < 65536 → Within any_word n
any_word_within n small = record { above = omega arith; below = omega arith }

pub any_byte_within : (n : ℕ) → n < 256 → ByteWithin any_byte n
any_byte_within n small = record { above = omega arith; below = omega arith }

pub alone_within : (n : ℕ) → ByteWithin (byte_alone n) n
alone_within n = record { above = omega arith; below = omega arith }

pub next_within : (s : Span) (n : ℕ) → n < 65536 → Within s n → Within (next_span s) ((n + 1) % 65536)
next_within s n small inside = record { above = grind (arith, nat_tests); below = grind (arith, nat_tests) }

pub previous_within : (s : Span) (n : ℕ) → n < 65536 → Within s n → Within (previous_span s) ((n + 65535) % 65536)
previous_within s n small inside = record { above = grind (arith, nat_tests); below = grind (arith, nat_tests) }

pub next_byte_within : (s : ByteSpan) (n : ℕ) → n < 256 → ByteWithin s n → ByteWithin (next_byte s) ((n + 1) % 256)
next_byte_within s n small inside = record { above = grind (arith, nat_tests); below = grind (arith, nat_tests) }

pub previous_byte_within : (s : ByteSpan) (n : ℕ) → n < 256 → ByteWithin s n → ByteWithin (previous_byte s) ((n + 255) % 256)
previous_byte_within s n small inside = record { above = grind (arith, nat_tests); below = grind (arith, nat_tests) }

pub sum_within : (s t : Span) (m n : ℕ) → m < 65536 → n < 65536 → Within s m → Within t n → Within (sum_span s t) ((m + n) % 65536)
sum_within s t m n small other_small first second = record { above = grind (arith, nat_tests); below = grind (arith, nat_tests) }

pub inside_within : (s t : Span) (n : ℕ) → IsInside s t → Within s n → Within t n
inside_within s t n inside within = record { above = omega arith; below = omega arith }

pub byte_inside_within : (s t : ByteSpan) (n : ℕ) → IsByteInside s t → ByteWithin s n → ByteWithin t n
byte_inside_within s t n inside within = record { above = omega arith; below = omega arith }

pub meet_within : (s t : Span) (n : ℕ) → Within s n → Within t n → Within (meet s t) n
meet_within s t n first second = record { above = grind (arith, nat_tests); below = grind (arith, nat_tests) }

pub meet_bytes_within : (s t : ByteSpan) (n : ℕ) → ByteWithin s n → ByteWithin t n → ByteWithin (meet_bytes s t) n
meet_bytes_within s t n first second = record { above = grind (arith, nat_tests); below = grind (arith, nat_tests) }

-- what is known of a truth by one of two tests
pub known_if : (a b x y truth : Bool) → (a ≡ true → truth ≡ x) → (a ≡ false → b ≡ true → truth ≡ y) → IsKnown (if a then Some x else (if b then Some y else None)) truth
known_if true b x y truth one other = one refl
known_if false true x y truth one other = other refl refl
known_if false false x y truth one other = tt

-- the carry of a sum of words
pub carries : (s t : Span) (m n : ℕ) → Within s m → Within t n → IsKnown (sum_carries s t) (nat_lt 65535 (m + n))
carries s t m n first second = known_if (nat_lt (s.last + t.last) 65536) (nat_le 65536 (s.first + t.first)) false true (nat_lt 65535 (m + n)) (λ low. grind (arith, nat_tests)) (λ low high. grind (arith, nat_tests))

-- a carry as a number
pub carry_within : (o : Option Bool) (b : Bool) → IsKnown o b → ByteWithin (carry_span o) (bit_of b)
unfolding bit_of
carry_within None true known = record { above = omega arith; below = omega arith }
carry_within None false known = record { above = omega arith; below = omega arith }
carry_within (Some true) true known = record { above = omega arith; below = omega arith }
carry_within (Some false) false known = record { above = omega arith; below = omega arith }
carry_within (Some true) false known = cc
carry_within (Some false) true known = cc
