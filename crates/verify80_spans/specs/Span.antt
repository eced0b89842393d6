-- Spans of words and of bytes, and what becomes of them by the arithmetic of pairs and of registers. (The arithmetic is that of the
-- Intel 8080 Microcomputer Systems User's Manual, chapter 4; that spans are followed is this project's own.)
use Rattle.std.specs.Prelude.{◌≡◌, ◌≤◌, ℕ, ◌+◌, ◌-◌, ◌*◌, ◌/◌, ◌%◌, ◌==◌, ◌&&◌, Bool, true, false, Option, None, Some, nat_le, nat_lt, min, max, bit_and, bit_or, bit_xor, if◌then◌else◌}
use Rattle.decode80.specs.declared.{operation.Operation.Operation, rotation.Rotation.Rotation}
use Rattle.decode80.specs.declared.operation.Operation.TheVariants.{Add, AddCarry, Subtract, SubtractBorrow, And, ExclusiveOr, Or, Compare}
use Rattle.decode80.specs.declared.rotation.Rotation.TheVariants.{Left, Right, LeftThroughCarry, RightThroughCarry}
use Rattle.verify80_spans.specs.declared.{span.Span.Span, byte_span.ByteSpan.ByteSpan, byte_span.Outcome.Outcome}

-- a number is one of a span
pub record Within (span : Span) (n : ℕ) : Type 0 where
  pub above : span.first ≤ n
  pub below : n ≤ span.last

pub record ByteWithin (span : ByteSpan) (n : ℕ) : Type 0 where
  pub above : span.first ≤ n
  pub below : n ≤ span.last

-- each number of a span is one of another
pub record IsInside (inner outer : Span) : Type 0 where
  pub above : outer.first ≤ inner.first
  pub below : inner.last ≤ outer.last

pub record IsByteInside (inner outer : ByteSpan) : Type 0 where
  pub above : outer.first ≤ inner.first
  pub below : inner.last ≤ outer.last

-- what is known of a truth: that it is this one, or nothing
abbrev pub IsKnown : Option Bool → Bool → Type 0
IsKnown None truth = Unit {0}
IsKnown (Some known) truth = truth ≡ known

-- any word, and any byte
abbrev pub any_word : Span
any_word = record { first = 0; last = 65535 }

abbrev pub any_byte : ByteSpan
any_byte = record { first = 0; last = 255 }

-- the words, and the bytes, from a first to a last one
abbrev pub words_between : (first last : ℕ) → Span
words_between first last = record { first = first; last = last }

abbrev pub bytes_between : (first last : ℕ) → ByteSpan
bytes_between first last = record { first = first; last = last }

-- one word alone, and one byte
abbrev pub word_alone : ℕ → Span
word_alone n = record { first = n; last = n }

abbrev pub byte_alone : ℕ → ByteSpan
byte_alone n = record { first = n; last = n }

abbrev pub is_alone : Span → Bool
is_alone s = s.first == s.last

abbrev pub is_byte_alone : ByteSpan → Bool
is_byte_alone s = s.first == s.last

-- the smallest span with the numbers of both, and the numbers that both have
abbrev pub hull : Span → Span → Span
hull s t = record { first = min s.first t.first; last = max s.last t.last }

abbrev pub meet : Span → Span → Span
meet s t = record { first = max s.first t.first; last = min s.last t.last }

abbrev pub meet_bytes : ByteSpan → ByteSpan → ByteSpan
meet_bytes s t = record { first = max s.first t.first; last = min s.last t.last }

-- one more, and one less: a span that may wrap is any, unless it is one number
abbrev pub next_span : Span → Span
next_span s = if nat_lt s.last 65535 then record { first = (s.first + 1) % 65536; last = s.last + 1 } else (if s.first == 65535 then word_alone 0 else any_word)

abbrev pub previous_span : Span → Span
previous_span s = if nat_lt 0 s.first then record { first = s.first - 1; last = s.last - 1 } else (if s.last == 0 then word_alone 65535 else any_word)

abbrev pub next_byte : ByteSpan → ByteSpan
next_byte s = if nat_lt s.last 255 then record { first = (s.first + 1) % 256; last = s.last + 1 } else (if s.first == 255 then byte_alone 0 else any_byte)

abbrev pub previous_byte : ByteSpan → ByteSpan
previous_byte s = if nat_lt 0 s.first then record { first = s.first - 1; last = s.last - 1 } else (if s.last == 0 then byte_alone 255 else any_byte)

-- the sums of a word of one and a word of the other: if none of them wraps or all do, from the least to the greatest; else anything
abbrev pub sum_span : Span → Span → Span
sum_span s t =
    if nat_lt (s.last + t.last) 65536 && nat_lt (s.first + t.first) 65536
    then record { first = s.first + t.first; last = s.last + t.last }
    else (if nat_le 65536 (s.first + t.first) && nat_le 65536 (s.last + t.last)
    then record { first = s.first + t.first - 65536; last = s.last + t.last - 65536 }
    else any_word)

-- whether the sums carry
abbrev pub sum_carries : Span → Span → Option Bool
sum_carries s t =
    if nat_lt (s.last + t.last) 65536 then Some false
    else (if nat_le 65536 (s.first + t.first) then Some true else None)

-- the high bytes of the words, and their low bytes: any, unless the words have one high byte
abbrev pub high_of : Span → ByteSpan
high_of s = record { first = s.first / 256; last = s.last / 256 }

abbrev pub low_of : Span → ByteSpan
low_of s = if s.first / 256 == s.last / 256 then record { first = s.first % 256; last = s.last % 256 } else any_byte

-- the words of a high and a low byte
abbrev pub joined : (high low : ByteSpan) → Span
joined high low = record { first = 256 * high.first + low.first; last = 256 * high.last + low.last }

-- a carry as a number
abbrev pub carry_span : Option Bool → ByteSpan
carry_span None = record { first = 0; last = 1 }
carry_span (Some true) = byte_alone 1
carry_span (Some false) = byte_alone 0

-- the sums and the differences of a byte of one, a byte of the other and a carry: if none wraps or all do, from the least to the greatest
abbrev pub sum_of : (s t carry : ByteSpan) → Outcome
sum_of s t carry =
    if nat_lt (s.last + t.last + carry.last) 256 && nat_lt (s.first + t.first + carry.first) 256
    then record { value = record { first = s.first + t.first + carry.first; last = s.last + t.last + carry.last }; carry = Some false }
    else (if nat_le 256 (s.first + t.first + carry.first) && nat_le 256 (s.last + t.last + carry.last) && nat_lt (s.last + t.last + carry.last) 512 && nat_lt (s.first + t.first + carry.first) 512
    then record { value = record { first = s.first + t.first + carry.first - 256; last = s.last + t.last + carry.last - 256 }; carry = Some true }
    else record { value = any_byte; carry = None })

abbrev pub difference_of : (s t borrow : ByteSpan) → Outcome
difference_of s t borrow =
    if nat_le (t.last + borrow.last) s.first && nat_le (t.first + borrow.first) s.last
    then record { value = record { first = s.first - (t.last + borrow.last); last = s.last - (t.first + borrow.first) }; carry = Some false }
    else (if nat_lt s.last (t.first + borrow.first) && nat_lt s.first (t.last + borrow.last) && nat_le (t.last + borrow.last) 256 && nat_le (t.first + borrow.first) 256
    then record { value = record { first = 256 + s.first - (t.last + borrow.last); last = 256 + s.last - (t.first + borrow.first) }; carry = Some true }
    else record { value = any_byte; carry = None })

-- the same of bits: exact for two bytes alone, and never above their sum
abbrev pub are_alone : ByteSpan → ByteSpan → Bool
are_alone s t = is_byte_alone s && is_byte_alone t

abbrev pub and_of : ByteSpan → ByteSpan → ByteSpan
and_of s t = if are_alone s t then byte_alone (bit_and s.first t.first) else record { first = 0; last = min s.last t.last }

abbrev pub exclusive_or_of : ByteSpan → ByteSpan → ByteSpan
exclusive_or_of s t = if are_alone s t then byte_alone (bit_xor s.first t.first) else record { first = 0; last = min (s.last + t.last) 255 }

abbrev pub or_of : ByteSpan → ByteSpan → ByteSpan
or_of s t = if are_alone s t then byte_alone (bit_or s.first t.first) else record { first = max s.first t.first; last = min (s.last + t.last) 255 }

abbrev pub uncarried : ByteSpan → Outcome
uncarried value = record { value = value; carry = Some false }

-- what an operation on A and a byte makes: what is compared is the difference
abbrev pub operated : Operation → (a byte : ByteSpan) → (carry : Option Bool) → Outcome
operated Add a byte carry = sum_of a byte (byte_alone 0)
operated AddCarry a byte carry = sum_of a byte (carry_span carry)
operated Subtract a byte carry = difference_of a byte (byte_alone 0)
operated SubtractBorrow a byte carry = difference_of a byte (carry_span carry)
operated Compare a byte carry = difference_of a byte (byte_alone 0)
operated And a byte carry = uncarried (and_of a byte)
operated ExclusiveOr a byte carry = uncarried (exclusive_or_of a byte)
operated Or a byte carry = uncarried (or_of a byte)

-- what a rotation makes of A: doubled, if no bit leaves it at the top and none comes in from the carry; exact for one byte; else any
abbrev pub doubled : ByteSpan → ByteSpan
doubled a = if nat_lt a.last 128 && nat_lt a.first 128 then record { first = 2 * a.first; last = 2 * a.last } else any_byte

abbrev pub rotated : Rotation → ByteSpan → (carry : Option Bool) → ByteSpan
rotated Left a carry = if is_byte_alone a then byte_alone (a.first * 2 % 256 + a.first / 128) else doubled a
rotated Right a carry = if is_byte_alone a then byte_alone (a.first / 2 + a.first % 2 * 128) else any_byte
rotated LeftThroughCarry a (Some false) = if is_byte_alone a then byte_alone (a.first * 2 % 256) else doubled a
rotated LeftThroughCarry a (Some true) = if is_byte_alone a then byte_alone (a.first * 2 % 256 + 1) else any_byte
rotated LeftThroughCarry a None = any_byte
rotated RightThroughCarry a (Some false) = record { first = a.first / 2; last = a.last / 2 }
rotated RightThroughCarry a (Some true) = record { first = a.first / 2 + 128; last = a.last / 2 + 128 }
rotated RightThroughCarry a None = any_byte

abbrev pub complemented : ByteSpan → ByteSpan
complemented a = record { first = 255 - a.last; last = 255 - a.first }

-- what a result says of the flags Z and S
abbrev pub zero_of : ByteSpan → Option Bool
zero_of s = if nat_lt 0 s.first then Some false else (if s.last == 0 then Some true else None)

abbrev pub sign_of : ByteSpan → Option Bool
sign_of s = if nat_lt s.last 128 then Some false else (if nat_le 128 s.first then Some true else None)

-- what is left of a span by a comparison with a number: the number alone, all but it, those below it, those from it on
abbrev pub only : ℕ → ByteSpan → Option ByteSpan
only n s = if nat_le s.first n && nat_le n s.last then Some (byte_alone n) else None

abbrev pub without : ℕ → ByteSpan → Option ByteSpan
without n s =
    if s.first == n then (if nat_lt n s.last then Some (record { first = n + 1; last = s.last }) else None)
    else (if s.last == n then (if nat_lt s.first n then Some (record { first = s.first; last = n - 1 }) else None) else Some s)

abbrev pub below : ℕ → ByteSpan → Option ByteSpan
below n s = if nat_lt s.first n then Some (record { first = s.first; last = min s.last (n - 1) }) else None

abbrev pub from : ℕ → ByteSpan → Option ByteSpan
from n s = if nat_le n s.last then Some (record { first = max s.first n; last = s.last }) else None
