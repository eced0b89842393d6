-- What a condition says of registers and flags. (Conditions are those of the Intel 8080 Microcomputer Systems User's Manual, chapter 4.)
use Rattle.std.specs.Prelude.{ℕ, Bool, true, false, not, Option, None, Some}
use Rattle.decode80.specs.declared.condition.Condition.{Condition}
use Rattle.decode80.specs.declared.condition.Condition.TheVariants.{NonZero, Zero, NoCarry, Carry, ParityOdd, ParityEven, Plus, Minus}
use Rattle.verify80_spans.specs.declared.byte_span.ByteSpan.{ByteSpan}
use Rattle.verify80_states.specs.{declared.states.known.Known.Known, Known.cut}
use Rattle.verify80_spans.specs.Span.{only, without, below, from}

-- the bytes of A that are left if Z, or CY, is as it is wanted
abbrev pub zero_bytes : (compared : Option ℕ) → (wanted : Bool) → ByteSpan → Option ByteSpan
zero_bytes None wanted a = Some a
zero_bytes (Some n) true a = only n a
zero_bytes (Some n) false a = without n a

abbrev pub carry_bytes : (compared : Option ℕ) → (wanted : Bool) → ByteSpan → Option ByteSpan
carry_bytes None wanted a = Some a
carry_bytes (Some n) true a = below n a
carry_bytes (Some n) false a = from n a

abbrev pub cut_to : Option ByteSpan → Known → Option Known
cut_to None s = None
cut_to (Some byte) s = Some (cut s byte)

-- what is left if a flag is as it is wanted: what is known if it is known to be, none if it is known not to be, and `left` if it isn't known
abbrev pub given_flag : (known : Option Bool) → (wanted : Bool) → Known → (left : Option Known) → Option Known
given_flag None wanted s left = left
given_flag (Some true) true s left = Some s
given_flag (Some false) false s left = Some s
given_flag (Some known) wanted s left = None

abbrev pub given_zero : (wanted : Bool) → Known → Option Known
given_zero wanted s = given_flag s.zero wanted s (cut_to (zero_bytes s.compared wanted s.a) (record s { zero = Some wanted }))

abbrev pub given_carry : (wanted : Bool) → Known → Option Known
given_carry wanted s = given_flag s.carry wanted s (cut_to (carry_bytes s.compared wanted s.a) (record s { carry = Some wanted }))

abbrev pub given_sign : (wanted : Bool) → Known → Option Known
given_sign wanted s = given_flag s.sign wanted s (Some (record s { sign = Some wanted }))

-- what is left if a condition holds, or doesn't; none, if that can't be
abbrev pub given : Condition → (holds : Bool) → Known → Option Known
given Zero wanted s = given_zero wanted s
given NonZero wanted s = given_zero (not wanted) s
given Carry wanted s = given_carry wanted s
given NoCarry wanted s = given_carry (not wanted) s
given Minus wanted s = given_sign wanted s
given Plus wanted s = given_sign (not wanted) s
given ParityOdd wanted s = Some s
given ParityEven wanted s = Some s
