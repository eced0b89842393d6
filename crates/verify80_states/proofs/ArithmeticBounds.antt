-- What the arithmetic answers of bytes is a byte, and of words a word.
use Rattle.verify80_states.proofs.Names.{◌<◌, ℕ, Bool, true, false, arith, or_of_8, xor_of_8, and_lt, Operation, Rotation, And, ExclusiveOr, Or, Compare, Left, Flags, word, IsByte, IsWord}
use Rattle.decode80.specs.{Fetch.ahead, Fetch.behind}
use Rattle.machine80.specs.{Flags.bit_of, Flags.flags_byte}
use Rattle.machine80.specs.Arithmetic.{byte_answer, sum_answer, difference_answer, operation_answer, increment_answer, decrement_answer, decimal_answer, rotation_answer}

-- words and their bytes
pub word_of_bytes : (high low : ℕ) → IsByte high → IsByte low → IsWord (word high low)
word_of_bytes high low h l = omega arith

pub ahead_is_word : (a n : ℕ) → IsWord (ahead a n)
unfolding ahead
ahead_is_word a n = omega arith

pub behind_is_word : (a n : ℕ) → IsWord (behind a n)
unfolding behind
behind_is_word a n = omega arith

pub bit_is_small : (flag : Bool) → bit_of flag < 2
unfolding bit_of
bit_is_small true = omega arith
bit_is_small false = omega arith

pub flags_are_byte : (f : Flags) → IsByte (flags_byte f)
unfolding flags_byte
flags_are_byte f =
    let s : bit_of f.sign < 2 = bit_is_small f.sign in
    let z : bit_of f.zero < 2 = bit_is_small f.zero in
    let a : bit_of f.auxiliary < 2 = bit_is_small f.auxiliary in
    let p : bit_of f.parity < 2 = bit_is_small f.parity in
    let c : bit_of f.carry < 2 = bit_is_small f.carry in
    omega arith

-- the answers
pub operation_is_byte : (o : Operation) (a v : ℕ) (f : Flags) → IsByte a → IsByte v → IsByte (operation_answer o a v f).value
unfolding operation_answer sum_answer difference_answer byte_answer
operation_is_byte And a v f ha hv = and_lt 8 a v ha hv
operation_is_byte ExclusiveOr a v f ha hv = xor_of_8 a v ha hv
operation_is_byte Or a v f ha hv = or_of_8 a v ha hv
operation_is_byte Compare a v f ha hv = ha
operation_is_byte o a v f ha hv = omega arith

pub increment_is_byte : (byte : ℕ) (f : Flags) → IsByte (increment_answer byte f).value
unfolding increment_answer byte_answer
increment_is_byte byte f = omega arith

pub decrement_is_byte : (byte : ℕ) (f : Flags) → IsByte (decrement_answer byte f).value
unfolding decrement_answer byte_answer
decrement_is_byte byte f = omega arith

pub decimal_is_byte : (a : ℕ) (f : Flags) → IsByte (decimal_answer a f).value
unfolding decimal_answer byte_answer
decimal_is_byte a f = omega arith

pub rotation_is_byte : (n : Rotation) (a : ℕ) (f : Flags) → IsByte a → IsByte (rotation_answer n a f).value
unfolding rotation_answer
rotation_is_byte Left a f byte = omega arith
rotation_is_byte n a f byte = let bit = bit_is_small f.carry in omega (arith, bit)
