-- What a state says when registers and flags are written.
use Rattle.verify80_states.proofs.Names.{◌≡◌, ◌<◌, ◌==◌, ℕ, ◌+◌, ◌/◌, ◌%◌, Bool, true, false, Option, nat_lt, nat_le, refl, arith, subst, sym, nat_tests}
use Rattle.verify80_states.proofs.Names.{Register, Pair, A, B, C, D, E, H, L, Bc, De, Hl, Sp, Flags, Registers, Cpu, word, register_of, with_register}
use Rattle.verify80_states.proofs.Names.{with_pair, Span, ByteSpan, Outcome, PairSpan, Known, AreBytes, Within, ByteWithin, any_byte, byte_alone, next_span}
use Rattle.verify80_states.proofs.Names.{previous_span, next_byte, previous_byte, sum_span, sum_of, joined, zero_of, sign_of, HoldsPair, HoldsRegisters}
use Rattle.verify80_states.proofs.Names.{Compares, any_pair, nothing_known, pair_of_words, pair_of_halves, byte_of, copy_without, copy_outside, with_byte}
use Rattle.verify80_states.proofs.Names.{with_span, with_outcome, with_carry, with_any_flags, cut_high, cut_low, cut_copy, cut, next_pair, previous_pair, sum_pair}
use Rattle.verify80_spans.specs.Span.{IsKnown, high_of}
use Rattle.machine80.specs.Flags.{flags_of_result}
use Rattle.verify80_states.proofs.SpanLemmas.{known_if, high_within, low_within, joined_within, any_word_within, any_byte_within, alone_within, next_within}
use Rattle.verify80_states.proofs.SpanLemmas.{previous_within, next_byte_within, previous_byte_within, sum_within, meet_within, meet_bytes_within}
use Rattle.verify80_states.proofs.{ArithmeticBounds.word_of_bytes, OutcomeLemmas.Makes, OutcomeLemmas.sum_makes}

-- pairs
pub halves_hold : (high low : ByteSpan) (h l : ℕ) → ByteWithin high h → ByteWithin low l → HoldsPair (pair_of_halves high low) h l
halves_hold high low h l first second = record { words = joined_within high low h l first second; low = second }

pub high_holds : (p : PairSpan) (h l : ℕ) → l < 256 → HoldsPair p h l → ByteWithin (high_of p.words) h
high_holds p h l small holds = high_within p.words h l small holds.words

-- a word that is put into a pair
pub split_holds : (span : Span) (n : ℕ) → Within span n → HoldsPair (pair_of_words span) (n / 256) (n % 256)
split_holds span n inside =
    let word : Within span (word (n / 256) (n % 256)) = record { above = omega arith; below = omega arith } in
    record { words = word; low = low_within span (n / 256) (n % 256) (omega arith) word }

-- a register's byte
pub byte_holds : (s : Known) (r : Registers) (register : Register) → AreBytes r → HoldsRegisters s r → ByteWithin (byte_of s register) (register_of r register)
byte_holds s r A bytes holds = holds.a
byte_holds s r B bytes holds = high_holds s.bc r.b r.c bytes.c holds.bc
byte_holds s r C bytes holds = holds.bc.low
byte_holds s r D bytes holds = high_holds s.de r.d r.e bytes.e holds.de
byte_holds s r E bytes holds = holds.de.low
byte_holds s r H bytes holds = high_holds s.hl r.h r.l bytes.l holds.hl
byte_holds s r L bytes holds = holds.hl.low

-- the copy of A when a register is written
copy_stays : (to copy : Register) (r : Registers) (byte : ℕ) → register_of r copy ≡ r.a → register_of (with_register r to byte) (copy_without to copy) ≡ (with_register r to byte).a
copy_stays A copy r byte same = refl
copy_stays B B r byte same = refl
copy_stays C C r byte same = refl
copy_stays D D r byte same = refl
copy_stays E E r byte same = refl
copy_stays H H r byte same = refl
copy_stays L L r byte same = refl
copy_stays to copy r byte same = same

-- a register is written
pub with_byte_holds : (s : Known) (r : Registers) (to : Register) (span : ByteSpan) (byte : ℕ) → AreBytes r → HoldsRegisters s r → ByteWithin span byte →
    HoldsRegisters (with_byte s to span) (with_register r to byte)
with_byte_holds s r A span byte bytes holds inside =
    let flags = holds.flags in
    record { a = inside; bc = holds.bc; de = holds.de; hl = holds.hl; copy = refl; flags = record { zero = flags.zero; carry = flags.carry; sign = flags.sign; compared = tt } }
with_byte_holds s r B span byte bytes holds inside =
    record { a = holds.a; bc = halves_hold span s.bc.low byte r.c inside holds.bc.low; de = holds.de; hl = holds.hl; copy = copy_stays B s.copy r byte holds.copy; flags = holds.flags }
with_byte_holds s r C span byte bytes holds inside =
    let bc = halves_hold (high_of s.bc.words) span r.b byte (high_holds s.bc r.b r.c bytes.c holds.bc) inside in
    record { a = holds.a; bc = bc; de = holds.de; hl = holds.hl; copy = copy_stays C s.copy r byte holds.copy; flags = holds.flags }
with_byte_holds s r D span byte bytes holds inside =
    record { a = holds.a; bc = holds.bc; de = halves_hold span s.de.low byte r.e inside holds.de.low; hl = holds.hl; copy = copy_stays D s.copy r byte holds.copy; flags = holds.flags }
with_byte_holds s r E span byte bytes holds inside =
    let de = halves_hold (high_of s.de.words) span r.d byte (high_holds s.de r.d r.e bytes.e holds.de) inside in
    record { a = holds.a; bc = holds.bc; de = de; hl = holds.hl; copy = copy_stays E s.copy r byte holds.copy; flags = holds.flags }
with_byte_holds s r H span byte bytes holds inside =
    record { a = holds.a; bc = holds.bc; de = holds.de; hl = halves_hold span s.hl.low byte r.l inside holds.hl.low; copy = copy_stays H s.copy r byte holds.copy; flags = holds.flags }
with_byte_holds s r L span byte bytes holds inside =
    let hl = halves_hold (high_of s.hl.words) span r.h byte (high_holds s.hl r.h r.l bytes.l holds.hl) inside in
    record { a = holds.a; bc = holds.bc; de = holds.de; hl = hl; copy = copy_stays L s.copy r byte holds.copy; flags = holds.flags }

-- the copy of A when a pair is written
bc_copy : (copy : Register) (r : Registers) (high low : ℕ) → register_of r copy ≡ r.a → register_of (record r { b = high; c = low }) (copy_outside Bc copy) ≡ r.a
bc_copy B r high low same = refl
bc_copy C r high low same = refl
bc_copy copy r high low same = same

de_copy : (copy : Register) (r : Registers) (high low : ℕ) → register_of r copy ≡ r.a → register_of (record r { d = high; e = low }) (copy_outside De copy) ≡ r.a
de_copy D r high low same = refl
de_copy E r high low same = refl
de_copy copy r high low same = same

hl_copy : (copy : Register) (r : Registers) (high low : ℕ) → register_of r copy ≡ r.a → register_of (record r { h = high; l = low }) (copy_outside Hl copy) ≡ r.a
hl_copy H r high low same = refl
hl_copy L r high low same = refl
hl_copy copy r high low same = same

-- a pair is written
pub bc_written_holds : (s : Known) (r : Registers) (span : PairSpan) (high low : ℕ) → HoldsRegisters s r → HoldsPair span high low → HoldsRegisters (with_span s Bc span) (record r { b = high; c = low })
bc_written_holds s r span high low holds pair = record { a = holds.a; bc = pair; de = holds.de; hl = holds.hl; copy = bc_copy s.copy r high low holds.copy; flags = holds.flags }

pub de_written_holds : (s : Known) (r : Registers) (span : PairSpan) (high low : ℕ) → HoldsRegisters s r → HoldsPair span high low → HoldsRegisters (with_span s De span) (record r { d = high; e = low })
de_written_holds s r span high low holds pair = record { a = holds.a; bc = holds.bc; de = pair; hl = holds.hl; copy = de_copy s.copy r high low holds.copy; flags = holds.flags }

pub hl_written_holds : (s : Known) (r : Registers) (span : PairSpan) (high low : ℕ) → HoldsRegisters s r → HoldsPair span high low → HoldsRegisters (with_span s Hl span) (record r { h = high; l = low })
hl_written_holds s r span high low holds pair = record { a = holds.a; bc = holds.bc; de = holds.de; hl = pair; copy = hl_copy s.copy r high low holds.copy; flags = holds.flags }

pub with_span_holds : (s : Known) (cpu : Cpu) (pair : Pair) (span : PairSpan) (n : ℕ) → HoldsRegisters s cpu.registers → HoldsPair span (n / 256) (n % 256) → HoldsRegisters (with_span s pair span) (with_pair cpu pair n).registers
with_span_holds s cpu Bc span n holds inside = bc_written_holds s cpu.registers span (n / 256) (n % 256) holds inside
with_span_holds s cpu De span n holds inside = de_written_holds s cpu.registers span (n / 256) (n % 256) holds inside
with_span_holds s cpu Hl span n holds inside = hl_written_holds s cpu.registers span (n / 256) (n % 256) holds inside
with_span_holds s cpu Sp span n holds inside = holds

-- flags of a result
zero_known : (s : ByteSpan) (n : ℕ) → ByteWithin s n → IsKnown (zero_of s) (n == 0)
zero_known s n inside = known_if (nat_lt 0 s.first) (s.last == 0) false true (n == 0) (λ low. grind (arith, nat_tests)) (λ low high. grind (arith, nat_tests))

sign_known : (s : ByteSpan) (n : ℕ) → ByteWithin s n → IsKnown (sign_of s) (nat_le 128 n)
sign_known s n inside = known_if (nat_lt s.last 128) (nat_le 128 s.first) false true (nat_le 128 n) (λ low. grind (arith, nat_tests)) (λ low high. grind (arith, nat_tests))

-- flags are written
flags_copy : (copy : Register) (r : Registers) (f : Flags) → register_of r copy ≡ r.a → register_of (record r { flags = f }) copy ≡ r.a
flags_copy A r f same = refl
flags_copy copy r f same = same

pub outcome_holds : (s : Known) (r : Registers) (out : Outcome) (byte : ℕ) (half full : Bool) → HoldsRegisters s r → Makes out byte full →
    HoldsRegisters (with_outcome s out) (record r { flags = flags_of_result byte half full })
unfolding flags_of_result
outcome_holds s r out byte half full holds makes =
    let copy = flags_copy s.copy r (flags_of_result byte half full) holds.copy in
    record { a = holds.a; bc = holds.bc; de = holds.de; hl = holds.hl; copy = copy; flags = record { zero = zero_known out.value byte makes.value; carry = makes.carry; sign = sign_known out.value byte makes.value; compared = tt } }

pub carry_holds : (s : Known) (r : Registers) (known : Option Bool) (carry : Bool) → HoldsRegisters s r → IsKnown known carry →
    HoldsRegisters (with_carry s known) (record r { flags = record r.flags { carry = carry } })
carry_holds s r known carry holds is =
    let copy = flags_copy s.copy r (record r.flags { carry = carry }) holds.copy in
    record { a = holds.a; bc = holds.bc; de = holds.de; hl = holds.hl; copy = copy; flags = record { zero = holds.flags.zero; carry = is; sign = holds.flags.sign; compared = tt } }

pub any_flags_hold : (s : Known) (r : Registers) (f : Flags) → HoldsRegisters s r → HoldsRegisters (with_any_flags s) (record r { flags = f })
any_flags_hold s r f holds = record { a = holds.a; bc = holds.bc; de = holds.de; hl = holds.hl; copy = flags_copy s.copy r f holds.copy; flags = record { zero = tt; carry = tt; sign = tt; compared = tt } }

-- a comparison is known
pub compared_holds : (s : Known) (r : Registers) (compared : Option ℕ) → HoldsRegisters s r → Compares compared r.a r.flags → HoldsRegisters (record s { compared = compared }) r
compared_holds s r compared holds is =
    let flags = holds.flags in
    record { a = holds.a; bc = holds.bc; de = holds.de; hl = holds.hl; copy = holds.copy; flags = record { zero = flags.zero; carry = flags.carry; sign = flags.sign; compared = is } }

-- another register is known to have A's byte
pub copy_holds : (s : Known) (r : Registers) (copy : Register) → HoldsRegisters s r → register_of r copy ≡ r.a → HoldsRegisters (record s { copy = copy }) r
copy_holds s r copy holds same = record { a = holds.a; bc = holds.bc; de = holds.de; hl = holds.hl; copy = same; flags = holds.flags }

-- bytes of a pair are cut
cut_high_holds : (p : PairSpan) (span : ByteSpan) (h l : ℕ) → l < 256 → HoldsPair p h l → ByteWithin span h → HoldsPair (cut_high p span) h l
cut_high_holds p span h l small holds inside = record {
  words = meet_within p.words (joined span any_byte) (word h l) holds.words (joined_within span any_byte h l inside (any_byte_within l small));
  low = holds.low;
}

cut_low_holds : (p : PairSpan) (span : ByteSpan) (h l : ℕ) → l < 256 → HoldsPair p h l → ByteWithin span l → HoldsPair (cut_low p span) h l
cut_low_holds p span h l small holds inside =
    let low = meet_bytes_within p.low span l holds.low inside in
    record {
      words = meet_within p.words (joined (high_of p.words) (cut_low p span).low) (word h l) holds.words (joined_within (high_of p.words) (cut_low p span).low h l (high_holds p h l small holds) low);
      low = low;
    }

cut_copy_holds : (s : Known) (r : Registers) (copy : Register) (span : ByteSpan) → AreBytes r → HoldsRegisters s r → ByteWithin span (register_of r copy) → HoldsRegisters (cut_copy s copy span) r
cut_copy_holds s r A span bytes holds inside = holds
cut_copy_holds s r B span bytes holds inside = record { a = holds.a; bc = cut_high_holds s.bc span r.b r.c bytes.c holds.bc inside; de = holds.de; hl = holds.hl; copy = holds.copy; flags = holds.flags }
cut_copy_holds s r C span bytes holds inside = record { a = holds.a; bc = cut_low_holds s.bc span r.b r.c bytes.c holds.bc inside; de = holds.de; hl = holds.hl; copy = holds.copy; flags = holds.flags }
cut_copy_holds s r D span bytes holds inside = record { a = holds.a; bc = holds.bc; de = cut_high_holds s.de span r.d r.e bytes.e holds.de inside; hl = holds.hl; copy = holds.copy; flags = holds.flags }
cut_copy_holds s r E span bytes holds inside = record { a = holds.a; bc = holds.bc; de = cut_low_holds s.de span r.d r.e bytes.e holds.de inside; hl = holds.hl; copy = holds.copy; flags = holds.flags }
cut_copy_holds s r H span bytes holds inside = record { a = holds.a; bc = holds.bc; de = holds.de; hl = cut_high_holds s.hl span r.h r.l bytes.l holds.hl inside; copy = holds.copy; flags = holds.flags }
cut_copy_holds s r L span bytes holds inside = record { a = holds.a; bc = holds.bc; de = holds.de; hl = cut_low_holds s.hl span r.h r.l bytes.l holds.hl inside; copy = holds.copy; flags = holds.flags }

pub cut_holds : (s : Known) (r : Registers) (span : ByteSpan) → AreBytes r → HoldsRegisters s r → ByteWithin span r.a → HoldsRegisters (cut s span) r
cut_holds s r span bytes holds inside =
    let h = cut_copy_holds s r s.copy span bytes holds (subst (λ n. ByteWithin span n) (sym holds.copy) inside) in
    record { a = meet_bytes_within s.a span r.a holds.a inside; bc = h.bc; de = h.de; hl = h.hl; copy = h.copy; flags = h.flags }

-- a pair is counted and added to: its low byte is counted by itself too
cut_pair_holds : (words : Span) (low : ByteSpan) (n m : ℕ) → Within words n → ByteWithin low m → m ≡ n % 256 → HoldsPair (cut_low (pair_of_words words) low) (n / 256) (n % 256)
cut_pair_holds words low n m inside other same = cut_low_holds (pair_of_words words) low (n / 256) (n % 256) (omega arith) (split_holds words n inside) (subst (λ k. ByteWithin low k) same other)

pub next_holds : (p : PairSpan) (h l : ℕ) → h < 256 → l < 256 → HoldsPair p h l → (let n = (word h l + 1) % 65536 in HoldsPair (next_pair p) (n / 256) (n % 256))
next_holds p h l high low holds =
    cut_pair_holds (next_span p.words) (next_byte p.low) ((word h l + 1) % 65536) ((l + 1) % 256)
    (next_within p.words (word h l) (word_of_bytes h l high low) holds.words) (next_byte_within p.low l low holds.low) (omega arith)

pub previous_holds : (p : PairSpan) (h l : ℕ) → h < 256 → l < 256 → HoldsPair p h l → (let n = (word h l + 65535) % 65536 in HoldsPair (previous_pair p) (n / 256) (n % 256))
previous_holds p h l high low holds =
    cut_pair_holds (previous_span p.words) (previous_byte p.low) ((word h l + 65535) % 65536) ((l + 255) % 256)
    (previous_within p.words (word h l) (word_of_bytes h l high low) holds.words) (previous_byte_within p.low l low holds.low) (omega arith)

pub sum_holds : (p q : PairSpan) (h l i k : ℕ) → h < 256 → l < 256 → i < 256 → k < 256 → HoldsPair p h l → HoldsPair q i k →
    (let n = (word h l + word i k) % 65536 in HoldsPair (sum_pair p q) (n / 256) (n % 256))
sum_holds p q h l i k high low other_high other_low holds other =
    cut_pair_holds (sum_span p.words q.words) (sum_of p.low q.low (byte_alone 0)).value ((word h l + word i k) % 65536) ((l + k + 0) % 256)
    (sum_within p.words q.words (word h l) (word i k) (word_of_bytes h l high low) (word_of_bytes i k other_high other_low) holds.words other.words)
    (sum_makes p.low q.low (byte_alone 0) l k 0 low other_low (omega arith) holds.low other.low (alone_within 0)).value (omega arith)

pub any_pair_holds : (h l : ℕ) → h < 256 → l < 256 → HoldsPair any_pair h l
any_pair_holds h l high low = record { words = any_word_within (word h l) (word_of_bytes h l high low); low = any_byte_within l low }

pub any_sum_holds : (p : PairSpan) (h l n : ℕ) → h < 256 → l < 256 → HoldsPair p h l → (let m = (word h l + n) % 65536 in HoldsPair (sum_pair p any_pair) (m / 256) (m % 256))
any_sum_holds p h l n high low holds =
    let i = n % 65536 / 256 in
    let k = n % 256 in
    let same : (word h l + word i k) % 65536 ≡ (word h l + n) % 65536 = omega arith in
    subst (λ m. HoldsPair (sum_pair p any_pair) (m / 256) (m % 256)) same
    (sum_holds p any_pair h l i k high low (omega arith) (omega arith) holds (any_pair_holds i k (omega arith) (omega arith)))

-- bytes make registers of which nothing_known holds
pub anything_holds : (r : Registers) → AreBytes r → HoldsRegisters nothing_known r
anything_holds r bytes = record {
  a = any_byte_within r.a bytes.a;
  bc = any_pair_holds r.b r.c bytes.b bytes.c;
  de = any_pair_holds r.d r.e bytes.d bytes.e;
  hl = any_pair_holds r.h r.l bytes.h bytes.l;
  copy = refl;
  flags = record { zero = tt; carry = tt; sign = tt; compared = tt };
}
