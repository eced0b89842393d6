-- What a condition leaves of what is known holds if the condition does.
use Rattle.verify80_states.proofs.Names.{◌≡◌, ◌==◌, ◌+◌, ◌-◌, ℕ, Bool, true, false, not, Option, None, Some, nat_lt, nat_le, min, max, refl, arith, subst}
use Rattle.verify80_states.proofs.Names.{sym, ap, ◌∙◌, nat_tests, Register, A, Condition, NonZero, Zero, NoCarry, Carry, Plus, Minus, Areas, Registers}
use Rattle.verify80_states.proofs.Names.{Machine, ByteSpan, Known, AreBytes, ByteWithin, byte_alone, only, without, below, from, Holds, HoldsRegisters}
use Rattle.verify80_states.proofs.Names.{HoldsSource, IsQuietSource, IsQuietKnown, Compares, cut, cut_copy, given_flag, zero_bytes, carry_bytes, cut_to}
use Rattle.verify80_states.proofs.Names.{given_zero, given_carry, given_sign, given, not-not, State, HoldsKnown, IsQuietState, given_state, with_known}
use Rattle.verify80_spans.specs.Span.{IsKnown}
use Rattle.machine80.specs.{Flags.holds as holds_of}
use Rattle.verify80_states.proofs.{StateLemmas.cut_holds, CellLemmas.cells_cut, CellLemmas.cells_cut_quiet}

-- something is left, it holds, and says something of quiet addresses alone
pub record Leaves (quiet : ℕ → Bool) (m : Machine) (set : ℕ) (o : Option Known) : Type 0 where
  pub left : Known
  pub is : o ≡ Some left
  pub holds : HoldsKnown left m
  pub are : IsQuietKnown quiet left
  pub same : left.set ≡ set

-- some bytes are left, and one is among them
record LeavesByte (o : Option ByteSpan) (n : ℕ) : Type 0 where
  span : ByteSpan
  is : o ≡ Some span
  inside : ByteWithin span n

only_leaves : (n a : ℕ) (s : ByteSpan) → (a == n) ≡ true → ByteWithin s a → LeavesByte (only n s) a
only_leaves n a s same inside =
    let is : a ≡ n = grind (arith, nat_tests) in
    let low : nat_le s.first n ≡ true = grind (arith, nat_tests) in
    let high : nat_le n s.last ≡ true = grind (arith, nat_tests) in
    record { span = byte_alone n; is = rw (low, high) refl; inside = record { above = omega (arith, is); below = omega (arith, is) } }

without_leaves : (n a : ℕ) (s : ByteSpan) → (a == n) ≡ false → ByteWithin s a → LeavesByte (without n s) a
without_leaves n a s other inside = go (s.first == n) (nat_lt n s.last) (s.last == n) (nat_lt s.first n) refl refl refl refl where
  go : (b c d e : Bool) → (s.first == n) ≡ b → nat_lt n s.last ≡ c → (s.last == n) ≡ d → nat_lt s.first n ≡ e → LeavesByte (without n s) a
  go true true d e first more last less = record { span = record { first = n + 1; last = s.last }; is = rw (first, more) refl; inside = record { above = grind (arith, nat_tests); below = grind (arith, nat_tests) } }
  go true false d e first more last less = absurd (grind (arith, nat_tests))
  go false c true true first more last less = record { span = record { first = s.first; last = n - 1 }; is = rw (first, last, less) refl; inside = record { above = grind (arith, nat_tests); below = grind (arith, nat_tests) } }
  go false c true false first more last less = absurd (grind (arith, nat_tests))
  go false c false e first more last less = record { span = s; is = rw (first, last) refl; inside = inside }

below_leaves : (n a : ℕ) (s : ByteSpan) → nat_lt a n ≡ true → ByteWithin s a → LeavesByte (below n s) a
below_leaves n a s less inside =
    let low : nat_lt s.first n ≡ true = grind (arith, nat_tests) in
    record { span = record { first = s.first; last = min s.last (n - 1) }; is = rw low refl; inside = record { above = grind (arith, nat_tests); below = grind (arith, nat_tests) } }

from_leaves : (n a : ℕ) (s : ByteSpan) → nat_lt a n ≡ false → ByteWithin s a → LeavesByte (from n s) a
from_leaves n a s more inside =
    let high : nat_le n s.last ≡ true = grind (arith, nat_tests) in
    record { span = record { first = max s.first n; last = s.last }; is = rw high refl; inside = record { above = grind (arith, nat_tests); below = grind (arith, nat_tests) } }

-- the bytes of A that are left have A
zero_leaves : (compared : Option ℕ) (wanted : Bool) (s : Known) (r : Registers) → HoldsRegisters s r → Compares compared r.a r.flags → r.flags.zero ≡ wanted → LeavesByte (zero_bytes compared wanted s.a) r.a
zero_leaves None wanted s r holds compares is = record { span = s.a; is = refl; inside = holds.a }
zero_leaves (Some n) true s r holds compares is = only_leaves n r.a s.a (sym compares.0 ∙ is) holds.a
zero_leaves (Some n) false s r holds compares is = without_leaves n r.a s.a (sym compares.0 ∙ is) holds.a

carry_leaves : (compared : Option ℕ) (wanted : Bool) (s : Known) (r : Registers) → HoldsRegisters s r → Compares compared r.a r.flags → r.flags.carry ≡ wanted → LeavesByte (carry_bytes compared wanted s.a) r.a
carry_leaves None wanted s r holds compares is = record { span = s.a; is = refl; inside = holds.a }
carry_leaves (Some n) true s r holds compares is = below_leaves n r.a s.a (sym compares.1 ∙ is) holds.a
carry_leaves (Some n) false s r holds compares is = from_leaves n r.a s.a (sym compares.1 ∙ is) holds.a

-- what a cut leaves as it is
cut_keeps : (s : Known) (copy : Register) (span : ByteSpan) → ((cut_copy s copy span).source ≡ s.source) × ((cut_copy s copy span).set ≡ s.set)
cut_keeps s A span = (refl, refl)
cut_keeps s copy span = (refl, refl)

pub cut_set : (s : Known) (span : ByteSpan) → (cut s span).set ≡ s.set
cut_set s span = (cut_keeps s s.copy span).1

module _ (quiet : ℕ → Bool) (m : Machine) (bytes : AreBytes m.cpu.registers) where
  abbrev LeavesOf : (set : ℕ) → Option Known → Type 0
  LeavesOf set o = Leaves quiet m set o

  -- flags become known
  with_flags : (s : Known) (z cy n : Option Bool) → HoldsKnown s m → IsKnown z m.cpu.registers.flags.zero → IsKnown cy m.cpu.registers.flags.carry → IsKnown n m.cpu.registers.flags.sign → HoldsKnown (record s { zero = z; carry = cy; sign = n }) m
  with_flags s z cy n holds zero carry sign =
      let r = holds.registers in
      record {
        registers = record { a = r.a; bc = r.bc; de = r.de; hl = r.hl; copy = r.copy; flags = record { zero = zero; carry = carry; sign = sign; compared = r.flags.compared } };
        cells = holds.cells;
        source = holds.source;
      }

  -- what is left if a flag is as it is, if that isn't known
  flag_given : (known : Option Bool) (wanted truth : Bool) (s : Known) (o : Option Known) → HoldsKnown s m → IsQuietKnown quiet s → IsKnown known truth → truth ≡ wanted → LeavesOf s.set o → LeavesOf s.set (given_flag known wanted s o)
  flag_given None wanted truth s o holds are knows is left = left
  flag_given (Some true) true truth s o holds are knows is left = record { left = s; is = refl; holds = holds; are = are; same = refl }
  flag_given (Some false) false truth s o holds are knows is left = record { left = s; is = refl; holds = holds; are = are; same = refl }
  flag_given (Some known) wanted truth s o holds are knows is left = cc

  -- what is known when A has one of some bytes too
  pub cut_known : (s : Known) (span : ByteSpan) → HoldsKnown s m → ByteWithin span m.cpu.registers.a → HoldsKnown (cut s span) m
  cut_known s span holds inside =
      let keeps = cut_keeps s s.copy span in
      record {
        registers = cut_holds s m.cpu.registers span bytes holds.registers inside;
        cells = cells_cut s.source span s.cells m.memory m.cpu.registers.a holds.source inside holds.cells;
        source = subst (λ (o : Option ℕ). HoldsSource o m.memory m.cpu.registers.a) (sym keeps.0) holds.source;
      }

  cut_are : (s : Known) (span : ByteSpan) → IsQuietKnown quiet s → IsQuietKnown quiet (cut s span)
  cut_are s span are = record {
    cells = cells_cut_quiet quiet s.source span s.cells are.source are.cells;
    source = subst (IsQuietSource quiet) (sym (cut_keeps s s.copy span).0) are.source;
  }

  cut_left : (o : Option ByteSpan) (t : Known) → HoldsKnown t m → IsQuietKnown quiet t → LeavesByte o m.cpu.registers.a → LeavesOf t.set (cut_to o t)
  cut_left o t holds are byte =
      record { left = cut t byte.span; is = ap (λ (x : Option ByteSpan). cut_to x t) byte.is; holds = cut_known t byte.span holds byte.inside; are = cut_are t byte.span are; same = cut_set t byte.span }

  zero_given : (wanted : Bool) (s : Known) → HoldsKnown s m → IsQuietKnown quiet s → m.cpu.registers.flags.zero ≡ wanted → LeavesOf s.set (given_zero wanted s)
  zero_given wanted s holds are is =
      let flags = holds.registers.flags in
      flag_given s.zero wanted m.cpu.registers.flags.zero s _ holds are flags.zero is
      (cut_left (zero_bytes s.compared wanted s.a) (record s { zero = Some wanted }) (with_flags s (Some wanted) s.carry s.sign holds is flags.carry flags.sign) (record { cells = are.cells; source = are.source })
      (zero_leaves s.compared wanted s m.cpu.registers holds.registers flags.compared is))

  carry_given : (wanted : Bool) (s : Known) → HoldsKnown s m → IsQuietKnown quiet s → m.cpu.registers.flags.carry ≡ wanted → LeavesOf s.set (given_carry wanted s)
  carry_given wanted s holds are is =
      let flags = holds.registers.flags in
      flag_given s.carry wanted m.cpu.registers.flags.carry s _ holds are flags.carry is
      (cut_left (carry_bytes s.compared wanted s.a) (record s { carry = Some wanted }) (with_flags s s.zero (Some wanted) s.sign holds flags.zero is flags.sign) (record { cells = are.cells; source = are.source })
      (carry_leaves s.compared wanted s m.cpu.registers holds.registers flags.compared is))

  sign_given : (wanted : Bool) (s : Known) → HoldsKnown s m → IsQuietKnown quiet s → m.cpu.registers.flags.sign ≡ wanted → LeavesOf s.set (given_sign wanted s)
  sign_given wanted s holds are is =
      let flags = holds.registers.flags in
      flag_given s.sign wanted m.cpu.registers.flags.sign s _ holds are flags.sign is
      (record { left = record s { sign = Some wanted }; is = refl; holds = with_flags s s.zero s.carry (Some wanted) holds flags.zero flags.carry is; are = record { cells = are.cells; source = are.source }; same = refl })

turned : (b c : Bool) → not b ≡ c → b ≡ not c
turned b c h = sym (not-not b) ∙ ap (λ (x : Bool). not x) h

pub given_holds : (quiet : ℕ → Bool) (m : Machine) (bytes : AreBytes m.cpu.registers) (c : Condition) (wanted : Bool) (s : Known) → HoldsKnown s m → IsQuietKnown quiet s → holds_of c m.cpu.registers.flags ≡ wanted →
    Leaves quiet m s.set (given c wanted s)
unfolding holds_of
given_holds quiet m bytes Zero wanted s holds are is = zero_given quiet m bytes wanted s holds are is
given_holds quiet m bytes NonZero wanted s holds are is = zero_given quiet m bytes (not wanted) s holds are (turned m.cpu.registers.flags.zero wanted is)
given_holds quiet m bytes Carry wanted s holds are is = carry_given quiet m bytes wanted s holds are is
given_holds quiet m bytes NoCarry wanted s holds are is = carry_given quiet m bytes (not wanted) s holds are (turned m.cpu.registers.flags.carry wanted is)
given_holds quiet m bytes Minus wanted s holds are is = sign_given quiet m bytes wanted s holds are is
given_holds quiet m bytes Plus wanted s holds are is = sign_given quiet m bytes (not wanted) s holds are (turned m.cpu.registers.flags.sign wanted is)
given_holds quiet m bytes c wanted s holds are is = record { left = s; is = refl; holds = holds; are = are; same = refl }

-- and the same of a state
pub record LeavesState (quiet : ℕ → Bool) (regions : Areas) (m : Machine) (set : ℕ) (o : Option State) : Type 0 where
  pub left : State
  pub is : o ≡ Some left
  pub holds : Holds regions left m
  pub are : IsQuietState quiet left
  pub same : left.known.set ≡ set

pub given_state_holds : (quiet : ℕ → Bool) (regions : Areas) (m : Machine) (bytes : AreBytes m.cpu.registers) (c : Condition) (wanted : Bool) (s : State) → Holds regions s m → IsQuietState quiet s → holds_of c m.cpu.registers.flags ≡ wanted →
    LeavesState quiet regions m s.known.set (given_state c wanted s)
given_state_holds quiet regions m bytes c wanted s holds are is =
    let k = given_holds quiet m bytes c wanted s.known holds.known are is in
    record { left = record s { known = k.left }; is = ap (λ (o : Option Known). with_known s o) k.is; holds = record { known = k.holds; words = holds.words }; are = k.are; same = k.same }
