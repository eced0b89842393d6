-- What is fetched depends on the bytes of code alone.
use Rattle.std.specs.Prelude.{◌≡◌, ℕ, ◌+◌, ◌%◌, ◌<◌, ◌≤◌, Bool, true, false, ◌&&◌, nat_le, Option, None, Some, Ok, Err, length, refl, if◌then◌else◌}
use Rattle.std.specs.List.{list_all, range_with_len}
use Rattle.std.specs.Option.{option_map}
use Rattle.std.proofs.Common.{◌∙◌, ap, sym, arith, suc, zero, inl, inr}
use Rattle.std.proofs.lemmas.Bool.{cases_Bool}
use Rattle.std.proofs.lemmas.Bool.Decides.{nat_tests}
use Rattle.decode80.specs.declared.instr.Instr.{Instr}
use Rattle.decode80.specs.declared.instr.Instr.TheVariants.{Mvi, MviMemory, Lxi, Operate, Jmp, JumpIf, Call, CallIf, Shld, Lhld, Sta, Lda, In, Out}
use Rattle.decode80.specs.declared.operation.Operand.TheVariants.{Register as InRegister, Memory, Immediate}
use Rattle.decode80.specs.declared.fetching.FetchFault.TheVariants.{Outside}
use Rattle.decode80.specs.Spelling.{spelling}
use Rattle.decode80.specs.Decoded.{row, completed, decoded}
use Rattle.decode80.specs.Fetch.{ahead, all_code, admitted, admitted_if_used, fetch, FetchReadsCodeAlone}

-- an instruction's operand is in the bytes that it has
operand_used : (i : Instr) (l h l' h' : ℕ) → (2 ≤ length (spelling i) → l ≡ l') → (3 ≤ length (spelling i) → h ≡ h') → completed l h i ≡ completed l' h' i
operand_used (Mvi d b) l h l' h' low high = ap (λ (n : ℕ). completed n h (Mvi d b)) (low (omega arith))
operand_used (MviMemory b) l h l' h' low high = ap (λ (n : ℕ). completed n h (MviMemory b)) (low (omega arith))
operand_used (Operate o (Immediate b)) l h l' h' low high = ap (λ (n : ℕ). completed n h (Operate o (Immediate b))) (low (omega arith))
operand_used (Operate o (InRegister r)) l h l' h' low high = refl
operand_used (Operate o Memory) l h l' h' low high = refl
operand_used (In b) l h l' h' low high = ap (λ (n : ℕ). completed n h (In b)) (low (omega arith))
operand_used (Out b) l h l' h' low high = ap (λ (n : ℕ). completed n h (Out b)) (low (omega arith))
operand_used (Lxi r w) l h l' h' low high = ap (λ (n : ℕ). completed n h (Lxi r w)) (low (omega arith)) ∙ ap (λ (n : ℕ). completed l' n (Lxi r w)) (high (omega arith))
operand_used (Jmp w) l h l' h' low high = ap (λ (n : ℕ). completed n h (Jmp w)) (low (omega arith)) ∙ ap (λ (n : ℕ). completed l' n (Jmp w)) (high (omega arith))
operand_used (JumpIf c w) l h l' h' low high = ap (λ (n : ℕ). completed n h (JumpIf c w)) (low (omega arith)) ∙ ap (λ (n : ℕ). completed l' n (JumpIf c w)) (high (omega arith))
operand_used (Call w) l h l' h' low high = ap (λ (n : ℕ). completed n h (Call w)) (low (omega arith)) ∙ ap (λ (n : ℕ). completed l' n (Call w)) (high (omega arith))
operand_used (CallIf c w) l h l' h' low high = ap (λ (n : ℕ). completed n h (CallIf c w)) (low (omega arith)) ∙ ap (λ (n : ℕ). completed l' n (CallIf c w)) (high (omega arith))
operand_used (Shld w) l h l' h' low high = ap (λ (n : ℕ). completed n h (Shld w)) (low (omega arith)) ∙ ap (λ (n : ℕ). completed l' n (Shld w)) (high (omega arith))
operand_used (Lhld w) l h l' h' low high = ap (λ (n : ℕ). completed n h (Lhld w)) (low (omega arith)) ∙ ap (λ (n : ℕ). completed l' n (Lhld w)) (high (omega arith))
operand_used (Sta w) l h l' h' low high = ap (λ (n : ℕ). completed n h (Sta w)) (low (omega arith)) ∙ ap (λ (n : ℕ). completed l' n (Sta w)) (high (omega arith))
operand_used (Lda w) l h l' h' low high = ap (λ (n : ℕ). completed n h (Lda w)) (low (omega arith)) ∙ ap (λ (n : ℕ). completed l' n (Lda w)) (high (omega arith))
operand_used i l h l' h' low high = refl

-- two tests that both hold
both : (a b : Bool) → (a && b) ≡ true → (a ≡ true) × (b ≡ true)
both true b h = (refl, h)
both false b h = cc

-- each of consecutive numbers passes
each_passes : (f : ℕ → Bool) (a n j : ℕ) → list_all f (range_with_len a n) ≡ true → j < n → f (a + j) ≡ true
each_passes f a zero j h inside = absurd (omega arith)
each_passes f a (suc n) zero h inside = let same : a + 0 ≡ a = omega arith in ap f same ∙ (both (f a) (list_all f (range_with_len (a + 1) n)) h).0
each_passes f a (suc n) (suc j) h inside =
    let same : a + suc j ≡ a + 1 + j = omega arith in
    ap f same ∙ each_passes f (a + 1) n j (both (f a) (list_all f (range_with_len (a + 1) n)) h).1 (omega arith)

mod_below : (n : ℕ) → n < 65536 → n % 65536 ≡ n
mod_below n h = omega arith

-- a byte of the instruction is code, and lies below 65536
byte_is_code : (code : ℕ → Bool) (at count j : ℕ) → all_code code at count ≡ true → j < count → (code (at + j) ≡ true) × (ahead at j ≡ at + j)
unfolding all_code ahead
byte_is_code code at count j all inside =
    let parts : (nat_le (at + count) 65536 ≡ true) × (list_all code (range_with_len at count) ≡ true) = both (nat_le (at + count) 65536) (list_all code (range_with_len at count)) all in
    let below : at + j < 65536 = grind (arith, nat_tests, parts.0) in
    (each_passes code at count j parts.1 inside, mod_below (at + j) below)

-- the same byte at a place of the instruction
same_byte : (code : ℕ → Bool) (held held' : ℕ → ℕ) (at count j : ℕ) → ((a : ℕ) → code a ≡ true → held a ≡ held' a) → all_code code at count ≡ true → j < count → held (ahead at j) ≡ held' (ahead at j)
same_byte code held held' at count j same all inside =
    let here : (code (at + j) ≡ true) × (ahead at j ≡ at + j) = byte_is_code code at count j all inside in
    same (ahead at j) (ap code here.1 ∙ here.0)

-- what a row of the first byte gives
admitted_same : (code : ℕ → Bool) (held held' : ℕ → ℕ) (at : ℕ) (r : Option Instr) → ((a : ℕ) → code a ≡ true → held a ≡ held' a) →
    admitted_if_used code at (option_map (completed (held (ahead at 1)) (held (ahead at 2))) r) ≡ admitted_if_used code at (option_map (completed (held' (ahead at 1)) (held' (ahead at 2))) r)
admitted_same code held held' at None same = refl
admitted_same code held held' at (Some i) same =
    let low : ℕ = held (ahead at 1) in
    let high : ℕ = held (ahead at 2) in
    let low' : ℕ = held' (ahead at 1) in
    let high' : ℕ = held' (ahead at 2) in
    elim (cases_Bool (all_code code at (length (spelling i)))) [
      | inl e ↦ ap (λ (x : Instr × ℕ). admitted code at x) (operand_used i low high low' high'
          (λ two. same_byte code held held' at (length (spelling i)) 1 same e (omega arith))
          (λ three. same_byte code held held' at (length (spelling i)) 2 same e (omega arith)))
      | inr e ↦
          let refused : (l h : ℕ) → admitted code at (completed l h i) ≡ Err Outside = λ l h. ap (λ (b : Bool). if b then Ok (record { instr = (completed l h i).0; next = ahead at (length (spelling i)) }) else Err Outside) e in
          refused low high ∙ sym (refused low' high')
    ]

-- in code, or elsewhere
fetched_same : (code : ℕ → Bool) (held held' : ℕ → ℕ) (at : ℕ) → ((a : ℕ) → code a ≡ true → held a ≡ held' a) → (b : Bool) → code at ≡ b → fetch code held at ≡ fetch code held' at
unfolding fetch decoded
fetched_same code held held' at same true here =
    let begun : (h : ℕ → ℕ) → fetch code h at ≡ admitted_if_used code at (decoded (h at) (h (ahead at 1)) (h (ahead at 2))) = λ h.
    ap (λ (b : Bool). if b then admitted_if_used code at (decoded (h at) (h (ahead at 1)) (h (ahead at 2))) else Err Outside) here in
    begun held
    ∙ ap (λ (n : ℕ). admitted_if_used code at (decoded n (held (ahead at 1)) (held (ahead at 2)))) (same at here)
    ∙ admitted_same code held held' at (row (held' at)) same
    ∙ sym (begun held')
fetched_same code held held' at same false here =
    let begun : (h : ℕ → ℕ) → fetch code h at ≡ Err Outside = λ h.
    ap (λ (b : Bool). if b then admitted_if_used code at (decoded (h at) (h (ahead at 1)) (h (ahead at 2))) else Err Outside) here in
    begun held ∙ sym (begun held')

pub reads_code_alone : FetchReadsCodeAlone
reads_code_alone = λ code held held' same at. fetched_same code held held' at same (code at) refl
