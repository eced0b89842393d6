-- The bytes of an instruction at an address of a program.
use Rattle.std.specs.Prelude.{◌≡◌, ℕ, ◌+◌, ◌-◌, ◌<◌, ◌≤◌, Bool, true, false, ◌&&◌, nat_le, Option, Some, Ok, Err, refl, if◌then◌else◌}
use Rattle.std.specs.List.{list_all, range_with_len}
use Rattle.std.proofs.Common.{◌∙◌, ap, sym, arith, suc, zero}
use Rattle.std.proofs.lemmas.Bool.Decides.{nat_tests}
use Rattle.decode80.specs.declared.fetching.FetchFault.TheVariants.{Outside}
use Rattle.decode80.specs.declared.instr.Instr.{Instr}
use Rattle.decode80.specs.Decoded.{decoded}
use Rattle.decode80.specs.Fetch.{ahead, all_code, admitted_if_used, fetch}

-- the bytes from a place on, one after another, and none left
pub each-more : (inside : ℕ → Bool) (i e : ℕ) → i < e → list_all inside (range_with_len i (e - i)) ≡ (inside i && list_all inside (range_with_len (i + 1) (e - (i + 1))))
each-more inside i e h = let more : e - i ≡ suc (e - (i + 1)) = omega arith in ap (λ n. list_all inside (range_with_len i n)) more

pub each-none : (inside : ℕ → Bool) (i e : ℕ) → e ≤ i → list_all inside (range_with_len i (e - i)) ≡ true
each-none inside i e h = let none : e - i ≡ 0 = omega arith in ap (λ n. list_all inside (range_with_len i n)) none

-- byte by byte
pub all_code-each : (code : ℕ → Bool) (a first count : ℕ) → first ≡ a → first + count ≤ 65536 → all_code code a count ≡ list_all code (range_with_len first (first + count - first))
unfolding all_code
all_code-each code a first count same within =
    let count_is : first + count - first ≡ count = omega arith in
    let inside : nat_le (a + count) 65536 ≡ true = grind (arith, nat_tests) in
    ap (λ (b : Bool). b && list_all code (range_with_len a count)) inside ∙ ap (λ n. list_all code (range_with_len n count)) (sym same) ∙ ap (λ n. list_all code (range_with_len first n)) (sym count_is)

-- two tests that both hold
both : (a b : Bool) → (a && b) ≡ true → (a ≡ true) × (b ≡ true)
both true b h = (refl, h)
both false b h = cc

-- the first byte of an instruction in code is code
pub first_code : (code : ℕ → Bool) (a n : ℕ) → 1 ≤ n → all_code code a n ≡ true → code a ≡ true
unfolding all_code
first_code code a zero some all = absurd (omega arith)
first_code code a (suc n) some all = (both (code a) (list_all code (range_with_len (a + 1) n)) (both (nat_le (a + suc n) 65536) (list_all code (range_with_len a (suc n))) all).1).0

-- an instruction in code
pub fetched : (code : ℕ → Bool) (held : ℕ → ℕ) (address second third b₁ b₂ b₃ n next : ℕ) (i : Instr) (r : Option (Instr × ℕ)) →
    second ≡ ahead address 1 → third ≡ ahead address 2 → b₁ ≡ held address → b₂ ≡ held second → b₃ ≡ held third →
    r ≡ decoded b₁ b₂ b₃ → r ≡ Some (i, n) → 1 ≤ n → all_code code address n ≡ true → next ≡ ahead address n →
    Ok (record { instr = i; next = next }) ≡ fetch code held address
unfolding fetch
fetched code held address second third b₁ b₂ b₃ n next i r at_second at_third first_held second_held third_held value found some all goes =
    let whole : Option (Instr × ℕ) = decoded (held address) (held (ahead address 1)) (held (ahead address 2)) in
    let is : whole ≡ Some (i, n) = cc in
    sym (ap (λ (b : Bool). if b then admitted_if_used code address whole else Err Outside) (first_code code address n some all)
    ∙ ap (λ (o : Option (Instr × ℕ)). admitted_if_used code address o) is
    ∙ ap (λ (b : Bool). if b then Ok (record { instr = i; next = ahead address n }) else Err Outside) all
    ∙ ap (λ (m : ℕ). Ok (record { instr = i; next = m })) (sym goes))
