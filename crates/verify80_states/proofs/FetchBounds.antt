-- What is fetched from bytes has an operand in its range.
use Rattle.verify80_states.proofs.Names.{◌≡◌, ◌<◌, ℕ, Bool, true, false, Option, None, Some, Result, Ok, Err, slice_index, refl, if◌then◌else◌}
use Rattle.verify80_states.proofs.Names.{result_ok, same_Some, subst, Instr, Fetched, FetchFault, Outside, decoded, HasOperandInRange}
use Rattle.verify80_states.proofs.Names.{ahead, all_code, admitted_if_used, in_code, IsByte, IsBounded, FetchedOperandsAreBounded}
use Rattle.decode80.specs.Fetch.{fetch as fetch_in}
use Rattle.machine80.specs.Step.{fetch}
use Rattle.verify80_states.proofs.{ArithmeticBounds.ahead_is_word, ByteLemmas.byte_at}

-- what decode80 says of decoded operands
abbrev pub DecodesInRange : Type 0
DecodesInRange = (first second third : ℕ) → second < 256 → third < 256 → (i : Instr) (n : ℕ) → decoded first second third ≡ Some (i, n) → HasOperandInRange i

abbrev BoundedIfFetched : Result Fetched FetchFault → Type 0
BoundedIfFetched r = (found : Fetched) → result_ok r ≡ Some found → IsBounded found

code_bounded : (t : Bool) (r : Result Fetched FetchFault) → BoundedIfFetched r → BoundedIfFetched (if t then r else Err Outside)
code_bounded true r bounded = bounded
code_bounded false r bounded = λ found is. cc

used_bounded : (code : ℕ → Bool) (address : ℕ) (o : Option (Instr × ℕ)) → ((i : Instr) (n : ℕ) → o ≡ Some (i, n) → HasOperandInRange i) → BoundedIfFetched (admitted_if_used code address o)
used_bounded code address None small = λ found is. cc
used_bounded code address (Some found) small = code_bounded (all_code code address found.1) (Ok (record { instr = found.0; next = ahead address found.1 }))
    (λ other is. subst IsBounded (same_Some _ _ is) (record { operand = small found.0 found.1 refl; next = ahead_is_word address found.1 }))

fetched_bounded : DecodesInRange → (code : ℕ → Bool) (held : ℕ → ℕ) → ((a : ℕ) → IsByte (held a)) → (address : ℕ) → BoundedIfFetched (fetch_in code held address)
unfolding fetch_in
fetched_bounded law code held bytes address = code_bounded (code address) _
    (used_bounded code address (decoded (held address) (held (ahead address 1)) (held (ahead address 2)))
    (λ i n is. law (held address) (held (ahead address 1)) (held (ahead address 2)) (bytes (ahead address 1)) (bytes (ahead address 2)) i n is))

pub operands_bounded : DecodesInRange → FetchedOperandsAreBounded
unfolding fetch
operands_bounded law = λ regions memory address found bytes is.
    fetched_bounded law (in_code regions) (λ place. slice_index memory place) (λ a. byte_at memory a bytes) address found is
