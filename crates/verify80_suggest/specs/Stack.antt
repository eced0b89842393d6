-- Where a stack lies: right below the address that LXI SP names, 0000 for the end of memory. (Intel 8080 Microcomputer Systems
-- User's Manual: a push stores below SP. How long the stack is taken to be is this project's own.)
use Rattle.std.specs.Prelude.{◌≡◌, ◌<◌, ◌≤◌, ◌-◌, ◌%◌, ◌==◌, ℕ, Bool, true, false, Option, Some, None, if◌then◌else◌}
use Rattle.image80.specs.declared.range.Range.{Range}
use Rattle.verify80_suggest.specs.declared.setters.Setter.{Setter}

-- the address above a stack
abbrev pub end_of : (word : ℕ) → ℕ
end_of word = if word == 0 then 65536 else word

-- a stack that ends at an address and consists of free bytes: as many of them as are wanted, or, if they are fewer, all down to
-- one that is taken
pub record IsBelow (taken : ℕ → Bool) («end» wanted : ℕ) (stack : Range) : Type 0 where
  pub place : stack.first ≡ («end» - stack.length) % 65536
  pub small : «end» ≤ 65536
  pub inside : stack.length ≤ «end»
  pub fits : stack.length < 65536
  pub free : (k : ℕ) → k < stack.length → taken («end» - 1 - k) ≡ false
  pub few : stack.length ≤ wanted
  pub cut : stack.length < wanted → stack.length < «end» → stack.length < 65535 → taken («end» - 1 - stack.length) ≡ true

-- the stack ends at the word of an LXI SP; without one it is empty, at 0000
abbrev pub IsStack : (taken : ℕ → Bool) → Option Setter → (wanted : ℕ) → Range → Type 0
IsStack taken None wanted stack = stack ≡ record { first = 0; length = 0 }
IsStack taken (Some setter) wanted stack = IsBelow taken (end_of setter.word) wanted stack
