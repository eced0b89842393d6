-- Variables: bytes of quiet memory, each of which stays inside a span once it is there. A state names those of which it says that they
-- are. (This project's own.)
use Rattle.std.specs.Prelude.{◌≡◌, ◌==◌, ◌&&◌, ◌||◌, ◌/◌, ◌%◌, ◌^◌, ℕ, Bool, true, not, List, Option, None, Some, nat_le, nat_lt, slice_get}
use Rattle.machine80.specs.Effects.{byte_in}
use Rattle.verify80_spans.specs.Span.{ByteWithin, IsByteInside}
use Rattle.verify80_states.specs.declared.{states.cells.Cell.Cell, states.memory_after.StoredByte.StoredByte, states.variables.Variable.Variable}

-- whether one of the 64 bits of a set is set
abbrev pub is_bit : (set number : ℕ) → Bool
is_bit set number = nat_lt number 64 && (set / 2 ^ number % 2 == 1)

-- a set names a variable
pub record IsNamed (variables : List Variable) (set : ℕ) (v : Variable) : Type 0 where
  pub number : ℕ
  pub there : slice_get variables number ≡ Some v
  pub named : is_bit set number ≡ true

-- each variable that a set names has one of its bytes
abbrev pub HoldsSet : List Variable → (set : ℕ) → (memory : List ℕ) → Type 0
HoldsSet variables set memory = (v : Variable) → IsNamed variables set v → ByteWithin v.bytes (byte_in memory v.at)

-- a variable that a set names says all that a cell does
pub record IsSaid (variables : List Variable) (set : ℕ) (c : Cell) : Type 0 where
  pub variable : Variable
  pub named : IsNamed variables set variable
  pub at : variable.at ≡ c.at
  pub inside : IsByteInside variable.bytes c.bytes

-- a byte that is stored, if one is, is one of the variable's bytes or can't be where the variable is
abbrev pub takes : Variable → Option StoredByte → Bool
takes v None = true
takes v (Some b) = not (nat_le b.at.first v.at && nat_le v.at b.at.last) || (nat_le v.bytes.first b.bytes.first && nat_le b.bytes.last v.bytes.last)
