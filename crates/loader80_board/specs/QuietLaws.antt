-- What follows for the worlds of quiet boards: laws that hold whatever is quiet and listed. (This project's own.)
use Rattle.std.specs.Prelude.{ℕ, Bool}
use Rattle.image80.specs.Regions.{Areas}
use Rattle.machine80.specs.{Step.Machine, World.World}
use Rattle.verify80.specs.Boards.{Executes, OnBoard, begins, disturbed, executed}
use Rattle.verify80_states.specs.QuietBoards.{OnQuietBoard, begins as begins_quiet, disturbed as disturbed_quiet, executed as executed_quiet}

-- they are worlds of a board
pub is_on_board : (regions : Areas) (quiet : ℕ → Bool) (listed : ℕ → Type 0) (start : Machine) (began set : Bool) (w : World) →
    OnQuietBoard regions quiet listed start began set w → OnBoard regions listed start began set w
is_on_board regions quiet listed start began set w (begins_quiet _ _ is same) = begins set w is same
is_on_board regions quiet listed start began set w (disturbed_quiet _ v _ on by stays) =
    disturbed set v w (is_on_board regions quiet listed start began set v on) by
is_on_board regions quiet listed start began set w (executed_quiet before _ v _ on by is) =
    executed before set v w (is_on_board regions quiet listed start began before v on) by is

-- they are so where less is listed
pub on_board_of_fewer : (regions : Areas) (quiet : ℕ → Bool) (listed fewer : ℕ → Type 0) (start : Machine) (began : Bool) →
    ((address : ℕ) → fewer address → listed address) → (set : Bool) (w : World) → OnQuietBoard regions quiet listed start began set w →
    OnQuietBoard regions quiet fewer start began set w
on_board_of_fewer regions quiet listed fewer start began are set w (begins_quiet _ _ is same) = begins_quiet set w is same
on_board_of_fewer regions quiet listed fewer start began are set w (disturbed_quiet _ v _ on by stays) =
    disturbed_quiet set v w (on_board_of_fewer regions quiet listed fewer start began are set v on) by stays
on_board_of_fewer regions quiet listed fewer start began are set w (executed_quiet before _ v _ on by is) =
    let e : Executes regions fewer v w = record {
      found = by.found;
      byte = by.byte;
      after = by.after;
      fetched = by.fetched;
      small = by.small;
      inside = λ here. by.inside (are v.machine.cpu.pc here);
      goes = by.goes;
      is = by.is;
    } in
    executed_quiet before set v w (on_board_of_fewer regions quiet listed fewer start began are before v on) e is
