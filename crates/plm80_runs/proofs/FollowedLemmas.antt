-- Runs of programs that a table follows.
use Rattle.plm80_runs.proofs.Names.{◌≡◌, ◌<◌, ℕ, true, false, All, List, [], Located, refl}
use Rattle.std.specs.Prelude.{Bool, Contains, ◌&&◌}
use Rattle.std.proofs.Common.{subst}
use Rattle.machine80.specs.Step.{Machine}
use Rattle.board80.specs.declared.line.Line.{Line}
use Rattle.image80.specs.{Image.memory_of, Memory.length-memory_of, Regions.AreRegions, Regions.in_data}
use Rattle.loader80_board.specs.{OnBoards.RunsAreOnQuietBoards, OnBoards.StartsHoldBytes, QuietLaws.on_board_of_fewer}
use Rattle.machine80_board.specs.BoardRun.{BoardState, DevicesAreData, IsReached, board_start}
use Rattle.verify80.specs.Boards.{Anywhere}
use Rattle.verify80_states.specs.QuietBoards.{is_quiet}
use Rattle.verify80_follow.specs.{declared.fit.Table.Table, Promise.IsLeftOpenAt, Reaching.places_of}
use Rattle.plm80_runs.specs.OnBoards.{KeepsTable, StandsFollowed}

never_both : (first : Bool) → (first && false) ≡ false
never_both true = refl
never_both false = refl

-- each state of a run keeps what is promised
pub stands_followed : RunsAreOnQuietBoards → StartsHoldBytes → (image : Located) (table : Table) → AreRegions image.regions →
    All (λ byte. byte < 256) (memory_of image.chunks) → KeepsTable image table → (lines : List Line) → DevicesAreData lines image.regions →
    (most steps : ℕ) (s : BoardState) → IsReached lines image.regions most (board_start image) steps s → StandsFollowed image table s
stands_followed runs starts image table rules bytes keeps lines devices most steps s reached =
    let quiet = is_quiet image.regions [] in
    let start = (board_start image).machine in
    let at = runs image rules bytes lines devices quiet (λ address is. never_both (in_data image.regions address)) most steps s reached in
    let kept = keeps start refl (length-memory_of image.chunks) (λ address here. refl) (starts image bytes) (λ set. refl) at.world true
    (on_board_of_fewer image.regions quiet Anywhere (IsLeftOpenAt table.listed) start true (λ address here. tt) true at.world at.on) in
    record {
      world = at.world;
      same = at.same;
      stands = subst (λ (m : Machine). Contains (places_of table []) m.cpu.pc) at.same kept.0;
      keeps = kept.1;
    }
