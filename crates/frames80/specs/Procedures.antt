-- The procedures of a program, and their places in a table. (This project's own.)
use Rattle.std.specs.Prelude.{ℕ, ◌+◌}
use Rattle.frames80.specs.declared.procedure.Procedure.{Procedure}
use Rattle.frames80.specs.declared.procedure.Procedure.TheVariants.{Main, Entry}

abbrev pub slot_of : Procedure → ℕ
slot_of Main = 0
slot_of (Entry entry) = entry + 1
