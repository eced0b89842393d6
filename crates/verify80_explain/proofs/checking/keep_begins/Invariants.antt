-- what was kept so far is of the program
use Rattle.std.specs.Prelude.{All}
use Rattle.verify80.specs.Looking.{code_of}
use Rattle.verify80_explain.specs.Conditions.{MayBegin}
use Rattle.verify80_explain.proofs.checking.keep_begins.Given as goal

abbrev pub invariant-loop-begin : goal.invariant-loop-begin
invariant-loop-begin l = All (MayBegin (code_of l.code)) l.kept.items
