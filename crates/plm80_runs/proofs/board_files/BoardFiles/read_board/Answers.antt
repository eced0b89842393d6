use Rattle.plm80_runs.proofs.Names.{◌≡◌, ℕ, List, subst, IfErr, IfOk}
use Rattle.board80.specs.{Board.Spells, declared.line.Line.Line}
use Rattle.plm80_console.specs.Journal.{Blames}
use Rattle.plm80_runs.proofs.BoardLemmas.{board_blamed, board_read}
use Rattle.plm80_runs.proofs.board_files.BoardFiles.read_board.Goals as goal

pub returns-clause-read : goal.returns-clause-read
returns-clause-read g c =
    board_read c.args.self.board c.in_ok-text.text.items (g.C.Console.journal c.args.console.now) (g.C.Console.journal c.read.new.self) (g.C.Console.journal c.board_of.new.console) c.board_of.result
    c.in_ok-text.ensures.read (subst (λ (text : List ℕ). IfOk c.board_of.result (Spells text)) c.deref.ensures.value c.board_of.ensures.board)
    (subst (λ (text : List ℕ). IfOk c.board_of.result (λ board. (other : List Line) → Spells text other → other ≡ board)) c.deref.ensures.value c.board_of.ensures.alone)
    c.board_of.ensures.unchanged

pub returns-clause-fault : goal.returns-clause-fault
returns-clause-fault g c =
    board_blamed c.args.self.board c.in_ok-text.text.items (g.C.Console.journal c.args.console.now) (g.C.Console.journal c.read.new.self) (g.C.Console.journal c.board_of.new.console) c.board_of.result
    c.in_ok-text.ensures.read
    (subst (λ (text : List ℕ). IfErr c.board_of.result (λ _. Blames ((board : List Line) → Spells text board → ⊥) (g.C.Console.journal c.read.new.self) (g.C.Console.journal c.board_of.new.console)))
    c.deref.ensures.value c.board_of.ensures.fault)
