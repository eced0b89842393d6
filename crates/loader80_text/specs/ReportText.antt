-- What is printed of an image that the verifier accepts. (The form of the lines is this project's own.)
use Rattle.std.specs.Prelude.{ℕ, Bool, if◌then◌else◌, List, ◌∷◌, [], ◌++◌, codes}
use Rattle.std.specs.Fmt.{decimal}
use Rattle.std.specs.List.{flat_map}
use Rattle.text80.specs.Digits.{word_text}
use Rattle.verify80_flow.specs.declared.report.ProcRow.{ProcRow}

-- how a procedure ends
abbrev pub ends_text : Bool → List ℕ
ends_text returns = if returns then codes " RETURNS\n" else codes " NEVER\n"

-- the words that it has taken when it returns, and takes at most; its bytes of stack
abbrev pub counts_text : ProcRow → List ℕ
counts_text row =
    codes " TAKES " ++ (decimal row.takes ++ (codes " WANTS " ++ (decimal row.wants ++ (codes " BOUND " ++ decimal row.bound))))

-- the line of a procedure
abbrev pub row_line : ProcRow → List ℕ
row_line row = codes "PROC " ++ (word_text row.entry ++ (counts_text row ++ ends_text row.returns))

-- the lines of the bytes of stack that the program needs and has
abbrev pub stack_lines : (need has : ℕ) → List ℕ
stack_lines need has = codes "ACCEPTED\nSTACK " ++ (decimal need ++ (codes " OF " ++ (decimal has ++ 10 ∷ [])))

-- the report: those lines, and one for each procedure
abbrev pub report_text : (need has : ℕ) → List ProcRow → List ℕ
report_text need has rows = stack_lines need has ++ flat_map row_line rows
