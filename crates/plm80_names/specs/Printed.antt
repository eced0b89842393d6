-- The names that commands print: those of an image's file if they are asked for, behind or before the lines of a text.
-- (As the symbols of ISIS-II's debuggers; the form of the lines is this project's own.)
use Rattle.std.specs.Prelude.{◌≡◌, ℕ, ◌-◌, Bool, true, false, nat_eq, if◌then◌else◌, Option, Some, None, List, [], ◌∷◌, ◌++◌, codes, length, take, drop}
use Rattle.std.specs.{Cmp.Lexicographic.pointwise, List.flat_map}
use Rattle.image80.specs.declared.range.Range.{Range}
use Rattle.omf_model.specs.declared.symbols.Public.{Public}
use Rattle.image80_text.specs.NameText.{name_text, named_text}
use Rattle.place80_text.specs.ImagePublics.{HasPublics}
use Rattle.verify80_flow.specs.{declared.refusal.Refusal.Refusal, declared.report.ProcRow.ProcRow, Refusal.refusal_address}
use Rattle.loader80.specs.TranscriptText.{refusal_line}
use Rattle.verify80.specs.Vouched.{Voucher}
use Rattle.loader80_text.specs.ReportText.{report_text, row_line}

-- the publics by which addresses are named: those that the image's file has if they are asked for, else none
abbrev pub AreNamesOf : (asked : Bool) (file : List ℕ) → List Public → Type 0
AreNamesOf true file publics = HasPublics file publics
AreNamesOf false file publics = publics ≡ []

-- there are none
abbrev pub HasNoNames : (asked : Bool) (file : List ℕ) → Type 0
HasNoNames asked file = (publics : List Public) → AreNamesOf asked file publics → ⊥

-- the text ends with a line feed
abbrev pub is_line : List ℕ → Bool
is_line text = pointwise nat_eq (drop (length text - 1) text) (10 ∷ [])

-- a line with the name of an address before its line feed; another text stays
abbrev pub named_end : List Range → List Public → (address : ℕ) → List ℕ → List ℕ
named_end code publics address text =
    if is_line text then take (length text - 1) text ++ (name_text code publics address ++ 10 ∷ []) else text

-- a line with the name of an address, if there is one
abbrev pub named_if : List Range → List Public → Option ℕ → List ℕ → List ℕ
named_if code publics None text = text
named_if code publics (Some address) text = named_end code publics address text

-- the line of a refusal, with the name of the address that it names
abbrev pub named_refusal_line : List Range → List Public → Refusal → List ℕ
named_refusal_line code publics refusal = named_if code publics (refusal_address refusal) (refusal_line refusal)

-- the report on an image, with the names of its procedures
abbrev pub named_report : Voucher → List Public → List ℕ
named_report program publics = named_text program.image.regions.code publics (codes "PROC ")
    (report_text program.stack_bytes program.image.regions.stack.length program.rows)

-- the line of a refusal and those of the procedures, with their names
abbrev pub named_refusal_report : List Range → List Public → Refusal → List ProcRow → List ℕ
named_refusal_report code publics refusal rows =
    named_text code publics (codes "PROC ") (refusal_line refusal ++ flat_map row_line rows)
