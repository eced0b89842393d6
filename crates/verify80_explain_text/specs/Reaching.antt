-- What is printed of where walks stand, on conditions. (The form of the lines is this project's own.)
use Rattle.std.specs.Prelude.{◌≡◌, ℕ, Bool, true, false, if◌then◌else◌, List, [], ◌∷◌, ◌++◌, codes, Option, Some, None}
use Rattle.std.specs.Fmt.{decimal, signed_decimal}
use Rattle.std.specs.List.{flat_map}
use Rattle.std.specs.Option.{option_and_then, option_map_or}
use Rattle.std.specs.Result.{result_ok}
use Rattle.decode80.specs.declared.fetching.Fetched.{Fetched}
use Rattle.image80.specs.Image.{Located}
use Rattle.omf_model.specs.declared.symbols.Public.{Public}
use Rattle.image80_text.specs.NameText.{name_text}
use Rattle.frames80.specs.declared.effect.Effect.{Effect}
use Rattle.frames80.specs.declared.effect.Effect.TheVariants.{Change, Halt, Jump, JumpIf, Case, Call, CallIf, Return, ReturnIf, Refuse}
use Rattle.frames80.specs.declared.procedure.Procedure.{Procedure}
use Rattle.frames80.specs.declared.procedure.Procedure.TheVariants.{Main, Entry}
use Rattle.frames80.specs.Code.{Code}
use Rattle.frames80.specs.Effects.{effect_of}
use Rattle.frames80.specs.PointNumbers.{same_procedure}
use Rattle.verify80.specs.Looking.{code_of}
use Rattle.verify80_flow.specs.declared.refusal.Refusal.{Refusal}
use Rattle.verify80_flow.specs.Refusal.{refusal_code, refusal_name}
use Rattle.verify80_explain.specs.declared.chain.Standing.{Standing}
use Rattle.verify80_explain.specs.declared.reaching.ReachedPoint.{ReachedPoint}
use Rattle.verify80_explain_text.specs.Explained.{end_text, with_address}

-- ---- calls

-- the address that an effect calls
abbrev pub called_by : Effect → Option ℕ
called_by (Call to) = Some to
called_by (CallIf to) = Some to
called_by (Change _) = None
called_by Halt = None
called_by (Jump _) = None
called_by (JumpIf _) = None
called_by Case = None
called_by Return = None
called_by ReturnIf = None
called_by (Refuse _) = None

-- the address that the instruction at an address calls
abbrev pub called_at : Code → (at : ℕ) → Option ℕ
called_at code at = option_and_then (λ (found : Fetched). called_by (effect_of found.instr)) (result_ok (code.look at))

-- ---- lines

-- an address, and what the procedure has on the stack there
abbrev pub standing_text : Standing → List ℕ
standing_text standing = with_address (codes "  AT ") standing.at ++ (codes " DEPTH " ++ signed_decimal standing.depth)

-- what is called, and that it isn't known what this needs
abbrev pub target_text : Located → List Public → (target : ℕ) → List ℕ
target_text image publics target = with_address (codes " CALLS ") target ++ (codes " NEEDS ?" ++ end_text image publics target)

abbrev pub call_lines : Located → List Public → Standing → Option ℕ → List ℕ
call_lines image publics standing None = []
call_lines image publics standing (Some target) =
    standing_text standing ++ target_text image publics target

abbrev pub refusal_text : Refusal → List ℕ
refusal_text refusal = codes " REFUSED " ++ (decimal (refusal_code refusal) ++ (32 ∷ refusal_name refusal))

abbrev pub refused_lines : Located → List Public → Standing → Option Refusal → List ℕ
refused_lines image publics standing None = []
refused_lines image publics standing (Some refusal) =
    standing_text standing ++ (refusal_text refusal ++ end_text image publics standing.at)

-- the call at a point, and its refusal
abbrev pub point_lines : Located → List Public → ReachedPoint → List ℕ
point_lines image publics point =
    call_lines image publics point.standing (called_at (code_of image) point.standing.at)
    ++ refused_lines image publics point.standing point.refusal

-- the line of a procedure, whose bound isn't known
abbrev pub address_of : Located → Procedure → ℕ
address_of image Main = image.start
address_of image (Entry entry) = entry

abbrev pub procedure_word : Procedure → List ℕ
procedure_word Main = codes "MAIN "
procedure_word (Entry entry) = codes "PROC "

abbrev pub procedure_line : Located → List Public → Procedure → List ℕ
procedure_line image publics procedure =
    with_address (procedure_word procedure) (address_of image procedure)
    ++ (codes " BOUND ?" ++ end_text image publics (address_of image procedure))

-- the same, unless it is the procedure before
abbrev pub is_before : Option Procedure → Procedure → Bool
is_before None procedure = false
is_before (Some before) procedure = same_procedure before procedure

abbrev pub heading : Located → List Public → Option Procedure → Procedure → List ℕ
heading image publics before procedure = if is_before before procedure then [] else procedure_line image publics procedure

-- what is printed of points, each of them by the procedure of the one before
abbrev pub lines_by : (Option Procedure → ReachedPoint → List ℕ) → Option Procedure → List ReachedPoint → List ℕ
lines_by line before [] = []
lines_by line before (point ∷ rest) = line before point ++ lines_by line (Some point.standing.procedure) rest

-- the lines of a point, below that of its procedure if it is another one
abbrev pub headed_lines : Located → List Public → Option Procedure → ReachedPoint → List ℕ
headed_lines image publics before point = heading image publics before point.standing.procedure ++ point_lines image publics point

-- the lines of points
abbrev pub reach_text : Located → List Public → List ReachedPoint → List ℕ
reach_text image publics points = lines_by (headed_lines image publics) None points
