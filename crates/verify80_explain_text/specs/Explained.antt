-- What is printed of an explanation, line by line. (The form of the lines is this project's own.)
use Rattle.std.specs.Prelude.{ℕ, ℤ, Bool, not, ◌-◌, nat_le, if◌then◌else◌, List, [], ◌∷◌, ◌++◌, codes, length, take, drop}
use Rattle.std.specs.Fmt.{decimal, signed_decimal}
use Rattle.std.specs.List.{flat_map}
use Rattle.text80.specs.Digits.{word_text}
use Rattle.image80.specs.Image.{Located}
use Rattle.omf_model.specs.declared.symbols.Public.{Public}
use Rattle.image80_text.specs.NameText.{label_text, name_text}
use Rattle.verify80_bounds.specs.declared.graph.CallSite.{CallSite}
use Rattle.frames80.specs.declared.procedure.Procedure.{Procedure}
use Rattle.frames80.specs.declared.procedure.Procedure.TheVariants.{Main, Entry}
use Rattle.verify80_flow.specs.declared.refusal.Refusal.{Refusal}
use Rattle.verify80_flow.specs.declared.refusal.Refusal.TheVariants.{ShortArguments}
use Rattle.frames80.specs.FrameEquality.{frame_eq}
use Rattle.frames80.specs.StackFrame.{StackFrame}
use Rattle.verify80_explain.specs.declared.chain.Chain.{Chain}
use Rattle.verify80_explain.specs.declared.chain.Standing.{Standing}
use Rattle.verify80_explain.specs.declared.explanation.Explanation.{Explanation}
use Rattle.verify80_explain.specs.declared.explanation.Explanation.TheVariants.{Way, Ways, Ring}
use Rattle.verify80_walks.specs.declared.point.Point.{Point}
use Rattle.verify80_walks.specs.declared.route.Call.{Call}
use Rattle.verify80_walks.specs.declared.route.Route.{Route}
use Rattle.verify80_explain_text.specs.Frames.{frame_text}
use Rattle.verify80_explain_text.specs.Instructions.{instruction_text}

-- ---- ways

-- the line of a point: its instruction, below the line of its name, and the frame before it
abbrev pub point_line : Located → List Public → Point → List ℕ
point_line image publics point =
    label_text publics point.at ++ (instruction_text image point.at ++ (frame_text point.frame ++ 10 ∷ []))

-- whether a point has another frame
abbrev pub has_other_frame : StackFrame → Point → Bool
has_other_frame frame point = not (frame_eq frame point.frame)

-- a point before runs of points with one frame: it is the first of their first run if it has its frame, and otherwise a run alone
abbrev pub with_point : Point → List (List Point) → List (List Point)
with_point point [] = (point ∷ []) ∷ []
with_point point ([] ∷ runs) = (point ∷ []) ∷ runs
with_point point ((next ∷ run) ∷ runs) =
    if has_other_frame point.frame next then (point ∷ []) ∷ (next ∷ run) ∷ runs else (point ∷ next ∷ run) ∷ runs

-- the runs of points with one frame that make up a way
abbrev pub runs_of : List Point → List (List Point)
runs_of [] = []
runs_of (point ∷ way) = with_point point (runs_of way)

-- a given number of instructions aren't shown
abbrev pub left_out : ℕ → List ℕ
left_out count = codes ".. " ++ (decimal count ++ codes " instructions that leave the stack as it is ..\n")

-- a run: all of it if it has 40 points at most, and otherwise the first 20 and the last 20
abbrev pub run_text : Located → List Public → List Point → List ℕ
run_text image publics run =
    if nat_le (length run) 40 then flat_map (point_line image publics) run
    else flat_map (point_line image publics) (take 20 run)
    ++ (left_out (length run - 40) ++ flat_map (point_line image publics) (drop (length run - 20) run))

abbrev pub way_text : Located → List Public → List Point → List ℕ
way_text image publics way = flat_map (run_text image publics) (runs_of way)

-- ---- calls

-- a word, and an address behind it
abbrev pub with_address : (word : List ℕ) → (address : ℕ) → List ℕ
with_address word address = word ++ word_text address

-- a procedure: its entry, or MAIN and the start
abbrev pub procedure_text : (start : ℕ) → Procedure → List ℕ
procedure_text start Main = with_address (codes "MAIN ") start
procedure_text start (Entry entry) = word_text entry

-- the name of an address, and the end of its line
abbrev pub end_text : Located → List Public → (address : ℕ) → List ℕ
end_text image publics address = name_text image.regions.code publics address ++ 10 ∷ []

-- a call: who calls what, and where
abbrev pub call_text : (start : ℕ) → Call → List ℕ
call_text start call =
    procedure_text start call.caller ++ (with_address (codes " CALLS ") call.target ++ with_address (codes " AT ") call.at)

abbrev pub call_line : Located → List Public → Call → List ℕ
call_line image publics call = call_text image.start call ++ end_text image publics call.target

-- ---- explanations

-- the calls that lead to a procedure, and the way through it
abbrev pub route_text : Located → List Public → Route → List ℕ
route_text image publics route = flat_map (call_line image publics) route.calls.items ++ way_text image publics route.way.items

-- the lines over the two ways of a refusal
abbrev pub first_heading : Refusal → List ℕ
first_heading (ShortArguments at) = codes "CALLER\n"
first_heading _ = codes "ONE WAY\n"

abbrev pub second_heading : Refusal → List ℕ
second_heading (ShortArguments at) = codes "CALLEE\n"
second_heading _ = codes "ANOTHER\n"

-- what shows a refusal
abbrev pub explanation_text : Located → List Public → Refusal → Explanation → List ℕ
explanation_text image publics refusal (Way route) = route_text image publics route
explanation_text image publics refusal (Ways one other) =
    first_heading refusal ++ (route_text image publics one ++ (second_heading refusal ++ route_text image publics other))
explanation_text image publics refusal (Ring calls ring) =
    flat_map (call_line image publics) calls.items ++ (codes "RING\n" ++ flat_map (call_line image publics) ring.items)

-- ---- chains

-- what a procedure has on the stack at an address
abbrev pub depth_text : (start : ℕ) → Procedure → (at : ℕ) → (depth : ℤ) → List ℕ
depth_text start procedure at depth =
    procedure_text start procedure ++ (with_address (codes " AT ") at ++ (codes " HAS " ++ signed_decimal depth))

-- what a call of a chain calls
abbrev pub callee_text : Located → List Public → (target : ℕ) → List ℕ
callee_text image publics target = with_address (codes ", CALLS ") target ++ end_text image publics target

abbrev pub site_line : Located → List Public → CallSite → List ℕ
site_line image publics call =
    depth_text image.start call.caller call.at call.depth ++ callee_text image publics call.target

abbrev pub standing_line : Located → List Public → Standing → List ℕ
standing_line image publics last =
    depth_text image.start last.procedure last.at last.depth ++ end_text image publics last.at

-- the calls of a chain, and where its last procedure stands
abbrev pub chain_text : Located → List Public → Chain → List ℕ
chain_text image publics chain =
    flat_map (site_line image publics) chain.calls.items ++ standing_line image publics chain.last
