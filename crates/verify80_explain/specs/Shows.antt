-- When an explanation shows a refusal: its ways lead to the fault. (This project's own.)
use Rattle.std.specs.Prelude.{◌≡◌, ℕ, List, [], ◌∷◌}
use Rattle.frames80.specs.declared.procedure.Procedure.TheVariants.{Main, Entry}
use Rattle.verify80_flow.specs.declared.refusal.Refusal.{Refusal}
use Rattle.verify80_flow.specs.declared.refusal.Refusal.TheVariants.{FetchOutside, UnusedOpcode, EnablesInterrupts, Sphl, Pchl, StackByByte, SetsStack}
use Rattle.verify80_flow.specs.declared.refusal.Refusal.TheVariants.{DirectStore, PopsBelow, ReturnNotOwn, ReturnFromMain, HeightsDiffer, UnevenArguments}
use Rattle.verify80_flow.specs.declared.refusal.Refusal.TheVariants.{ShortArguments, Recursion, StackTooSmall, TooManyPoints, Memory}
use Rattle.frames80.specs.Code.{Code}
use Rattle.verify80_flow.specs.Faults.{Holds}
use Rattle.verify80_walks.specs.declared.point.Point.{Point}
use Rattle.verify80_walks.specs.declared.route.Call.{Call}
use Rattle.verify80_explain.specs.declared.explanation.Explanation.{Explanation}
use Rattle.verify80_explain.specs.declared.explanation.Explanation.TheVariants.{Way as OneWay, Ways as TwoWays, Ring}
use Rattle.verify80_explain.specs.declared.explaining_all.ShownRefusal.{ShownRefusal}
use Rattle.verify80_walks.specs.Ways.{IsRoute, Lead, point_of}

-- one way, that leads to a point; two, that lead to two
abbrev pub ToPoint : Code → Point → Explanation → Type 0
ToPoint code point (OneWay route) = IsRoute code route point
ToPoint code point _ = ⊥

abbrev pub ToPoints : Code → (one other : Point) → Explanation → Type 0
ToPoints code one other (TwoWays route second) = IsRoute code route one × IsRoute code second other
ToPoints code one other _ = ⊥

-- calls lead from the main program to a procedure, and from there, by a call at this address, back to it
pub record IsRing (code : Code) (at : ℕ) (calls : List Call) (first : Call) (rest : List Call) : Type 0 where
  pub is_at : first.at ≡ at
  pub calls_lead : Lead code Main calls first.caller
  pub back : Lead code first.caller (first ∷ rest) first.caller

abbrev pub RingOf : Code → ℕ → List Call → List Call → Type 0
RingOf code at calls [] = ⊥
RingOf code at calls (first ∷ rest) = IsRing code at calls first rest

abbrev pub ByRing : Code → ℕ → Explanation → Type 0
ByRing code at (Ring calls ring) = RingOf code at calls.items ring.items
ByRing code at _ = ⊥

-- an explanation leads to where the fault is
abbrev pub ToFault : (code : Code) → (refusal : Refusal) → Holds code refusal → Explanation → Type 0
ToFault code (FetchOutside at) fault shown = ToPoint code (point_of fault.procedure at fault.frame) shown
ToFault code (UnusedOpcode at) fault shown = ToPoint code (point_of fault.procedure at fault.frame) shown
ToFault code (EnablesInterrupts at) fault shown = ToPoint code (point_of fault.procedure at fault.frame) shown
ToFault code (DirectStore at) fault shown = ToPoint code (point_of fault.procedure at fault.frame) shown
ToFault code (Pchl at) fault shown = ToPoint code (point_of fault.procedure at fault.frame) shown
ToFault code (Sphl at) fault shown = ToPoint code (point_of fault.procedure at fault.frame) shown
ToFault code (StackByByte at) fault shown = ToPoint code (point_of fault.procedure at fault.frame) shown
ToFault code (SetsStack at) fault shown = ToPoint code (point_of fault.procedure at fault.frame) shown
ToFault code (PopsBelow at) fault shown = ToPoint code (point_of fault.procedure at fault.frame) shown
ToFault code (ReturnNotOwn at) fault shown = ToPoint code (point_of fault.procedure at fault.frame) shown
ToFault code (ReturnFromMain at) fault shown = ToPoint code (point_of fault.procedure at fault.frame) shown
ToFault code (HeightsDiffer at) fault shown =
    ToPoints code (point_of fault.procedure at fault.one) (point_of fault.procedure at fault.other) shown
ToFault code (UnevenArguments at) fault shown =
    ToPoints code (point_of fault.procedure at fault.frame) (point_of fault.procedure fault.other fault.other_frame) shown
ToFault code (ShortArguments at) fault shown =
    ToPoints code (point_of fault.procedure at fault.frame) (point_of (Entry fault.target) fault.inside fault.callee) shown
ToFault code (Recursion at) fault shown = ByRing code at shown
ToFault code (StackTooSmall need has) fault shown = ⊥
ToFault code TooManyPoints fault shown = ⊥
ToFault code Memory fault shown = ⊥

-- an explanation shows a refusal: the refusal holds, and the explanation leads to its fault
pub record Shows (code : Code) (refusal : Refusal) (shown : Explanation) : Type 0 where
  pub fault : Holds code refusal
  pub leads : ToFault code refusal fault shown

-- what an explanation shows holds
abbrev pub ShownHolds : Type 0
ShownHolds = (code : Code) (refusal : Refusal) (shown : Explanation) → Shows code refusal shown → Holds code refusal

-- a refusal is shown by what stands with it
abbrev pub IsShown : Code → ShownRefusal → Type 0
IsShown code one = Shows code one.refusal one.explanation
