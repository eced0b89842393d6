-- A program as it is followed on conditions: what lies behind a refused instruction is reached if they hold. (This project's own.)
use Rattle.std.specs.Prelude.{◌≡◌, ◌⊎◌, ◌==◌, ℕ, Bool, List, Option, Result, Ok, Err, All, IfSome, if◌then◌else◌}
use Rattle.std.specs.{List.list_any, Option.option_map_or}
use Rattle.decode80.specs.declared.fetching.Fetched.{Fetched}
use Rattle.decode80.specs.declared.instr.Instr.TheVariants.{Nop, CallIf as InstrCallIf}
use Rattle.decode80.specs.declared.condition.Condition.TheVariants.{NonZero}
use Rattle.decode80.specs.Fetch.{ahead}
use Rattle.frames80.specs.declared.code.LookFault.{LookFault}
use Rattle.frames80.specs.declared.code.LookFault.TheVariants.{EnablesInterrupts, DirectStore}
use Rattle.frames80.specs.declared.effect.Change.TheVariants.{SetStack}
use Rattle.frames80.specs.declared.effect.Effect.{Effect}
use Rattle.frames80.specs.declared.effect.Effect.TheVariants.{Change, Halt, Jump, JumpIf, Case, Call, CallIf, Return, ReturnIf, Refuse}
use Rattle.frames80.specs.Effects.{effect_of}
use Rattle.frames80.specs.Code.{Code}
use Rattle.verify80_explain.specs.declared.conditions.Conditions.{Conditions}
use Rattle.verify80_explain.specs.declared.explaining_all.FurtherRefusals.{FurtherRefusals}
use Rattle.verify80_explain.specs.Order.{AreShownInOrder}
use Rattle.verify80_explain.specs.Shows.{IsShown}

-- an instruction that does nothing, with the address after it
abbrev pub nothing_before : ℕ → Fetched
nothing_before next = record { instr = Nop; next = next }

-- the address is one of these
abbrev pub is_among : List ℕ → ℕ → Bool
is_among addresses at = list_any (λ of. of == at) addresses

-- an instruction with such an effect, on conditions: a call of a procedure that returns is one on a condition, which may or may not be made
abbrev pub call_if : (returning : List ℕ) → Fetched → Effect → Fetched
call_if returning found (Call to) =
    if is_among returning to then record { instr = InstrCallIf NonZero to; next = found.next } else found
call_if returning found (CallIf _) = found
call_if returning found (Change _) = found
call_if returning found Halt = found
call_if returning found (Jump _) = found
call_if returning found (JumpIf _) = found
call_if returning found Case = found
call_if returning found Return = found
call_if returning found ReturnIf = found
call_if returning found (Refuse _) = found

-- what was found at an address, on conditions: a refused EI, STA or SHLD that is passed over does nothing, and what is behind the call of
-- a procedure that returns is reached
abbrev pub seen_if : Conditions → ℕ → Result Fetched LookFault → Result Fetched LookFault
seen_if conditions at (Ok found) = Ok (call_if conditions.returning.items found (effect_of found.instr))
seen_if conditions at (Err EnablesInterrupts) =
    if is_among conditions.passed.items at then Ok (nothing_before (ahead at 1)) else Err EnablesInterrupts
seen_if conditions at (Err DirectStore) =
    if is_among conditions.passed.items at then Ok (nothing_before (ahead at 3)) else Err DirectStore
seen_if conditions at (Err fault) = Err fault

-- a program on conditions, that begins at such an address, or at its start
abbrev pub code_from : (begins : Option ℕ) → Conditions → Code → Code
code_from begins conditions code = record {
  look = λ at. seen_if conditions at (code.look at);
  targets = code.targets;
  start = option_map_or (λ at. at) begins code.start;
  top = code.top;
  stack = code.stack;
}

-- a program on conditions
abbrev pub code_if : Conditions → Code → Code
code_if conditions code = code_from conditions.begins conditions code

-- ---- what may be taken for granted of a program

-- an LXI SP at an address loads the stack's top: the program may begin anew there, with an empty stack
pub record BeginsAnewAt (code : Code) (at : ℕ) : Type 0 where
  pub found : Fetched
  pub looked : code.look at ≡ Ok found
  pub loads : effect_of found.instr ≡ Change (SetStack code.top)

-- the program begins at its start, or anew
abbrev pub MayBegin : Code → Option ℕ → Type 0
MayBegin code begins = IfSome begins (BeginsAnewAt code)

-- the instruction at an address may be passed over: it is refused as an EI, or as a STA or SHLD outside data
abbrev pub IsPassable : Code → ℕ → Type 0
IsPassable code at = (code.look at ≡ Err EnablesInterrupts) ⊎ (code.look at ≡ Err DirectStore)

-- a call of the procedure that is entered at an address stands in the program
pub record IsCalledIn (code : Code) (entry : ℕ) : Type 0 where
  pub at : ℕ
  pub found : Fetched
  pub looked : code.look at ≡ Ok found
  pub calls : (effect_of found.instr ≡ Call entry) ⊎ (effect_of found.instr ≡ CallIf entry)

-- conditions are of the program: it begins anew only where it sets up its stack, what is passed over is refused, and what returns is called
pub record AreConditionsOf (code : Code) (conditions : Conditions) : Type 0 where
  pub begins : MayBegin code conditions.begins
  pub passed : All (IsPassable code) conditions.passed.items
  pub returning : All (IsCalledIn code) conditions.returning.items

-- refusals are shown by what stands with them, if these conditions, which are of the program, hold; they ascend, each once
pub record AreShownIf (code : Code) (further : FurtherRefusals) : Type 0 where
  pub conditions : AreConditionsOf code further.conditions
  pub shown : All (IsShown (code_if further.conditions code)) further.shown.items
  pub in_order : AreShownInOrder further.shown.items
