-- What an instruction that leaves the stack alone does, to a frame and to the machine.
use Rattle.std.specs.Prelude.{◌≡◌, ℕ, Bool, true, false, not, ◌==◌, nat_eq, List, [], Contains, is_some, Option, None, Some, Ok, refl, if◌then◌else◌}
use Rattle.std.specs.Cmp.{unsigned_Decides}
use Rattle.std.specs.List.{list_any}
use Rattle.std.specs.Option.{option_map_or}
use Rattle.std.proofs.Common.{ap, sym, true≢false}
use Rattle.std.proofs.lemmas.Map.Views.{Contains-from_any}
use Rattle.decode80.specs.declared.register.Register.{Register}
use Rattle.decode80.specs.declared.register.Register.TheVariants.{A, B, C, D, E, H, L}
use Rattle.decode80.specs.declared.pair.Pair.TheVariants.{Bc as PairBc, De as PairDe, Hl as PairHl, Sp}
use Rattle.decode80.specs.declared.instr.Instr.{Instr}
use Rattle.decode80.specs.declared.instr.Instr.TheVariants.{Mov, Load, Mvi, Lxi, Inx, Dcx, Inr, Dcr, Push, Pop, Xthl, Sphl, Pchl, Jmp, JumpIf, Call, CallIf, Ret, ReturnIf, Rst, Hlt, In, Out}
use Rattle.frames80.specs.declared.effect.Effect.TheVariants.{Change as Changes}
use Rattle.frames80.specs.StackFrame.{StackFrame}
use Rattle.frames80.specs.Effects.{effect_of, written}
use Rattle.frames80.specs.Moves.{changed as changed_frame, unless}
use Rattle.frames80.specs.declared.fault.FrameFault.{FrameFault}
use Rattle.frames80.specs.declared.moves.Moves.{Moves}
use Rattle.machine80.specs.Effects.{stack_bytes, changed, target}
use Rattle.image80.specs.Regions.{Areas}
use Rattle.machine80.specs.declared.end.End.TheVariants.{JumpOutside}
use Rattle.machine80.specs.Step.{Machine, Turn, Next, Stop, execute, turn_of, jump_end, proceeded}
use Rattle.machine80.specs.World.{places_after, returns}
use Rattle.verify80.proofs.StoreLemmas.{is_plain}
use Rattle.verify80.proofs.PairLemmas.{change_by}

-- what a plain instruction does
pub plain_effect : (i : Instr) → is_plain i ≡ true → effect_of i ≡ Changes (change_by (effect_of i))
plain_effect (Lxi PairBc n) plain = refl
plain_effect (Lxi PairDe n) plain = refl
plain_effect (Lxi PairHl n) plain = refl
plain_effect (Lxi Sp n) plain = cc
plain_effect (Inx PairBc) plain = refl
plain_effect (Inx PairDe) plain = refl
plain_effect (Inx PairHl) plain = refl
plain_effect (Inx Sp) plain = cc
plain_effect (Dcx PairBc) plain = refl
plain_effect (Dcx PairDe) plain = refl
plain_effect (Dcx PairHl) plain = refl
plain_effect (Dcx Sp) plain = cc
plain_effect Sphl plain = cc
plain_effect Pchl plain = cc
plain_effect (Jmp _) plain = cc
plain_effect (JumpIf _ _) plain = cc
plain_effect (Call _) plain = cc
plain_effect (CallIf _ _) plain = cc
plain_effect Ret plain = cc
plain_effect (ReturnIf _) plain = cc
plain_effect (Rst _) plain = cc
plain_effect Hlt plain = cc
plain_effect i plain = refl

-- a frame with the same words
pub record SameFrame (f g : StackFrame) : Type 0 where
  pub words : g.words ≡ f.words
  pub taken : g.taken ≡ f.taken

written_frame : (to : Register) (f : StackFrame) → SameFrame f (changed_frame (written to) f)
written_frame A f = record { words = refl; taken = refl }
written_frame B f = record { words = refl; taken = refl }
written_frame C f = record { words = refl; taken = refl }
written_frame D f = record { words = refl; taken = refl }
written_frame E f = record { words = refl; taken = refl }
written_frame H f = record { words = refl; taken = refl }
written_frame L f = record { words = refl; taken = refl }

pub plain_frame : (i : Instr) (f : StackFrame) → is_plain i ≡ true → SameFrame f (changed_frame (change_by (effect_of i)) f)
plain_frame (Mov to _) f plain = written_frame to f
plain_frame (Load to) f plain = written_frame to f
plain_frame (Mvi to _) f plain = written_frame to f
plain_frame (Inr to) f plain = written_frame to f
plain_frame (Dcr to) f plain = written_frame to f
plain_frame (Lxi PairBc n) f plain = record { words = refl; taken = refl }
plain_frame (Lxi PairDe n) f plain = record { words = refl; taken = refl }
plain_frame (Lxi PairHl n) f plain = record { words = refl; taken = refl }
plain_frame (Lxi Sp n) f plain = cc
plain_frame (Inx PairBc) f plain = record { words = refl; taken = refl }
plain_frame (Inx PairDe) f plain = record { words = refl; taken = refl }
plain_frame (Inx PairHl) f plain = record { words = refl; taken = refl }
plain_frame (Inx Sp) f plain = cc
plain_frame (Dcx PairBc) f plain = record { words = refl; taken = refl }
plain_frame (Dcx PairDe) f plain = record { words = refl; taken = refl }
plain_frame (Dcx PairHl) f plain = record { words = refl; taken = refl }
plain_frame (Dcx Sp) f plain = cc
plain_frame (Push _) f plain = cc
plain_frame (Pop _) f plain = cc
plain_frame Xthl f plain = cc
plain_frame i f plain = record { words = refl; taken = refl }

-- what the machine does of it
pub record PlainStep (i : Instr) (next : ℕ) (m : Machine) (calls : List ℕ) : Type 0 where
  pub executes : (regions : Areas) (refused : Bool) → execute regions refused i next m ≡ Next (proceeded i next m)
  pub goes : target i next m.memory m.cpu ≡ next
  pub pointer : (changed i m.memory m.cpu).sp ≡ m.cpu.sp
  pub places : places_after i next m.cpu.registers.flags calls ≡ calls
  pub stays : returns i m.cpu.registers.flags ≡ false
  pub touches : stack_bytes i m.cpu ≡ []

pub plain_step : (i : Instr) (next : ℕ) (m : Machine) (calls : List ℕ) → is_plain i ≡ true → PlainStep i next m calls
plain_step (Push _) next m calls plain = cc
plain_step (Pop _) next m calls plain = cc
plain_step Xthl next m calls plain = cc
plain_step (Lxi Sp _) next m calls plain = cc
plain_step (Inx Sp) next m calls plain = cc
plain_step (Dcx Sp) next m calls plain = cc
plain_step Sphl next m calls plain = cc
plain_step (Jmp _) next m calls plain = cc
plain_step (JumpIf _ _) next m calls plain = cc
plain_step (Call _) next m calls plain = cc
plain_step (CallIf _ _) next m calls plain = cc
plain_step Ret next m calls plain = cc
plain_step (ReturnIf _) next m calls plain = cc
plain_step (Rst _) next m calls plain = cc
plain_step Pchl next m calls plain = cc
plain_step Hlt next m calls plain = cc
plain_step (In _) next m calls plain = cc
plain_step (Out _) next m calls plain = cc
plain_step (Lxi PairBc n) next m calls plain = record { executes = λ regions refused. refl; goes = refl; pointer = refl; places = refl; stays = refl; touches = refl }
plain_step (Lxi PairDe n) next m calls plain = record { executes = λ regions refused. refl; goes = refl; pointer = refl; places = refl; stays = refl; touches = refl }
plain_step (Lxi PairHl n) next m calls plain = record { executes = λ regions refused. refl; goes = refl; pointer = refl; places = refl; stays = refl; touches = refl }
plain_step (Inx PairBc) next m calls plain = record { executes = λ regions refused. refl; goes = refl; pointer = refl; places = refl; stays = refl; touches = refl }
plain_step (Inx PairDe) next m calls plain = record { executes = λ regions refused. refl; goes = refl; pointer = refl; places = refl; stays = refl; touches = refl }
plain_step (Inx PairHl) next m calls plain = record { executes = λ regions refused. refl; goes = refl; pointer = refl; places = refl; stays = refl; touches = refl }
plain_step (Dcx PairBc) next m calls plain = record { executes = λ regions refused. refl; goes = refl; pointer = refl; places = refl; stays = refl; touches = refl }
plain_step (Dcx PairDe) next m calls plain = record { executes = λ regions refused. refl; goes = refl; pointer = refl; places = refl; stays = refl; touches = refl }
plain_step (Dcx PairHl) next m calls plain = record { executes = λ regions refused. refl; goes = refl; pointer = refl; places = refl; stays = refl; touches = refl }
plain_step i next m calls plain = record { executes = λ regions refused. refl; goes = refl; pointer = refl; places = refl; stays = refl; touches = refl }

-- what a fault and a turn leave
pub unless_ok : (fault : Option FrameFault) (move moves : Moves) → unless fault move ≡ Ok moves → (fault ≡ None) × (moves ≡ move)
unless_ok None move moves is = (refl, cc)
unless_ok (Some fault) move moves is = absurd (cc)

abbrev machine_of : Machine → Turn → Machine
machine_of otherwise (Next m) = m
machine_of otherwise (Stop e) = otherwise

pub machine_in : (m n : Machine) → Next m ≡ Next n → m ≡ n
machine_in m n h = ap (machine_of m) h

-- a PCHL that goes on goes to one of the targets that are declared for its address
pub jumped : (targets : Option (List ℕ)) → is_some targets ≡ true → (to : ℕ) (after m : Machine) → turn_of (jump_end targets to) after ≡ Next m →
    (after ≡ m) × Contains (option_map_or (λ ts. ts) targets []) to
jumped None declared to after m h = absurd (true≢false (sym declared))
jumped (Some targets) declared to after m h = by (list_any (λ target. target == to) targets) refl h
  where
    by : (b : Bool) → list_any (λ target. target == to) targets ≡ b → turn_of (if not b then Some (JumpOutside to) else None) after ≡ Next m → (after ≡ m) × Contains targets to
    by true is h = (machine_in after m h, Contains-from_any {eq = λ x y. nat_eq y x} (λ x y same. sym ((unsigned_Decides y x).0 same)) to targets is)
    by false is h = absurd (cc)
