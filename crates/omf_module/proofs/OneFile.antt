-- A file is read in one way.
use Rattle.std.proofs.Common.{◌≡◌, ◌⊎◌, inl, inr, ℕ, ◌<◌, ◌≤◌, Bool, true, false, List, [], ◌∷◌, length, refl, sym, ap, subst, ◌∙◌, arith, true≢false}
use Rattle.omf_body.specs.declared.body.Body.TheVariants.{ModuleHeader}
use Rattle.omf_body.specs.Bodies.{body_bytes}
use Rattle.omf_module.specs.declared.fault.Cause.TheVariants.{NoEnd}
use Rattle.omf_module.specs.declared.fault.ModuleFault.{ModuleFault}
use Rattle.omf_model.specs.Modules.{ModuleValue}
use Rattle.omf_module.specs.Uses.{fault_by}
use Rattle.omf_module.specs.Spelled.{SpellsModule, FaultsModule, SpellsModules, EndsFile, SpellsFile, FaultsFile, first_module, later_module, no_end}
use Rattle.omf_module.specs.ReadingLaws.{OneFile, OneFileFault, NeverBothFile}
use Rattle.omf_module.proofs.OneReading.{Below, past_spelled, past_within, left_same, left_right}
use Rattle.omf_module.proofs.OneModule.{header_at, one_module, one_fault, never_both}

-- how a file goes on after its modules, of which there are none where `first` holds: it ends, or has a fault
abbrev Out : Type 0
Out = ModuleFault ⊎ Unit {0}

data Tail (bytes : List ℕ) (first : Bool) (at : ℕ) : Out → Type 0 where
  ended : first ≡ false → EndsFile bytes at → Tail bytes first at (inr tt)
  faulted : (f : ModuleFault) → FaultsModule bytes at f → ((first ≡ true) ⊎ ((at < length bytes) × (EndsFile bytes at → ⊥)))
      → Tail bytes first at (inl f)
  unended : first ≡ false → length bytes ≤ at → Tail bytes first at (inl (fault_by at NoEnd))

abbrev Run : List ℕ → Bool → ℕ → List ModuleValue → Out → Type 0
Run bytes first at [] out = Tail bytes first at out
Run bytes first at (m ∷ ms) out = (next : ℕ) × SpellsModule bytes at next m × Run bytes false next ms out

to_run : (bytes : List ℕ) (from to : ℕ) (ms : List ModuleValue) (out : Out) → SpellsModules bytes from to ms
    → Tail bytes false to out → Run bytes false from ms out
to_run bytes from to [] out s t = subst (λ (a : ℕ). Tail bytes false a out) (sym s) t
to_run bytes from to (m ∷ ms) out s t = (s.0, s.1, to_run bytes s.0 to ms out s.2 t)

from_start : (bytes : List ℕ) (to : ℕ) (ms : List ModuleValue) (out : Out) → 0 < length ms → SpellsModules bytes 0 to ms
    → Tail bytes false to out → Run bytes true 0 ms out
from_start bytes to [] out some s t = absurd (omega (arith, some))
from_start bytes to (m ∷ ms) out some s t = (s.0, s.1, to_run bytes s.0 to ms out s.2 t)

module_ends : Below → (bytes : List ℕ) (at after : ℕ) (m : ModuleValue) → SpellsModule bytes at after m → EndsFile bytes at → ⊥
module_ends b bytes at after m s e =
    let h = header_at bytes at after s.records s.spelled s.begins in
    other_kinds 0x02 0x0E refl refl
    (b.one_record bytes at s.spelled.first e.next 0x02 0x0E
    (body_bytes (ModuleHeader s.records.header)) e.body h.framed e.spelled).0
  where
    other_kinds : (x y : ℕ) → x ≡ 2 → y ≡ 14 → x ≡ y → ⊥
    other_kinds x y p q e = omega (arith, p, q, e)

tail_module : Below → (bytes : List ℕ) (first : Bool) (at after : ℕ) (m : ModuleValue) (o : Out) → Tail bytes first at o
    → SpellsModule bytes at after m → ⊥
tail_module b bytes first at after m o (ended n e) s = module_ends b bytes at after m s e
tail_module b bytes first at after m o (faulted f x y) s = never_both b bytes at after m f s x
tail_module b bytes first at after m o (unended n past) s =
    let h = header_at bytes at after s.records s.spelled s.begins in
    past_spelled bytes at s.spelled.first 0x02 (body_bytes (ModuleHeader s.records.header)) past h.framed

goes_on : (bytes : List ℕ) (first : Bool) (at : ℕ) → first ≡ false
    → ((first ≡ true) ⊎ ((at < length bytes) × (EndsFile bytes at → ⊥))) → (at < length bytes) × (EndsFile bytes at → ⊥)
goes_on bytes first at n (inl y) = absurd (true≢false (sym y ∙ n))
goes_on bytes first at n (inr g) = g

one_tail : Below → (bytes : List ℕ) (first : Bool) (at : ℕ) (o p : Out) → Tail bytes first at o → Tail bytes first at p → o ≡ p
one_tail b bytes first at o p (ended n e) (ended n' e') = refl
one_tail b bytes first at o p (ended n e) (faulted f x y) = absurd ((goes_on bytes first at n y).1 e)
one_tail b bytes first at o p (ended n e) (unended n' past) = absurd (past_spelled bytes at e.next 0x0E e.body past e.spelled)
one_tail b bytes first at o p (faulted f x y) (ended n e) = absurd ((goes_on bytes first at n y).1 e)
one_tail b bytes first at o p (faulted f x y) (faulted g x' y') = ap inl (one_fault b bytes at f g x x')
one_tail b bytes first at o p (faulted f x y) (unended n past) = absurd (past_within bytes at past (goes_on bytes first at n y).0)
one_tail b bytes first at o p (unended n past) (ended n' e) = absurd (past_spelled bytes at e.next 0x0E e.body past e.spelled)
one_tail b bytes first at o p (unended n past) (faulted f x y) = absurd (past_within bytes at past (goes_on bytes first at n y).0)
one_tail b bytes first at o p (unended n past) (unended n' past') = refl

record SameRun (ms ns : List ModuleValue) (o p : Out) : Type 0 where
  modules : ms ≡ ns
  out : o ≡ p

one_run : Below → (bytes : List ℕ) (first : Bool) (at : ℕ) (ms ns : List ModuleValue) (o p : Out) → Run bytes first at ms o
    → Run bytes first at ns p → SameRun ms ns o p
one_run b bytes first at [] [] o p r s = record { modules = refl; out = one_tail b bytes first at o p r s }
one_run b bytes first at [] (n ∷ ns) o p r s = absurd (tail_module b bytes first at s.0 n o r s.1)
one_run b bytes first at (m ∷ ms) [] o p r s = absurd (tail_module b bytes first at r.0 m p s r.1)
one_run b bytes first at (m ∷ ms) (n ∷ ns) o p r s =
    let same = one_module b bytes at r.0 s.0 m n r.1 s.1 in
    let rest = one_run b bytes false s.0 ms ns o p (subst (λ (a : ℕ). Run bytes false a ms o) same.1 r.2) s.2 in
    record {
      modules = ap (λ (x : ModuleValue). x ∷ ms) same.0
          ∙ ap (λ (xs : List ModuleValue). n ∷ xs) rest.modules;
      out = rest.out;
    }

file_run : (bytes : List ℕ) (ms : List ModuleValue) → SpellsFile bytes ms → Run bytes true 0 ms (inr tt)
file_run bytes ms s = from_start bytes s.end ms (inr tt) s.some s.spelled (ended refl s.ends)

record FaultRun (bytes : List ℕ) (f : ModuleFault) : Type 0 where
  modules : List ModuleValue
  run : Run bytes true 0 modules (inl f)

fault_run : (bytes : List ℕ) (f : ModuleFault) → FaultsFile bytes f → FaultRun bytes f
fault_run bytes f (first_module _ x) = record { modules = []; run = faulted f x (inl refl) }
fault_run bytes f (later_module at ms _ some s within goes x) =
    record { modules = ms; run = from_start bytes at ms (inl f) some s (faulted f x (inr (within, goes))) }
fault_run bytes f (no_end at ms some s past) =
    record { modules = ms; run = from_start bytes at ms (inl (fault_by at NoEnd)) some s (unended refl past) }

pub one_file : Below → OneFile
one_file b bytes ms ns s t = (one_run b bytes true 0 ms ns (inr tt) (inr tt) (file_run bytes ms s) (file_run bytes ns t)).modules

pub one_file_fault : Below → OneFileFault
one_file_fault b bytes f g x y =
    let r = fault_run bytes f x in
    let s = fault_run bytes g y in
    left_same (inl f) f g refl (one_run b bytes true 0 r.modules s.modules (inl f) (inl g) r.run s.run).out

pub never_both_file : Below → NeverBothFile
never_both_file b bytes ms f s x =
    let r = fault_run bytes f x in
    left_right (inl f) f tt refl (one_run b bytes true 0 r.modules ms (inl f) (inr tt) r.run (file_run bytes ms s)).out
