-- What the readers answer, both ways.
use Rattle.std.proofs.Common.{◌≡◌, ◌≢◌, ◌⊎◌, inl, inr, ℕ, List, Result, Ok, Err, refl, ap, ◌∙◌}
use Rattle.std.specs.Prelude.{IfOk, IfErr, IsOk}
use Rattle.omf_module.specs.declared.fault.Cause.{Cause}
use Rattle.omf_module.specs.declared.fault.Cause.TheVariants.{Memory}
use Rattle.omf_module.specs.declared.fault.ModuleFault.{ModuleFault}
use Rattle.omf_module.specs.Fault.{no_memory, fault_of}
use Rattle.omf_model.specs.Modules.{ModuleValue}
use Rattle.omf_module.specs.Uses.{fault_by}
use Rattle.omf_module.specs.Spelled.{SpellsModule, FaultsModule, FaultsFile}
use Rattle.omf_module.specs.Reading.{OrNoMemory}
use Rattle.omf_module.specs.ReadingLaws.{OneModule, NeverBoth, OneFileFault, Answers}

pub every_module : OneModule → NeverBoth → (bytes : List ℕ) (at : ℕ) (r : Result (ModuleValue × ℕ) ModuleFault)
    → IfOk r (λ x. SpellsModule bytes at x.1 x.0) → IfErr r (OrNoMemory (FaultsModule bytes at))
    → (m : ModuleValue) (after : ℕ) → SpellsModule bytes at after m → Answers r (Ok (m, after))
every_module one never bytes at (Ok x) read fault m after s =
    let same = one bytes at x.1 after x.0 m read s in
    inl (ap (λ (n : ModuleValue). Ok (n, x.1)) same.0 ∙ ap (λ (a : ℕ). Ok (m, a)) same.1)
every_module one never bytes at (Err f) read (inl none) m after s = inr (ap (λ (g : ModuleFault). Err g) none)
every_module one never bytes at (Err f) read (inr x) m after s = absurd (never bytes at after m f s x)

pub answered : {A : Type 0} (Faults : ModuleFault → Type 0) (r : Result A ModuleFault) → IfErr r (OrNoMemory Faults)
    → ((f : ModuleFault) → Faults f → ⊥) → IsOk r ⊎ (r ≡ Err no_memory)
answered {A} Faults (Ok x) fault none = inl refl
answered {A} Faults (Err f) (inl e) none = inr (ap (λ (g : ModuleFault). Err g) e)
answered {A} Faults (Err f) (inr x) none = absurd (none f x)

-- a refusal of a file that has a fault
pub refused_by : {A : Type 0} → OneFileFault → (bytes : List ℕ) (f g : ModuleFault) → OrNoMemory (FaultsFile bytes) f
    → FaultsFile bytes g → Answers {A = A} (Err f) (Err g)
refused_by {A} one bytes f g (inl none) x = inr (ap (λ (h : ModuleFault). Err h) none)
refused_by {A} one bytes f g (inr y) x = inl (ap (λ (h : ModuleFault). Err h) (one bytes f g y x))

pub real_fault : (at : ℕ) (why : Cause) → why ≢ Memory → fault_of at why ≡ fault_by at why
real_fault at Memory real = absurd (real refl)
real_fault at _ real = refl
