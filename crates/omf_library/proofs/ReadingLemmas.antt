-- The steps of reading a library.
use Rattle.std.proofs.Common.{◌≡◌, ◌≢◌, inl, inr, ℕ, true, false, List, [], ◌∷◌, ◌++◌, Result, Ok, Err, refl, ap}
use Rattle.std.specs.Prelude.{◌==◌, IfOk, IfErr}
use Rattle.std.specs.List.{list_all}
use Rattle.std.proofs.lemmas.Bool.{and_parts}
use Rattle.std.proofs.lemmas.Bool.Decides.{eqb_tells}
use Rattle.omf_core.specs.Records.{RecordValue}
use Rattle.omf_model.specs.Modules.{ModuleValue}
use Rattle.omf_library.specs.declared.fault.LibraryFault.{LibraryFault}
use Rattle.omf_library.specs.Fault.{OrNoMemory, Answers}
use Rattle.omf_library.specs.Spelled.{is_index_kind, SpellsLibrary, FaultsLibrary}
use Rattle.omf_library.specs.Laws.{OneLibrary, OneLibraryFault, NeverBothLibrary}

-- ---- the index

pub all_with : (rs : List RecordValue) (r : RecordValue) → list_all (λ r. is_index_kind r.kind) rs ≡ true
    → is_index_kind r.kind ≡ true → list_all (λ r. is_index_kind r.kind) (rs ++ r ∷ []) ≡ true
all_with [] r all one = rw one refl
all_with (s ∷ rs) r all one =
    let parts = and_parts (is_index_kind s.kind) (list_all (λ r. is_index_kind r.kind) rs) all in
    rw parts.0 (all_with rs r parts.1 one)

pub other_is : (a b : ℕ) → a ≢ b → (a == b) ≡ false
other_is a b other =
    elim (eqb_tells a b) [
      | inl is ↦ absurd (other is.1)
      | inr off ↦ off.0
    ]

-- ---- the answer

pub every_library : OneLibrary → NeverBothLibrary → (bytes : List ℕ) (r : Result (List ModuleValue) LibraryFault)
    → IfOk r (SpellsLibrary bytes) → IfErr r (OrNoMemory (FaultsLibrary bytes))
    → (ms : List ModuleValue) → SpellsLibrary bytes ms → Answers r (Ok ms)
every_library one never bytes (Ok ns) read fault ms s = inl (ap (λ (x : List ModuleValue). Ok x) (one bytes ns ms read s))
every_library one never bytes (Err f) read (inl e) ms s = inr (ap (λ (g : LibraryFault). Err g) e)
every_library one never bytes (Err f) read (inr x) ms s = absurd (never bytes ms f s x)

pub every_fault : OneLibraryFault → (bytes : List ℕ) (f g : LibraryFault) → OrNoMemory (FaultsLibrary bytes) f
    → FaultsLibrary bytes g → Answers {A = List ModuleValue} (Err f) (Err g)
every_fault one bytes f g (inl e) y = inr (ap (λ (h : LibraryFault). Err h) e)
every_fault one bytes f g (inr x) y = inl (ap (λ (h : LibraryFault). Err h) (one bytes f g x y))
