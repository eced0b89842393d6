-- The modules of a file, one after another.
use Rattle.std.proofs.Common.{ℕ, ◌<◌, ◌≤◌, List, [], ◌∷◌, ◌++◌, length, refl, sym, subst, arith}
use Rattle.omf_module.specs.declared.module_file.PlacedBody.{PlacedBody}
use Rattle.omf_model.specs.Modules.{ModuleValue}
use Rattle.omf_module.specs.Records.{SpellsBodies}
use Rattle.omf_module.specs.Spelled.{SpellsModule, SpellsModules}

pub modules_push : (bytes : List ℕ) (from to next : ℕ) (ms : List ModuleValue) (m : ModuleValue) → SpellsModules bytes from to ms
    → SpellsModule bytes to next m → SpellsModules bytes from next (ms ++ m ∷ [])
modules_push bytes from to next [] m s one = (next, subst (λ (f : ℕ). SpellsModule bytes f next m) (sym s) one, refl)
modules_push bytes from to next (n ∷ ms) m s one = (s.0, s.1, modules_push bytes s.0 to next ms m s.2 one)

pub bodies_further : (bytes : List ℕ) (from to : ℕ) (ps : List PlacedBody) → SpellsBodies bytes from to ps → from ≤ to
bodies_further bytes from to [] s = omega (arith, s)
bodies_further bytes from to (p ∷ ps) s = omega (arith, s.1.1.framed.all_counted, bodies_further bytes s.1.0 to ps s.1.2)

pub module_further : (bytes : List ℕ) (at after : ℕ) (m : ModuleValue) → SpellsModule bytes at after m
    → (at < after) × (after ≤ length bytes)
module_further bytes at after m s = (
  omega (
    arith,
    s.begins,
    s.spelled.header.framed.all_counted,
    bodies_further bytes s.spelled.first s.records.end_at
        s.records.within s.spelled.within,
    s.spelled.end.framed.all_counted,
  ),
  s.spelled.end.framed.within,
)
