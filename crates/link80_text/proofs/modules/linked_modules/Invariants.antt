use Rattle.std.proofs.Common.{◌≡◌, ◌++◌, drop, filter_map, map}
use Rattle.link80_select.specs.Selected.{module_at}
use Rattle.link80.specs.Selection.{modules_with}
use Rattle.link80_text.proofs.modules.linked_modules.Given as goal

-- the modules so far, and the roots that are left
abbrev pub invariant-loop-root : goal.invariant-loop-root
invariant-loop-root l = map (λ m. m.now) l.modules.items ++ drop l.root-index l.roots ≡ l.roots

-- the modules so far, and those at the places that are left
abbrev pub invariant-loop-place : goal.invariant-loop-place
invariant-loop-place l =
    map (λ m. m.now) l.modules.items ++ filter_map (module_at l.libraries) (drop l.place-index l.taken)
    ≡ modules_with l.roots l.libraries l.taken
