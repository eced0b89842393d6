use Rattle.plm80_objects.proofs.Names.{◌≡◌, map, take, root_paths}
use Rattle.plm80_objects.proofs.helpers.causes.root_paths.Given as goal

-- the paths of the files so far
abbrev pub invariant-loop-file : goal.invariant-loop-file
invariant-loop-file l = map (λ p. p.now) l.paths.items ≡ root_paths (take l.file-index l.files)
