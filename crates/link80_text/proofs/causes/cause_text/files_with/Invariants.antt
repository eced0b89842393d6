use Rattle.std.proofs.Common.{◌≡◌, ◌++◌, [], drop, map}
use Rattle.std.specs.Prelude.{slice_index_or}
use Rattle.link80_text.specs.Causes.{files_with}
use Rattle.link80_text.proofs.causes.cause_text.files_with.Given as goal

-- the files so far, and those of the roots that are left
abbrev pub invariant-loop-file : goal.invariant-loop-file
invariant-loop-file l =
    map (λ f. f.now) l.files.items ++ map (λ f. f.now) (drop l.file-index l.root_files) ≡ map (λ f. f.now) l.root_files

-- the files so far, and those of the places that are left
abbrev pub invariant-loop-place : goal.invariant-loop-place
invariant-loop-place l =
    map (λ f. f.now) l.files.items
    ++ map (λ p. slice_index_or (map (λ f. f.now) l.library_files) p.library []) (drop l.place-index l.taken)
    ≡ files_with (map (λ f. f.now) l.root_files) (map (λ f. f.now) l.library_files) l.taken
