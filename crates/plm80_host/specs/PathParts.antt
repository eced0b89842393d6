-- The folder and the name in a path.
-- (POSIX, pathname resolution: names are separated by slashes; one alone at the beginning is the root.)
use Rattle.std.specs.Prelude.{◌≡◌, ◌⊎◌, ℕ, ◌==◌, if◌then◌else◌, List, ◌∷◌, ◌++◌, codes, slice_index_or}

-- a path without a slash names a file of the current folder; else the name follows a slash, and what stands before it is the folder
abbrev pub ArePathParts : (path folder name : List ℕ) → Type 0
ArePathParts path folder name =
    ((path ≡ name) × (folder ≡ codes "."))
    ⊎ (((path ≡ 47 ∷ name) × (folder ≡ codes "/")) ⊎ (path ≡ folder ++ 47 ∷ name))

-- a path that begins in a folder, unless it begins at the root
abbrev pub joined_path : (folder path : List ℕ) → List ℕ
joined_path folder path = if slice_index_or path 0 0 == 47 then path else folder ++ 47 ∷ path
