-- Files that are read one after another, and what they have.
use Rattle.plm80_objects.proofs.Names.{◌≡◌, ℕ, ◌+◌, ◌<◌, List, [], ◌∷◌, ◌++◌, length, drop, take, slice_index_or, map, refl, Bor, ◌∙◌, ap}
use Rattle.plm80_objects.proofs.Names.{arith, get_or, subst, sym, append-nil, append_assoc, map-append, map_more, take_more, ModuleValue, SpellsFile}
use Rattle.plm80_objects.proofs.Names.{AnswerValue, paths_of, FileValue, Journal, and_read, and_read_files}
use Rattle.plm80_objects.proofs.Names.{file_value, OnlyReports}
use Rattle.plm80_objects.proofs.Names.{AnswersModules, OfProgram, AreRead, and_reported, take-append-drop}
use Rattle.std.specs.Prelude.{◌≢◌}
use Rattle.std.proofs.Common.{inl, inr}
use Rattle.plm80_console.specs.AnswerLaws.{blamed_after, more_blamed}
use Rattle.plm80_console.specs.Journal.{Blames, OnlyBlames, and_blamed, OnlyBlames.other, OnlyBlames.wrong, OnlyReports.read as read_it, OnlyReports.unread as nothing_read}
use Rattle.plm80_files.specs.Wrong.{OfFirst}
use Rattle.plm80_objects.specs.Wrong.{OfOne}
use Rattle.rom80.specs.declared.fault.RomFault.{RomFault, TheVariants.PastMemory, TheVariants.EmptyFile, TheVariants.DumpsOverlap, TheVariants.Memory}
use Rattle.plm80_objects.specs.{Compare.IsDump, RomFaults.IsRefused}

abbrev pub text_of : Bor (List ℕ) → List ℕ
text_of text = text.now

abbrev pub texts : List (Bor (List ℕ)) → List (List ℕ)
texts ps = map text_of ps

-- ---- files, one after another

read_behind : (old : Journal) (files others : List FileValue)
    → and_read_files (and_read_files old files) others ≡ and_read_files old (files ++ others)
read_behind old [] others = refl
read_behind old (file ∷ files) others = read_behind (and_read old file.path file.bytes) files others

-- none
pub none_read : {A X : Type 0} (path_of : A → List ℕ) (xs : List A) (old : Journal) (Have : List FileValue → X → Type 0) (read zero : X)
    → read ≡ zero → Have [] zero → AreRead Have (map path_of (take 0 xs)) old old read
none_read path_of xs old Have read zero is have =
    record { files = []; paths_are = refl; have = subst (Have []) (sym is) have; journal = refl }

-- one more
pub one_read : {A X : Type 0} (path_of : A → List ℕ) (xs : List A) (i : ℕ) (d : A) (old between new : Journal)
    (Have More : List FileValue → X → Type 0) (bytes : List ℕ) (before after made : X) → i < length xs
    → AreRead Have (map path_of (take i xs)) old between before → new ≡ and_read between (path_of (get_or xs i d)) bytes → after ≡ made
    → ((files : List FileValue) → paths_of files ≡ map path_of (take i xs) → Have files before
    → More (files ++ file_value (path_of (get_or xs i d)) bytes ∷ []) made)
    → AreRead More (map path_of (take (i + 1) xs)) old new after
one_read path_of xs i d old between new Have More bytes before after made below read one is more =
    let file = file_value (path_of (get_or xs i d)) bytes in
    record {
      files = read.files ++ file ∷ [];
      paths_are = map-append (λ (f : FileValue). f.path) read.files (file ∷ [])
          ∙ ap (λ (ps : List (List ℕ)). ps ++ file.path ∷ []) read.paths_are
          ∙ sym (map_more path_of xs i d below);
      have = subst (More (read.files ++ file ∷ [])) (sym is) (more read.files read.paths_are read.have);
      journal = one ∙ ap (λ (j : Journal). and_read j file.path bytes) read.journal ∙ read_behind old read.files (file ∷ []);
    }

-- the paths of files, those that were read before the next one and those behind it
paths_at : {A : Type 0} (path_of : A → List ℕ) (xs : List A) (i : ℕ) (d : A) → i < length xs
    → map path_of xs ≡ map path_of (take i xs) ++ (path_of (get_or xs i d) ∷ map path_of (drop (i + 1) xs))
paths_at {A = A} path_of xs i d below =
    ap (map path_of) (sym (take-append-drop (i + 1) xs) ∙ ap (λ (ys : List A). ys ++ drop (i + 1) xs) (take_more xs i d below)
    ∙ append_assoc (take i xs) (get_or xs i d ∷ []) (drop (i + 1) xs))
    ∙ map-append path_of (take i xs) (get_or xs i d ∷ drop (i + 1) xs)

-- ---- what is wrong with one of files

one_behind : (Wrong : List ℕ → Type 0) (files others : List FileValue) → OfFirst Wrong others → OfOne Wrong (files ++ others)
one_behind Wrong [] [] w = absurd w
one_behind Wrong [] (file ∷ others) w = inl w
one_behind Wrong (file ∷ files) others w = inr (one_behind Wrong files others w)

pub one_before : (Wrong : List ℕ → Type 0) (files others : List FileValue) → OfOne Wrong files → OfOne Wrong (files ++ others)
one_before Wrong [] others w = absurd w
one_before Wrong (file ∷ files) others (inl w) = inl w
one_before Wrong (file ∷ files) others (inr w) = inr (one_before Wrong files others w)

-- nothing, if it is wrong neither with the last nor with one before that
pub none_of : (Wrong : List ℕ → Type 0) (files : List FileValue) (file : FileValue) → (OfOne Wrong files → ⊥) → (Wrong file.bytes → ⊥)
    → OfOne Wrong (files ++ file ∷ []) → ⊥
none_of Wrong [] file before last (inl w) = last w
none_of Wrong [] file before last (inr w) = w
none_of Wrong (f ∷ files) file before last (inl w) = before (inl w)
none_of Wrong (f ∷ files) file before last (inr w) = none_of Wrong files file (λ one. before (inr one)) last w

-- what is wrong with further files, behind files that were read
pub blamed_behind : (Wrong More : List FileValue → Type 0) {old between new : Journal} {paths further : List (List ℕ)} (files : List FileValue)
    → paths ≡ paths_of files ++ further → between ≡ and_read_files old files → ((others : List FileValue) → Wrong others → More (files ++ others))
    → OnlyBlames Wrong further between new → OnlyBlames More paths old new
blamed_behind Wrong More {old = old} {between = between} {new = new} {paths = paths} {further = further} files are were more blames = of_blames blames
  where
    paths_are : (others : List FileValue) (rest : List (List ℕ)) → further ≡ paths_of others ++ rest → paths ≡ paths_of (files ++ others) ++ rest
    paths_are others rest first =
        are ∙ ap (λ (ps : List (List ℕ)). paths_of files ++ ps) first ∙ sym (append_assoc (paths_of files) (paths_of others) rest)
        ∙ ap (λ (ps : List (List ℕ)). ps ++ rest) (sym (map-append (λ (f : FileValue). f.path) files others))

    read_both : (others : List FileValue) → and_read_files between others ≡ and_read_files old (files ++ others)
    read_both others = ap (λ (j : Journal). and_read_files j others) were ∙ read_behind old files others

    of_blames : OnlyBlames Wrong further between new → OnlyBlames More paths old new
    of_blames (other (nothing_read is)) = other (read_it files further are (is ∙ ap and_reported were))
    of_blames (other (read_it others rest first is)) = other (read_it (files ++ others) rest (paths_are others rest first) (is ∙ ap and_reported (read_both others)))
    of_blames (wrong others rest first w is) =
        wrong (files ++ others) rest (paths_are others rest first) (more others w) (is ∙ ap and_blamed (read_both others))

module _ {A X : Type 0} (path_of : A → List ℕ) (xs : List A) (i : ℕ) {Have : List FileValue → X → Type 0} {old between new : Journal} {x : X}
    (so_far : AreRead Have (map path_of (take i xs)) old between x) where
  -- a fault before the next one is read
  pub faults_before : new ≡ and_reported between → OnlyReports (map path_of xs) old new
  faults_before is =
      read_it so_far.files (map path_of (drop i xs))
      (ap (map path_of) (sym (take-append-drop i xs)) ∙ map-append path_of (take i xs) (drop i xs)
      ∙ ap (λ (ps : List (List ℕ)). ps ++ map path_of (drop i xs)) (sym so_far.paths_are))
      (is ∙ ap and_reported so_far.journal)

  -- what is wrong with the next one is wrong with one of all
  pub blames_at : (Wrong : List ℕ → Type 0) (d : A) → i < length xs → OnlyBlames (OfFirst Wrong) (path_of (get_or xs i d) ∷ []) between new
      → OnlyBlames (OfOne Wrong) (map path_of xs) old new
  blames_at Wrong d below blames =
      let behind = map path_of (drop (i + 1) xs) in
      blamed_behind (OfFirst Wrong) (OfOne Wrong) so_far.files
      (paths_at path_of xs i d below
      ∙ ap (λ (ps : List (List ℕ)). ps ++ (path_of (get_or xs i d) ∷ behind)) (sym so_far.paths_are))
      so_far.journal (one_behind Wrong so_far.files) (more_blamed behind blames)

  -- what is wrong with those that were read is wrong with all
  pub blames_before : {Wrong : Type 0} (More : List FileValue → Type 0) → (Wrong → More so_far.files) → Blames Wrong between new
      → OnlyBlames More (map path_of xs) old new
  blames_before More more blames =
      subst (λ (ps : List (List ℕ)). OnlyBlames More ps old new)
      (sym (map-append path_of (take i xs) (drop i xs)) ∙ ap (map path_of) (take-append-drop i xs))
      (more_blamed (map path_of (drop i xs))
      (blamed_after old between new so_far.files (map path_of (take i xs)) so_far.paths_are so_far.journal More more blames))

-- a fault behind all files
pub all_read : {X : Type 0} {Have : List FileValue → X → Type 0} {paths : List (List ℕ)} {old between new : Journal} {x : X}
    → AreRead Have paths old between x → new ≡ and_reported between → OnlyReports paths old new
all_read read is = read_it read.files [] (sym (append-nil (paths_of read.files) ∙ read.paths_are)) (is ∙ ap and_reported read.journal)

-- a fault behind a file that was read
pub read_then_reported : (path bytes : List ℕ) (old between new : Journal) → between ≡ and_read old path bytes → new ≡ and_reported between
    → OnlyReports (path ∷ []) old new
read_then_reported path bytes old between new were is = read_it (file_value path bytes ∷ []) [] refl (is ∙ ap and_reported were)

-- ---- dumps

-- what is no dump alone
pub refused_dump : (first : ℕ) (bytes : List ℕ) (fault : RomFault) → fault ≢ Memory → IsRefused first bytes fault → IsDump first bytes → ⊥
refused_dump first bytes PastMemory no_memory past is = is.1 past
refused_dump first bytes EmptyFile no_memory empty is = is.0 empty
refused_dump first bytes DumpsOverlap no_memory overlap is = cc (overlap.1.1)
refused_dump first bytes Memory no_memory memory is = no_memory refl

-- ---- the one module of a file

pub alone : (modules : List ModuleValue) (m : ModuleValue) → length modules ≡ 1 → m ≡ slice_index_or modules 0 m → modules ≡ m ∷ []
alone [] m one is = absurd (omega (arith, one))
alone (n ∷ []) m one is = ap (λ (x : ModuleValue). x ∷ []) (sym is)
alone (n ∷ o ∷ modules) m one is = absurd (omega (arith, one))

pub of_program : (Answers : ModuleValue → AnswerValue → Type 0) (file : FileValue) (modules : List ModuleValue) (m : ModuleValue)
    (answer : AnswerValue) → SpellsFile file.bytes modules → length modules ≡ 1 → m ≡ slice_index_or modules 0 m → Answers m answer
    → AnswersModules (OfProgram Answers) (file ∷ []) answer
of_program Answers file modules m answer spelled one is answers = record {
  file = file;
  files_are = refl;
  modules = modules;
  spelled = spelled;
  answers = record { program = m; alone = alone modules m one is; answers = answers };
}
