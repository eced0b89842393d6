-- A fault that is blamed is there: of what the files are, and of arguments, there is one reading.
use Rattle.std.specs.Prelude.{◌≢◌, ◌⊎◌, None, Option, Some}
use Rattle.std.proofs.Common.{inl, inr}
use Rattle.std.proofs.lemmas.{Bool.false≢true, Option.none-some}
use Rattle.omf_module.specs.ReadingLaws.{OneFile}
use Rattle.omf_library.specs.Laws.{OneLibrary}
use Rattle.link80.specs.Selection.{IsSelection}
use Rattle.link80_text.specs.Parts.{IsMade}
use Rattle.place80.specs.declared.options.Options.{Options}
use Rattle.plm80_files.specs.{LinkFiles.SpellsEither, Wrong.OfFirst, Wrong.SpellsNeither, Wrong.SpellsNoModules, WrongLaws.of_first}
use Rattle.plm80_files.specs.declared.link_feed.LinkFile.TheVariants.{Library, Modules}
use Rattle.plm80_objects.specs.Arguments.{AreNumbersOf}
use Rattle.plm80_objects.specs.declared.{find.FindArguments.FindArguments, helpers.locate_options.LocateTexts.LocateTexts, link.LinkArguments.LinkArguments, link.LinkFiles.LinkFiles}
use Rattle.plm80_objects.specs.Find.{AreLinkFiles.more as more_files, AreLinkFiles.none as no_files_are}
use Rattle.plm80_objects.specs.Link.{AddsFile, AreLinkFilesOf.more as more_link_files, AreLinkFilesOf.none as no_link_file}
use Rattle.plm80_objects.specs.Modules.{AreModulesOf.more as more_modules, AreModulesOf.none as no_modules_of}
use Rattle.plm80_objects.specs.Wrong.{LinksNone, OfOne, SpellsNoProgram}
use Rattle.plm80_objects.proofs.Names.{◌≡◌, ℕ, List, [], ◌∷◌, ◌++◌, drop, length, slice_index_or, refl, ◌∙◌, ap, sym, subst, append-nil}
use Rattle.plm80_objects.proofs.Names.{AnswerValue, AnswersModules, AreLinkFiles, AreLinkFilesOf, AreModulesOf, FileValue, FindsModules, LinkFile, LinksFiles, ModuleValue, OfProgram}
use Rattle.plm80_objects.proofs.Names.{SpellsFile, paths_of}
use Rattle.plm80_objects.proofs.ReadLemmas.{alone, none_of, one_before}

-- ---- lists

not_snoc : {A : Type 0} (xs : List A) (x : A) → [] ≡ xs ++ x ∷ [] → ⊥
not_snoc [] x same = cc
not_snoc (a ∷ xs) x same = cc

snoc_same : {A : Type 0} (xs ys : List A) (x y : A) → xs ++ x ∷ [] ≡ ys ++ y ∷ [] → (xs ≡ ys) × (x ≡ y)
snoc_same {A} [] [] x y same = (refl, ap (λ (l : List A). slice_index_or l 0 x) same)
snoc_same {A} [] (b ∷ ys) x y same = absurd (not_snoc ys y (ap (λ (l : List A). drop 1 l) same))
snoc_same {A} (a ∷ xs) [] x y same = absurd (not_snoc xs x (ap (λ (l : List A). drop 1 l) (sym same)))
snoc_same {A} (a ∷ xs) (b ∷ ys) x y same =
    let rest = snoc_same xs ys x y (ap (λ (l : List A). drop 1 l) same) in
    let first : a ≡ b = ap (λ (l : List A). slice_index_or l 0 a) same in
    ((λ k. first k ∷ rest.0 k), rest.1)

no_others : (files others : List FileValue) → paths_of (files ++ others) ≡ paths_of files → others ≡ []
no_others [] [] same = refl
no_others [] (other ∷ others) same = absurd cc
no_others (file ∷ files) others same = no_others files others (ap (λ (ps : List (List ℕ)). drop 1 ps) same)

-- all files were read
pub all_of_them : (files others : List FileValue) (paths : List (List ℕ)) → paths_of files ≡ paths → paths_of (files ++ others) ≡ paths → files ≡ files ++ others
all_of_them files others paths named all =
    sym (ap (λ (os : List FileValue). files ++ os) (no_others files others (all ∙ sym named)) ∙ append-nil files)

-- ---- faults

-- a fault that isn't that of memory is there
pub is_there : {F : Type 0} (o : Option F) (memory fault : F) → (fault ≡ memory) ⊎ (o ≡ Some fault) → fault ≢ memory → o ≡ None → ⊥
is_there o memory fault (inl ran_out) other none = other ran_out
is_there o memory fault (inr some) other none = none-some fault (sym none ∙ some)

-- ---- the program of a file

pub no_program : (Answers : ModuleValue → AnswerValue → Type 0) (files others : List FileValue) (answer : AnswerValue)
    → AnswersModules (OfProgram Answers) (files ++ others) answer → OfFirst SpellsNoProgram files → ⊥
no_program Answers files others answer is lacks =
    of_first SpellsNoProgram files others [] is.file is.files_are lacks is.answers.program
    (subst (λ (ms : List ModuleValue). SpellsFile is.file.bytes ms) is.answers.alone is.spelled)

pub no_program_there : (files : List FileValue) → OfFirst SpellsNoModules files → OfFirst SpellsNoProgram files
no_program_there [] lacks = lacks
no_program_there (file ∷ files) lacks = λ program spelled. lacks (program ∷ []) spelled

pub not_one : OneFile → (bytes : List ℕ) (modules : List ModuleValue) → SpellsFile bytes modules → length modules ≢ 1 → SpellsNoProgram bytes
not_one one bytes modules read several program spelled = several (ap (λ (ms : List ModuleValue). length ms) (one bytes modules (program ∷ []) read spelled))

-- an answer to the file of a program is one to that program
pub of_its_program : OneFile → (Answers : ModuleValue → AnswerValue → Type 0) (file : FileValue) (others : List FileValue) (modules : List ModuleValue)
    (m : ModuleValue) (answer : AnswerValue) → SpellsFile file.bytes modules → length modules ≡ 1 → m ≡ slice_index_or modules 0 m
    → AnswersModules (OfProgram Answers) (file ∷ others) answer → Answers m answer
of_its_program one Answers file others modules m answer spelled single is answers =
    let same : answers.file ≡ file = sym (ap (λ (fs : List FileValue). slice_index_or fs 0 file) answers.files_are) in
    let read = subst (λ (f : FileValue). SpellsFile f.bytes answers.modules) same answers.spelled in
    let both = sym answers.answers.alone ∙ one file.bytes answers.modules modules read spelled ∙ alone modules m single is in
    subst (λ (p : ModuleValue). Answers p answer) (ap (λ (ms : List ModuleValue). slice_index_or ms 0 m) both) answers.answers.answers

-- ---- what options write

pub one_numbers : (texts : LocateTexts) (a b : Options) → AreNumbersOf texts a → AreNumbersOf texts b → a ≡ b
one_numbers texts a b is are = λ k. record {
  code = (is.code.1 ∙ sym are.code.1) k;
  stack = (is.stack.1 ∙ sym are.stack.1) k;
  common = (is.common.1 ∙ sym are.common.1) k;
  data_base = (is.data_base.1 ∙ sym are.data_base.1) k;
  memory = (is.memory.1 ∙ sym are.memory.1) k;
  stack_size = (is.stack_size.1 ∙ sym are.stack_size.1) k;
  memory_size = (is.memory_size.1 ∙ sym are.memory_size.1) k;
}

-- ---- the files of `link`

pub no_link_files : (files : List FileValue) (read : LinkFiles) → AreLinkFilesOf files read → OfOne SpellsNeither files → ⊥
no_link_files _ _ (no_link_file read roots root_files libraries paths) one = one
no_link_files _ _ (more_link_files read before after file is so_far spelled adds) one =
    none_of SpellsNeither read file (no_link_files read before so_far) (λ lacks. lacks is spelled) one

-- what two readings of one file add
adds_same : OneFile → OneLibrary → (bytes path path' : List ℕ) (is is' : LinkFile) (before after before' after' : LinkFiles) → SpellsEither bytes is
    → SpellsEither bytes is' → AddsFile is path before after → AddsFile is' path' before' after'
    → (before.roots.items ≡ before'.roots.items) × (before.libraries.items ≡ before'.libraries.items)
    → (after.roots.items ≡ after'.roots.items) × (after.libraries.items ≡ after'.libraries.items)
adds_same one_file one_library bytes path path' (Modules ms) (Modules ms') before after before' after' spelled spelled' adds adds' had =
    let own = one_file bytes ms.items ms'.items spelled.0 spelled'.0 in
    let roots : before.roots.items ++ ms.items ≡ before'.roots.items ++ ms'.items = λ k. had.0 k ++ own k in
    let first : after.libraries.items ≡ before.libraries.items = λ k. (adds.libraries k).items in
    let second : after'.libraries.items ≡ before'.libraries.items = λ k. (adds'.libraries k).items in
    (adds.roots ∙ roots ∙ sym adds'.roots, first ∙ had.1 ∙ sym second)
adds_same one_file one_library bytes path path' (Modules ms) (Library ms') before after before' after' spelled spelled' adds adds' had =
    absurd (false≢true (sym spelled.1 ∙ spelled'.1))
adds_same one_file one_library bytes path path' (Library ms) (Modules ms') before after before' after' spelled spelled' adds adds' had =
    absurd (false≢true (sym spelled'.1 ∙ spelled.1))
adds_same one_file one_library bytes path path' (Library ms) (Library ms') before after before' after' spelled spelled' adds adds' had =
    let own = one_library bytes ms ms' spelled.0 spelled'.0 in
    let libraries : before.libraries.items ++ ms ∷ [] ≡ before'.libraries.items ++ ms' ∷ [] = λ k. had.1 k ++ own k ∷ [] in
    let first : after.roots.items ≡ before.roots.items = λ k. (adds.roots k).items in
    let second : after'.roots.items ≡ before'.roots.items = λ k. (adds'.roots k).items in
    (first ∙ had.0 ∙ sym second, adds.libraries ∙ libraries ∙ sym adds'.libraries)

files_same : OneFile → OneLibrary → (files files' : List FileValue) (a b : LinkFiles) → AreLinkFilesOf files a → AreLinkFilesOf files' b → files ≡ files'
    → (a.roots.items ≡ b.roots.items) × (a.libraries.items ≡ b.libraries.items)
files_same one_file one_library _ _ _ _ (no_link_file a roots root_files libraries paths) (no_link_file b roots' root_files' libraries' paths') same =
    (roots ∙ sym roots', libraries ∙ sym libraries')
files_same one_file one_library _ _ _ _ (no_link_file a roots root_files libraries paths) (more_link_files read before after file is so_far spelled adds) same =
    absurd (not_snoc read file same)
files_same one_file one_library _ _ _ _ (more_link_files read before after file is so_far spelled adds) (no_link_file b roots root_files libraries paths) same =
    absurd (not_snoc read file (sym same))
files_same one_file one_library _ _ _ _ (more_link_files read before after file is so_far spelled adds)
    (more_link_files read' before' after' file' is' so_far' spelled' adds') same =
    let both = snoc_same read read' file file' same in
    adds_same one_file one_library file.bytes file.path file'.path is is' before after before' after' spelled
    (subst (λ (f : FileValue). SpellsEither f.bytes is') (sym both.1) spelled') adds adds'
    (files_same one_file one_library read read' before before' so_far so_far' both.0)

-- files of which nothing can be linked have no answer
pub links_none : OneFile → OneLibrary → (asked : LinkArguments) (files all : List FileValue) (read : LinkFiles) (answer : AnswerValue) → AreLinkFilesOf files read
    → files ≡ all → LinksFiles asked all answer → LinksNone read.roots.items read.libraries.items → ⊥
links_none one_file one_library asked files all read answer are same is lacks =
    let both = files_same one_file one_library files all read is.files are is.are same in
    lacks is.links.made
    (subst (λ (rs : List ModuleValue). IsSelection rs read.libraries.items is.links.made.taken.items) (sym both.0)
    (subst (λ (ls : List (List ModuleValue)). IsSelection is.files.roots.items ls is.links.made.taken.items) (sym both.1) is.links.selection))
    (subst (λ (rs : List ModuleValue). IsMade rs read.libraries.items is.links.made) (sym both.0)
    (subst (λ (ls : List (List ModuleValue)). IsMade is.files.roots.items ls is.links.made) (sym both.1) is.links.is_made))

-- ---- the files of `find`

no_files : (files : List FileValue) (are : List LinkFile) → AreLinkFiles files are → OfOne SpellsNeither files → ⊥
no_files _ _ no_files_are one = one
no_files _ _ (more_files files are file is so_far spelled) one = none_of SpellsNeither files file (no_files files are so_far) (λ lacks. lacks is spelled) one

-- a file behind the dump
pub none_found : (asked : FindArguments) (files others : List FileValue) (answer : AnswerValue) → FindsModules asked (files ++ others) answer
    → OfOne SpellsNeither (drop 1 files) → ⊥
none_found asked [] others answer is lacks = lacks
none_found asked (file ∷ files) others answer is lacks =
    no_files is.files is.are is.are_files
    (subst (OfOne SpellsNeither) (ap (λ (fs : List FileValue). drop 1 fs) is.read_are) (one_before SpellsNeither files others lacks))

-- ---- the files of `lib`

pub no_modules : (files : List FileValue) (modules : List ModuleValue) → AreModulesOf files modules → OfOne SpellsNoModules files → ⊥
no_modules _ _ no_modules_of one = one
no_modules _ _ (more_modules files modules file own so_far spelled) one =
    none_of SpellsNoModules files file (no_modules files modules so_far) (λ lacks. lacks own spelled) one

pub one_list_of_modules : OneFile → (files files' : List FileValue) (a b : List ModuleValue) → AreModulesOf files a → AreModulesOf files' b → files ≡ files'
    → a ≡ b
one_list_of_modules one _ _ _ _ no_modules_of no_modules_of same = refl
one_list_of_modules one _ _ _ _ no_modules_of (more_modules files modules file own so_far spelled) same = absurd (not_snoc files file same)
one_list_of_modules one _ _ _ _ (more_modules files modules file own so_far spelled) no_modules_of same = absurd (not_snoc files file (sym same))
one_list_of_modules one _ _ _ _ (more_modules files modules file own so_far spelled) (more_modules files' modules' file' own' so_far' spelled') same =
    let both = snoc_same files files' file file' same in
    let before = one_list_of_modules one files files' modules modules' so_far so_far' both.0 in
    let last = one file.bytes own own' spelled (subst (λ (f : FileValue). SpellsFile f.bytes own') (sym both.1) spelled') in
    λ k. before k ++ last k
