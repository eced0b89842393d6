-- What follows for a command that reads a board before its other files: laws that hold whatever it answers. (This project's own.)
use Rattle.std.specs.Prelude.{◌≡◌, ℕ, List, [], ◌∷◌, ◌++◌, Option, Result, IfOk, IfErr, drop, slice_index_or, take}
use Rattle.std.specs.Borrow.{Bor}
use Rattle.std.proofs.Common.{refl, subst, sym, ap, append_assoc, ◌∙◌}
use Rattle.std.proofs.lemmas.{List.map-append, Result.IfErr-weaker, Result.IfOk-weaker}
use Rattle.board80.specs.{Board.Spells, declared.line.Line.Line}
use Rattle.plm80_console.specs.Answer.{AnswerValue, GaveUp, Gives, GivesUp, IsGiven, NoAnswer}
use Rattle.plm80_console.specs.Answer.GivesUp.{before, unanswered, within}
use Rattle.plm80_console.specs.Journal.{FileValue, Journal, OnlyBlames, OnlyReports, and_blamed, and_read, and_read_files, and_reported, paths_of}
use Rattle.plm80_console.specs.Journal.OnlyReports.{read, unread}
use Rattle.plm80_console.specs.Journal.OnlyBlames.{other, wrong}
use Rattle.plm80_boards.specs.Boards.{HaveNoBoard, IsBoardOf, IsBoardRead, WithBoard, board_paths}
use Rattle.plm80_boards.specs.Boards.IsBoardOf.{none, one}

-- a board's file has the path that is given
named : (path : Option (Bor (List ℕ))) (files : List FileValue) (board : Option (List Line)) → IsBoardOf path files board
    → paths_of files ≡ board_paths path
named _ _ _ none = refl
named _ _ _ (one path file board is spelled) = ap (λ (p : List ℕ). p ∷ []) is

-- files behind files
read_behind : (old : Journal) (files others : List FileValue)
    → and_read_files (and_read_files old files) others ≡ and_read_files old (files ++ others)
read_behind old [] others = refl
read_behind old (file ∷ files) others = read_behind (and_read old file.path file.bytes) files others

paths_behind : (path : Option (Bor (List ℕ))) (files : List FileValue) (board : Option (List Line)) → IsBoardOf path files board
    → (others : List FileValue) (rest : List (List ℕ))
    → paths_of (files ++ others) ++ rest ≡ board_paths path ++ (paths_of others ++ rest)
paths_behind path files board is others rest =
    ap (λ (ps : List (List ℕ)). ps ++ rest)
    (map-append (λ (file : FileValue). file.path) files others
    ∙ ap (λ (ps : List (List ℕ)). ps ++ paths_of others) (named path files board is))
    ∙ append_assoc (board_paths path) (paths_of others) rest

-- ---- no answer

-- the files of a board and the files behind it are known by all of them
cut_same : (path : Option (Bor (List ℕ))) (files files' : List FileValue) (board board' : Option (List Line)) → IsBoardOf path files board
    → IsBoardOf path files' board' → (others others' : List FileValue) → files ++ others ≡ files' ++ others' → (files ≡ files') × (others ≡ others')
cut_same _ _ _ _ _ none none others others' same = (refl, same)
cut_same _ _ _ _ _ (one path file board is spelled) (one _ file' board' is' spelled') others others' same =
    (ap (take 1) same, ap (drop 1) same)

cut_paths : (path : Option (Bor (List ℕ))) (files : List FileValue) (board : Option (List Line)) → IsBoardOf path files board
    → (others : List FileValue) (paths : List (List ℕ)) → paths_of (files ++ others) ≡ board_paths path ++ paths → paths_of others ≡ paths
cut_paths _ _ _ none others paths same = same
cut_paths _ _ _ (one path file board is spelled) others paths same = ap (drop 1) same

-- a file that spells no board, in its place
no_board : (path : Option (Bor (List ℕ))) (files : List FileValue) (board : Option (List Line)) → IsBoardOf path files board
    → (seen others behind : List FileValue) (rest : List (List ℕ)) → board_paths path ≡ paths_of seen ++ rest → seen ++ others ≡ files ++ behind
    → HaveNoBoard seen → ⊥
no_board path files board is [] others behind rest are same lacks = lacks
no_board _ _ _ none (file ∷ seen) others behind rest are same lacks = absurd cc
no_board _ _ _ (one path file board is spelled) (file' ∷ seen) others behind rest are same lacks =
    lacks board (subst (λ (f : FileValue). Spells f.bytes board) (sym (ap (λ (fs : List FileValue). slice_index_or fs 0 file) same)) spelled)

module _ (path : Option (Bor (List ℕ))) (Answers : Option (List Line) → List FileValue → AnswerValue → Type 0) (paths : List (List ℕ))
    (old between new : Journal) (board : Option (List Line)) (given : IsBoardRead path old between board) where
  same_paths : (others : List FileValue) → paths_of others ≡ paths → paths_of (given.files ++ others) ≡ board_paths path ++ paths
  same_paths others are =
      map-append (λ (file : FileValue). file.path) given.files others
      ∙ ap (λ (ps : List (List ℕ)). ps ++ paths_of others) (named path given.files board given.is_board)
      ∙ ap (λ (ps : List (List ℕ)). board_paths path ++ ps) are

  same_journal : (others : List FileValue) → and_read_files between others ≡ and_read_files old (given.files ++ others)
  same_journal others =
      ap (λ (j : Journal). and_read_files j others) given.journal ∙ read_behind old given.files others

  on_board : (others : List FileValue) (answer : AnswerValue) → Answers board others answer
      → WithBoard path Answers (given.files ++ others) answer
  on_board others answer answers = record {
    board = board;
    board_files = given.files;
    is_board = given.is_board;
    others = others;
    files_are = refl;
    answers = answers;
  }

  gives_status : (status : ℕ) → Gives (Answers board) paths between new status → Gives (WithBoard path Answers) (board_paths path ++ paths) old new status
  gives_status status is = record {
    files = given.files ++ is.files;
    paths_are = same_paths is.files is.paths_are;
    answer = is.answer;
    answers = on_board is.files is.answer is.answers;
    given = subst (λ (j : Journal). IsGiven is.answer j new status) (same_journal is.files) is.given;
  }

  -- a fault as the other files are read, or behind them
  pub reports_on_board : OnlyReports paths between new → OnlyReports (board_paths path ++ paths) old new
  reports_on_board (unread is) =
      read given.files paths (ap (λ (ps : List (List ℕ)). ps ++ paths) (sym (named path given.files board given.is_board)))
      (is ∙ ap and_reported given.journal)
  reports_on_board (read others rest are is) =
      read (given.files ++ others) rest
      (ap (λ (ps : List (List ℕ)). board_paths path ++ ps) are
      ∙ sym (paths_behind path given.files board given.is_board others rest))
      (is ∙ ap and_reported (same_journal others))

  -- what is no answer on the board is none with it
  unanswered_on_board : (others : List FileValue) → NoAnswer (Answers board) paths others
      → NoAnswer (WithBoard path Answers) (board_paths path ++ paths) (given.files ++ others)
  unanswered_on_board others lacks behind answer named is =
      let same = append_assoc given.files others behind in
      let cut = cut_same path given.files is.board_files board is.board given.is_board is.is_board (others ++ behind) is.others
      (sym same ∙ is.files_are) in
      lacks behind answer
      (cut_paths path given.files board given.is_board (others ++ behind) paths (ap paths_of (sym same) ∙ named))
      (subst (λ (b : Option (List Line)). Answers b (others ++ behind) answer)
      (given.alone is.board (subst (λ (fs : List FileValue). IsBoardOf path fs is.board) (sym cut.0) is.is_board))
      (subst (λ (fs : List FileValue). Answers is.board fs answer) (sym cut.1) is.answers))

  pub blames_on_board : (Wrong More : List FileValue → Type 0) → ((others : List FileValue) → Wrong others → More (given.files ++ others))
      → OnlyBlames Wrong paths between new → OnlyBlames More (board_paths path ++ paths) old new
  blames_on_board Wrong More more (other only) = other (reports_on_board only)
  blames_on_board Wrong More more (wrong others rest are w is) =
      wrong (given.files ++ others) rest
      (ap (λ (ps : List (List ℕ)). board_paths path ++ ps) are
      ∙ sym (paths_behind path given.files board given.is_board others rest))
      (more others w) (is ∙ ap and_blamed (same_journal others))

  gives_up_once : GivesUp (Answers board) paths between new → GivesUp (WithBoard path Answers) (board_paths path ++ paths) old new
  gives_up_once (before only) = before (reports_on_board only)
  gives_up_once (unanswered others rest are lacks is) =
      unanswered (given.files ++ others) rest
      (ap (λ (ps : List (List ℕ)). board_paths path ++ ps) are
      ∙ sym (paths_behind path given.files board given.is_board others rest))
      (unanswered_on_board others lacks) (is ∙ ap and_blamed (same_journal others))
  gives_up_once (within others answer are answers up) =
      within (given.files ++ others) answer (same_paths others are) (on_board others answer answers)
      (subst (λ (j : Journal). GaveUp answer j new) (same_journal others) up)

  -- what a command gives, or gives up, behind a board that was read
  pub gives_on_board : {E : Type 0} (r : Result ℕ E) → IfOk r (Gives (Answers board) paths between new)
      → IfErr r (λ _. GivesUp (Answers board) paths between new)
      → IfOk r (Gives (WithBoard path Answers) (board_paths path ++ paths) old new)
      × IfErr r (λ _. GivesUp (WithBoard path Answers) (board_paths path ++ paths) old new)
  gives_on_board r gave up = (
    IfOk-weaker r _ _ gives_status gave,
    IfErr-weaker r _ _ (λ _. gives_up_once) up,
  )

-- a fault as a board is read
pub stops_at_board : (path : Option (Bor (List ℕ))) (paths : List (List ℕ)) (old new : Journal) → OnlyReports (board_paths path) old new
    → OnlyReports (board_paths path ++ paths) old new
stops_at_board path paths old new (unread is) = unread is
stops_at_board path paths old new (read files rest are is) =
    read files (rest ++ paths)
    (ap (λ (ps : List (List ℕ)). ps ++ paths) are ∙ append_assoc (paths_of files) rest paths) is

-- a fault as a board is read, without which there is no answer
pub gives_up_board : (path : Option (Bor (List ℕ))) (Answers : Option (List Line) → List FileValue → AnswerValue → Type 0)
    (paths : List (List ℕ)) (old new : Journal) → OnlyBlames HaveNoBoard (board_paths path) old new
    → GivesUp (WithBoard path Answers) (board_paths path ++ paths) old new
gives_up_board path Answers paths old new (other only) = before (stops_at_board path paths old new only)
gives_up_board path Answers paths old new (wrong files rest are lacks is) =
    unanswered files (rest ++ paths)
    (ap (λ (ps : List (List ℕ)). ps ++ paths) are ∙ append_assoc (paths_of files) rest paths)
    (λ others answer named answers. no_board path answers.board_files answers.board answers.is_board files others answers.others rest are answers.files_are lacks)
    is
