-- The file of a board that is read, or that isn't given.
use Rattle.std.proofs.Common.{◌≡◌, ℕ, List, [], ◌∷◌, Option, Some, None, Bor, refl, ◌∙◌, ap, subst}
use Rattle.board80.specs.Board.{Spells}
use Rattle.board80.specs.declared.line.Line.{Line}
use Rattle.plm80_console.specs.Journal.{Blames, FileValue, Journal, OnlyBlames, and_read, file_value}
use Rattle.plm80_console.specs.AnswerLaws.{blamed_after}
use Rattle.plm80_boards.specs.Boards.{HaveNoBoard, IsBoardOf, IsBoardRead, board_paths}
use Rattle.plm80_boards.specs.Boards.IsBoardOf.{none, one}

no_other : (other : Option (List Line)) → IsBoardOf None [] other → other ≡ None
no_other _ none = refl

pub not_given : (given : Option (Bor (List ℕ))) (journal : Journal) → given ≡ None → IsBoardRead given journal journal None
not_given given journal is = rw is (record { files = []; is_board = none; alone = no_other; journal = refl })

-- the board of a file is that which its bytes spell
one_other : (path : Bor (List ℕ)) (file : FileValue) (board : List Line) → ((b : List Line) → Spells file.bytes b → b ≡ board)
    → (other : Option (List Line)) → IsBoardOf (Some path) (file ∷ []) other → other ≡ Some board
one_other _ _ board alone _ (one path file other is spelled) = ap Some (alone other spelled)

pub given_and_read : (given : Option (Bor (List ℕ))) (path : Bor (List ℕ)) (text seen : List ℕ) (board : List Line)
    (old between new : Journal) → given ≡ Some path → seen ≡ text → Spells seen board → ((b : List Line) → Spells seen b → b ≡ board)
    → between ≡ and_read old path.now text → new ≡ between → IsBoardRead given old new (Some board)
given_and_read given path text seen board old between new is same spelled alone was unchanged =
    rw is (record {
      files = file_value path.now text ∷ [];
      is_board = one path (file_value path.now text) board refl (subst (λ (t : List ℕ). Spells t board) same spelled);
      alone = one_other path (file_value path.now text) board
          (subst (λ (t : List ℕ). (b : List Line) → Spells t b → b ≡ board) same alone);
      journal = unchanged ∙ was;
    })

pub read_and_blamed : (given : Option (Bor (List ℕ))) (path : Bor (List ℕ)) (text seen : List ℕ) (old between new : Journal) → given ≡ Some path
    → seen ≡ text → between ≡ and_read old path.now text → Blames ((board : List Line) → Spells seen board → ⊥) between new
    → OnlyBlames HaveNoBoard (board_paths given) old new
read_and_blamed given path text seen old between new is same was blames =
    rw is (blamed_after old between new (file_value path.now text ∷ []) (path.now ∷ []) refl was HaveNoBoard
    (λ lacks. subst (λ (t : List ℕ). (board : List Line) → Spells t board → ⊥) same lacks) blames)
