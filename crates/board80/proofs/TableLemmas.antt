-- The texts of tables.
use Rattle.std.proofs.Common.{◌≡◌, ℕ, ◌+◌, ◌/◌, ◌%◌, ◌<◌, ◌≤◌, Bool, true, false, List, [], ◌∷◌, ◌++◌, length, get_or, drop, refl, ap, sym, ◌∙◌, arith}
use Rattle.std.specs.Prelude.{All, ◌↔◌, ◌==◌, IsTrue, codes, nat_lt, slice_index}
use Rattle.std.specs.List.{IsAllAdjacentAnswer}
use Rattle.std.proofs.lemmas.Bool.{ltb-true, ltb-false}
use Rattle.std.proofs.lemmas.List.Elements.{All-nil, All-cons, All-head, All-tail}
use Rattle.text80.specs.Digits.{byte_text}
use Rattle.board80.specs.declared.place.Place.{Place}
use Rattle.board80.specs.declared.place.Place.TheVariants.{Port, Cell}
use Rattle.board80.specs.declared.table.Row.{Row}
use Rattle.board80.specs.Board.{IsAscending, IsPlace, IsRow}
use Rattle.board80.specs.BoardText.{other_text, row_text, rows_text, source_text, table_text}
use Rattle.board80.specs.Reading.{IsAtEnd, IsWord}
use Rattle.board80.specs.Table.{TableRows}
use Rattle.board80.proofs.DigitLemmas.{address_first, byte_first, digit_not, no_digit}
use Rattle.board80.proofs.WordLemmas.{word_first}

row_is : (r s : Row) → r.byte ≡ s.byte → r.answer ≡ s.answer → r ≡ s
row_is r s byte answer =
    let make : ℕ → ℕ → Row = λ b a. record { byte = b; answer = a } in
    ap (λ b. make b r.answer) byte ∙ ap (λ a. make s.byte a) answer

-- a row at the beginning of a text
pub row_first : (r s : Row) (xs ys : List ℕ) → IsRow r → IsRow s → row_text r ++ xs ≡ row_text s ++ ys → (r ≡ s) × (xs ≡ ys)
row_first r s xs ys r_in s_in same =
    let head = byte_first r.byte s.byte (61 ∷ byte_text r.answer ++ xs) (61 ∷ byte_text s.answer ++ ys) r_in.byte s_in.byte same in
    let tail = byte_first r.answer s.answer xs ys r_in.answer s_in.answer (ap (λ t. drop 1 t) head.1) in
    (row_is r s head.0 tail.0, tail.1)

-- no row after a space begins a text
abbrev pub NoRow : List ℕ → Type 0
NoRow rest = (row : Row) (more : List ℕ) → IsRow row → rest ≡ 32 ∷ (row_text row ++ more) → ⊥

-- as many rows as can be read are all of a table
pub rows_most : (rs ss : List Row) (rest : List ℕ) (other : ℕ) → All IsRow rs → All IsRow ss → NoRow rest → rows_text rs ++ rest ≡ rows_text ss ++ other_text other → (rs ≡ ss) × (rest ≡ other_text other)
rows_most [] [] rest other rs_in ss_in none same = (refl, same)
rows_most [] (s ∷ ss) rest other rs_in ss_in none same = absurd (none s (rows_text ss ++ other_text other) (All-head IsRow s ss ss_in) same)
rows_most (r ∷ rs) [] rest other rs_in ss_in none same = absurd (no_digit 42 (r.byte / 16) refl refl (ap (λ t. get_or t 1 0) same))
rows_most (r ∷ rs) (s ∷ ss) rest other rs_in ss_in none same =
    let head = row_first r s (rows_text rs ++ rest) (rows_text ss ++ other_text other) (All-head IsRow r rs rs_in) (All-head IsRow s ss ss_in) (ap (λ t. drop 1 t) same) in
    let tail = rows_most rs ss rest other (All-tail IsRow r rs rs_in) (All-tail IsRow s ss ss_in) none head.1 in
    (ap (λ x. x ∷ rs) head.0 ∙ ap (λ xs. s ∷ xs) tail.0, tail.1)

pub no_row_at_other : (other : ℕ) → NoRow (other_text other)
no_row_at_other other row more row_in same = no_digit 42 (row.byte / 16) refl refl (ap (λ t. get_or t 1 0) (sym same))

-- sources with the same text are the same
pub source_same : (p q : Place) → IsPlace p → IsPlace q → source_text p ≡ source_text q → p ≡ q
source_same (Port v) (Port w) v_in w_in same = ap Port (byte_first v w [] [] v_in w_in same).0
source_same (Cell v) (Cell w) v_in w_in same = ap Cell (address_first v w [] [] v_in w_in same).0
source_same (Port v) (Cell w) v_in w_in same = let many : ◌≡◌ {A = ℕ} 2 4 = ap (λ t. length t) same in absurd (omega arith)
source_same (Cell v) (Port w) v_in w_in same = let many : ◌≡◌ {A = ℕ} 4 2 = ap (λ t. length t) same in absurd (omega arith)

-- a source is a word
digit_word : (n : ℕ) → (slice_index (codes "0123456789ABCDEF") n == 32) ≡ false
digit_word n = digit_not (λ c. c == 32) n refl refl

pub byte_word : (byte : ℕ) (more : List ℕ) → IsWord more → IsWord (byte_text byte ++ more)
byte_word byte more word =
    All-cons (λ b. (b == 32) ≡ false) (slice_index (codes "0123456789ABCDEF") (byte / 16)) (slice_index (codes "0123456789ABCDEF") (byte % 16) ∷ more) (digit_word (byte / 16)) (All-cons (λ b. (b == 32) ≡ false) (slice_index (codes "0123456789ABCDEF") (byte % 16)) more (digit_word (byte % 16)) word)

pub source_word : (p : Place) → IsWord (source_text p)
source_word (Port v) = byte_word v [] (All-nil (λ b. (b == 32) ≡ false))
source_word (Cell v) = byte_word (v / 256) (byte_text (v % 256)) (byte_word (v % 256) [] (All-nil (λ b. (b == 32) ≡ false)))

pub rows_at_end : (rows : List Row) (other : ℕ) → IsAtEnd (rows_text rows ++ other_text other)
rows_at_end [] other = refl
rows_at_end (r ∷ rs) other = refl

-- the source of a table's text, and the rows after it
pub source_first : (p q : Place) (rest : List ℕ) (rows : List Row) (other : ℕ) → IsPlace p → IsPlace q → IsAtEnd rest →
    source_text p ++ rest ≡ source_text q ++ (rows_text rows ++ other_text other) → (p ≡ q) × (rest ≡ rows_text rows ++ other_text other)
source_first p q rest rows other p_in q_in at_end same =
    let cut = word_first (source_text p) (source_text q) rest (rows_text rows ++ other_text other) (source_word p) (source_word q) at_end (rows_at_end rows other) same in
    (source_same p q p_in q_in cut.0, cut.1)

-- the first word of a table's text is that of its source
pub word_of_table : (word rest : List ℕ) (table : TableRows) → IsWord word → IsAtEnd rest → word ++ rest ≡ table_text table →
    (word ≡ source_text table.source) × (rest ≡ rows_text table.rows ++ other_text table.other)
word_of_table word rest table is_word at_end same =
    word_first word (source_text table.source) rest (rows_text table.rows ++ other_text table.other) is_word (source_word table.source) at_end (rows_at_end table.rows table.other) same

pub other_same : (a b : ℕ) → a < 256 → b < 256 → other_text a ≡ other_text b → a ≡ b
other_same a b a_in b_in same = (byte_first a b [] [] a_in b_in (ap (λ t. drop 3 t) same)).0

-- rows by their bytes
pub ascending_is : (rows : List Row) (r : Bool) → IsAllAdjacentAnswer (λ a b t. t ≡ nat_lt a.byte b.byte) rows r → IsTrue r ↔ IsAscending rows
ascending_is rows true is = (λ _. λ k d inside. ltb-true (get_or rows k d).byte (get_or rows (k + 1) d).byte (sym (is k d inside)), λ _. refl)
ascending_is rows false is = (
  λ never. cc,
  λ ascends.
      let d : Row = record { byte = 0; answer = 0 } in
      let below : (get_or rows is.0 d).byte < (get_or rows (is.0 + 1) d).byte = ascends is.0 d is.1 in
      let above : (get_or rows (is.0 + 1) d).byte ≤ (get_or rows is.0 d).byte = ltb-false (get_or rows is.0 d).byte (get_or rows (is.0 + 1) d).byte (sym (is.2 d)) in
      absurd (omega arith),
)
