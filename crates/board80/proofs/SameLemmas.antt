-- Answers and lines with the same text are the same.
use Rattle.std.proofs.Common.{◌≡◌, ℕ, ◌%◌, List, [], ◌∷◌, ◌++◌, get_or, drop, append_assoc, refl, ap, sym, ◌∙◌, arith}
use Rattle.std.specs.Prelude.{Option, Some, None, IfSome, codes}
use Rattle.text80.specs.Digits.{word_text}
use Rattle.image80.specs.declared.range.Range.{Range}
use Rattle.image80.specs.Range.{IsInMemory}
use Rattle.board80.specs.declared.answers.Answers.{Answers}
use Rattle.board80.specs.declared.answers.Answers.TheVariants.{Listed, By}
use Rattle.board80.specs.declared.byte_list.Bytes.{Bytes}
use Rattle.board80.specs.declared.byte_list.Bytes.TheVariants.{One, Group}
use Rattle.board80.specs.declared.byte_list.Item.{Item}
use Rattle.board80.specs.declared.line.Kind.TheVariants.{Rom, Ram, Device}
use Rattle.board80.specs.declared.line.Line.{Line}
use Rattle.board80.specs.declared.line.Line.TheVariants.{Memory, Interrupt, Reads}
use Rattle.board80.specs.declared.place.Place.{Place}
use Rattle.board80.specs.declared.place.Place.TheVariants.{Port, Cell}
use Rattle.board80.specs.declared.table.Row.{Row}
use Rattle.board80.specs.Board.{AreAnswers, AreItemBytes, IsList, IsProper, IsTable}
use Rattle.board80.specs.BoardText.{answers_text, bytes_text, for_ever_text, items_text, line_text, list_text}
use Rattle.board80.specs.BoardText.{other_text, range_text, rows_text, table_text, times_text}
use Rattle.board80.specs.ByteList.{ListedBytes}
use Rattle.board80.specs.Table.{TableRows}
use Rattle.board80.proofs.DigitLemmas.{address_first, byte_first, no_digit}
use Rattle.board80.proofs.ListLemmas.{NoItem, bytes_first, items_most, item_not_for_ever, items_open, for_ever_at_end}
use Rattle.board80.proofs.TableLemmas.{no_row_at_other, other_same, rows_at_end, rows_most, source_first}

-- what comes for ever is no item
no_item_for_ever : (bytes : Option Bytes) → IfSome bytes AreItemBytes → NoItem (for_ever_text bytes)
no_item_for_ever bytes b_in item more item_in at_end same = item_not_for_ever item bytes more item_in b_in at_end (sym same)

for_ever_same : (b c : Option Bytes) → IfSome b AreItemBytes → IfSome c AreItemBytes → for_ever_text b ≡ for_ever_text c → b ≡ c
for_ever_same None None b_in c_in same = refl
for_ever_same None (Some c) b_in c_in same = cc
for_ever_same (Some b) None b_in c_in same = cc
for_ever_same (Some b) (Some c) b_in c_in same = ap Some (bytes_first b c (42 ∷ []) (42 ∷ []) b_in c_in (ap (λ t. drop 1 t) same)).0

list_same : (l m : ListedBytes) → IsList l → IsList m → list_text l ≡ list_text m → l ≡ m
list_same l m l_in m_in same =
    let both = items_most l.items m.items (for_ever_text l.for_ever) m.for_ever l_in.items m_in.items m_in.for_ever (no_item_for_ever l.for_ever l_in.for_ever) (for_ever_at_end l.for_ever) same in
    let make : List Item → Option Bytes → ListedBytes = λ is b. record { items = is; for_ever = b } in
    ap (λ is. make is l.for_ever) both.0 ∙ ap (λ b. make m.items b) (for_ever_same l.for_ever m.for_ever l_in.for_ever m_in.for_ever both.1)

pub table_same : (t u : TableRows) → IsTable t → IsTable u → table_text t ≡ table_text u → t ≡ u
table_same t u t_in u_in same =
    let head = source_first t.source u.source (rows_text t.rows ++ other_text t.other) u.rows u.other t_in.source u_in.source (rows_at_end t.rows t.other) same in
    let tail = rows_most t.rows u.rows (other_text t.other) u.other t_in.rows u_in.rows (no_row_at_other t.other) head.1 in
    let make : Place → List Row → ℕ → TableRows = λ p rs o. record { source = p; rows = rs; other = o } in
    ap (λ p. make p t.rows t.other) head.0 ∙ ap (λ rs. make u.source rs t.other) tail.0 ∙ ap (λ o. make u.source u.rows o) (other_same t.other u.other t_in.other u_in.other tail.1)

-- no list begins as a table
bytes_not_by : (b : Bytes) (xs ys : List ℕ) → bytes_text b ++ xs ≡ 66 ∷ 89 ∷ ys → ⊥
bytes_not_by (One v) xs ys same = no_digit 89 (v % 16) refl refl (ap (λ t. get_or t 1 0) same)
bytes_not_by (Group g) xs ys same = let letter : ◌≡◌ {A = ℕ} 40 66 = ap (λ t. get_or t 0 0) same in absurd (omega arith)

pub list_not_by : (list : ListedBytes) (table : List ℕ) → list_text list ≡ codes " BY " ++ table → ⊥
list_not_by list table same = go list.items list.for_ever same
  where
    go : (items : List Item) (bytes : Option Bytes) → items_text items ++ for_ever_text bytes ≡ codes " BY " ++ table → ⊥
    go [] None is = cc
    go [] (Some b) is = bytes_not_by b (42 ∷ []) (32 ∷ table) (ap (λ t. drop 1 t) is)
    go (i ∷ is) bytes same_text =
        bytes_not_by i.bytes (times_text i.times ++ (items_text is ++ for_ever_text bytes)) (32 ∷ table)
        (sym (append_assoc (bytes_text i.bytes) (times_text i.times) (items_text is ++ for_ever_text bytes))
        ∙ ap (λ t. drop 1 t) (sym (items_open i is (for_ever_text bytes)) ∙ same_text))

answers_same : (a b : Answers) → AreAnswers a → AreAnswers b → answers_text a ≡ answers_text b → a ≡ b
answers_same (Listed l) (Listed m) a_in b_in same = ap Listed (list_same l m a_in b_in same)
answers_same (By t) (By u) a_in b_in same = ap By (table_same t u a_in b_in (ap (λ x. drop 4 x) same))
answers_same (Listed l) (By u) a_in b_in same = absurd (list_not_by l (table_text u) same)
answers_same (By t) (Listed m) a_in b_in same = absurd (list_not_by m (table_text t) (sym same))

range_is : (r s : Range) → r.first ≡ s.first → r.length ≡ s.length → r ≡ s
range_is r s first many =
    let make : ℕ → ℕ → Range = λ f l. record { first = f; length = l } in
    ap (λ f. make f r.length) first ∙ ap (λ l. make s.first l) many

pub range_same : (r s : Range) → IsInMemory r → IsInMemory s → range_text r ≡ range_text s → r ≡ s
range_same r s r_in s_in same =
    let head = address_first r.first s.first (32 ∷ word_text r.length) (32 ∷ word_text s.length) r_in.first s_in.first same in
    let tail = address_first r.length s.length [] [] r_in.length s_in.length (ap (λ t. drop 1 t) head.1) in
    range_is r s head.0 tail.0

-- proper lines with the same text are one
pub line_same : (l m : Line) → IsProper l → IsProper m → line_text l ≡ line_text m → l ≡ m
line_same (Memory Rom r) (Memory Rom s) l_in m_in same = ap (λ range. Memory Rom range) (range_same r s l_in.0 m_in.0 (ap (λ t. drop 4 t) same))
line_same (Memory Rom r) (Memory Ram s) l_in m_in same = let letter : ◌≡◌ {A = ℕ} 79 65 = ap (λ t. get_or t 1 0) same in absurd (omega arith)
line_same (Memory Rom r) (Memory Device s) l_in m_in same = let letter : ◌≡◌ {A = ℕ} 82 68 = ap (λ t. get_or t 0 0) same in absurd (omega arith)
line_same (Memory Rom r) (Interrupt b) l_in m_in same = let letter : ◌≡◌ {A = ℕ} 82 73 = ap (λ t. get_or t 0 0) same in absurd (omega arith)
line_same (Memory Rom r) (Reads (Port w) b) l_in m_in same = let letter : ◌≡◌ {A = ℕ} 82 80 = ap (λ t. get_or t 0 0) same in absurd (omega arith)
line_same (Memory Rom r) (Reads (Cell w) b) l_in m_in same = let letter : ◌≡◌ {A = ℕ} 82 65 = ap (λ t. get_or t 0 0) same in absurd (omega arith)
line_same (Memory Ram r) (Memory Rom s) l_in m_in same = let letter : ◌≡◌ {A = ℕ} 65 79 = ap (λ t. get_or t 1 0) same in absurd (omega arith)
line_same (Memory Ram r) (Memory Ram s) l_in m_in same = ap (λ range. Memory Ram range) (range_same r s l_in.0 m_in.0 (ap (λ t. drop 4 t) same))
line_same (Memory Ram r) (Memory Device s) l_in m_in same = let letter : ◌≡◌ {A = ℕ} 82 68 = ap (λ t. get_or t 0 0) same in absurd (omega arith)
line_same (Memory Ram r) (Interrupt b) l_in m_in same = let letter : ◌≡◌ {A = ℕ} 82 73 = ap (λ t. get_or t 0 0) same in absurd (omega arith)
line_same (Memory Ram r) (Reads (Port w) b) l_in m_in same = let letter : ◌≡◌ {A = ℕ} 82 80 = ap (λ t. get_or t 0 0) same in absurd (omega arith)
line_same (Memory Ram r) (Reads (Cell w) b) l_in m_in same = let letter : ◌≡◌ {A = ℕ} 82 65 = ap (λ t. get_or t 0 0) same in absurd (omega arith)
line_same (Memory Device r) (Memory Rom s) l_in m_in same = let letter : ◌≡◌ {A = ℕ} 68 82 = ap (λ t. get_or t 0 0) same in absurd (omega arith)
line_same (Memory Device r) (Memory Ram s) l_in m_in same = let letter : ◌≡◌ {A = ℕ} 68 82 = ap (λ t. get_or t 0 0) same in absurd (omega arith)
line_same (Memory Device r) (Memory Device s) l_in m_in same = ap (λ range. Memory Device range) (range_same r s l_in.0 m_in.0 (ap (λ t. drop 7 t) same))
line_same (Memory Device r) (Interrupt b) l_in m_in same = let letter : ◌≡◌ {A = ℕ} 68 73 = ap (λ t. get_or t 0 0) same in absurd (omega arith)
line_same (Memory Device r) (Reads (Port w) b) l_in m_in same = let letter : ◌≡◌ {A = ℕ} 68 80 = ap (λ t. get_or t 0 0) same in absurd (omega arith)
line_same (Memory Device r) (Reads (Cell w) b) l_in m_in same = let letter : ◌≡◌ {A = ℕ} 68 65 = ap (λ t. get_or t 0 0) same in absurd (omega arith)
line_same (Interrupt a) (Memory Rom s) l_in m_in same = let letter : ◌≡◌ {A = ℕ} 73 82 = ap (λ t. get_or t 0 0) same in absurd (omega arith)
line_same (Interrupt a) (Memory Ram s) l_in m_in same = let letter : ◌≡◌ {A = ℕ} 73 82 = ap (λ t. get_or t 0 0) same in absurd (omega arith)
line_same (Interrupt a) (Memory Device s) l_in m_in same = let letter : ◌≡◌ {A = ℕ} 73 68 = ap (λ t. get_or t 0 0) same in absurd (omega arith)
line_same (Interrupt a) (Interrupt b) l_in m_in same = ap Interrupt (address_first a b [] [] l_in m_in (ap (λ t. drop 10 t) same)).0
line_same (Interrupt a) (Reads (Port w) b) l_in m_in same = let letter : ◌≡◌ {A = ℕ} 73 80 = ap (λ t. get_or t 0 0) same in absurd (omega arith)
line_same (Interrupt a) (Reads (Cell w) b) l_in m_in same = let letter : ◌≡◌ {A = ℕ} 73 65 = ap (λ t. get_or t 0 0) same in absurd (omega arith)
line_same (Reads (Port v) a) (Memory Rom s) l_in m_in same = let letter : ◌≡◌ {A = ℕ} 80 82 = ap (λ t. get_or t 0 0) same in absurd (omega arith)
line_same (Reads (Port v) a) (Memory Ram s) l_in m_in same = let letter : ◌≡◌ {A = ℕ} 80 82 = ap (λ t. get_or t 0 0) same in absurd (omega arith)
line_same (Reads (Port v) a) (Memory Device s) l_in m_in same = let letter : ◌≡◌ {A = ℕ} 80 68 = ap (λ t. get_or t 0 0) same in absurd (omega arith)
line_same (Reads (Port v) a) (Interrupt b) l_in m_in same = let letter : ◌≡◌ {A = ℕ} 80 73 = ap (λ t. get_or t 0 0) same in absurd (omega arith)
line_same (Reads (Port v) a) (Reads (Port w) b) l_in m_in same =
    let both = byte_first v w (answers_text a) (answers_text b) l_in.0 m_in.0 (ap (λ t. drop 5 t) same) in
    ap (λ n. Reads (Port n) a) both.0 ∙ ap (λ x. Reads (Port w) x) (answers_same a b l_in.1 m_in.1 both.1)
line_same (Reads (Port v) a) (Reads (Cell w) b) l_in m_in same = let letter : ◌≡◌ {A = ℕ} 80 65 = ap (λ t. get_or t 0 0) same in absurd (omega arith)
line_same (Reads (Cell v) a) (Memory Rom s) l_in m_in same = let letter : ◌≡◌ {A = ℕ} 65 82 = ap (λ t. get_or t 0 0) same in absurd (omega arith)
line_same (Reads (Cell v) a) (Memory Ram s) l_in m_in same = let letter : ◌≡◌ {A = ℕ} 65 82 = ap (λ t. get_or t 0 0) same in absurd (omega arith)
line_same (Reads (Cell v) a) (Memory Device s) l_in m_in same = let letter : ◌≡◌ {A = ℕ} 65 68 = ap (λ t. get_or t 0 0) same in absurd (omega arith)
line_same (Reads (Cell v) a) (Interrupt b) l_in m_in same = let letter : ◌≡◌ {A = ℕ} 65 73 = ap (λ t. get_or t 0 0) same in absurd (omega arith)
line_same (Reads (Cell v) a) (Reads (Port w) b) l_in m_in same = let letter : ◌≡◌ {A = ℕ} 65 80 = ap (λ t. get_or t 0 0) same in absurd (omega arith)
line_same (Reads (Cell v) a) (Reads (Cell w) b) l_in m_in same =
    let both = address_first v w (answers_text a) (answers_text b) l_in.0 m_in.0 (ap (λ t. drop 3 t) same) in
    ap (λ n. Reads (Cell n) a) both.0 ∙ ap (λ x. Reads (Cell w) x) (answers_same a b l_in.1 m_in.1 both.1)
