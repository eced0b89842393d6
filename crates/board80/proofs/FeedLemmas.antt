-- No line of a board has a line feed, and the lines of a text.
use Rattle.std.proofs.Common.{◌≡◌, ℕ, ◌/◌, ◌%◌, false, List, [], ◌∷◌, ◌++◌, map, append_assoc, refl, ap, ◌∙◌, arith}
use Rattle.std.specs.Prelude.{All, Option, Some, None, codes, slice_index}
use Rattle.std.specs.List.{AllByRecursion}
use Rattle.std.proofs.lemmas.List.Elements.{All-nil, All-cons, All-head, All-tail, All-append, All-from_recursion}
use Rattle.std.proofs.lemmas.List.Splits.{slice_split_at}
use Rattle.text80.specs.Digits.{byte_text, word_text}
use Rattle.image80.specs.Lines.{is_line_feed, parts, text_of}
use Rattle.board80.specs.declared.answers.Answers.{Answers}
use Rattle.board80.specs.declared.answers.Answers.TheVariants.{Listed, By}
use Rattle.board80.specs.declared.byte_list.Bytes.{Bytes}
use Rattle.board80.specs.declared.byte_list.Bytes.TheVariants.{One, Group}
use Rattle.board80.specs.declared.byte_list.Item.{Item}
use Rattle.board80.specs.declared.line.Kind.{Kind}
use Rattle.board80.specs.declared.line.Kind.TheVariants.{Rom, Ram, Device}
use Rattle.board80.specs.declared.line.Line.{Line}
use Rattle.board80.specs.declared.line.Line.TheVariants.{Memory, Interrupt, Reads}
use Rattle.board80.specs.declared.place.Place.{Place}
use Rattle.board80.specs.declared.place.Place.TheVariants.{Port, Cell}
use Rattle.board80.specs.declared.table.Row.{Row}
use Rattle.board80.specs.Board.{AreAnswers, IsItem, IsProper}
use Rattle.board80.specs.BoardText.{answers_text, bytes_text, for_ever_text, group_text, heading, item_text, items_text, kind_text, line_text}
use Rattle.board80.specs.BoardText.{other_text, place_text, range_text, row_text, rows_text, source_text, spaced_text, table_text, times_text}
use Rattle.board80.proofs.DigitLemmas.{digit_not}
use Rattle.board80.proofs.WordLemmas.{times_lack}

-- no line feed among the bytes
abbrev pub IsLine : List ℕ → Type 0
IsLine line = All (λ byte. is_line_feed byte ≡ false) line

nil : IsLine []
nil = All-nil (λ byte. is_line_feed byte ≡ false)

cons : (byte : ℕ) (bytes : List ℕ) → is_line_feed byte ≡ false → IsLine bytes → IsLine (byte ∷ bytes)
cons byte bytes here later = All-cons (λ b. is_line_feed b ≡ false) byte bytes here later

join : (xs ys : List ℕ) → IsLine xs → IsLine ys → IsLine (xs ++ ys)
join xs ys front back = All-append (λ b. is_line_feed b ≡ false) xs ys front back

written : (bytes : List ℕ) → AllByRecursion (λ b. is_line_feed b ≡ false) bytes → IsLine bytes
written bytes each = All-from_recursion (λ b. is_line_feed b ≡ false) bytes each

digit : (n : ℕ) → is_line_feed (slice_index (codes "0123456789ABCDEF") n) ≡ false
digit n = digit_not is_line_feed n refl refl

byte : (b : ℕ) → IsLine (byte_text b)
byte b =
    cons (slice_index (codes "0123456789ABCDEF") (b / 16)) (slice_index (codes "0123456789ABCDEF") (b % 16) ∷ []) (digit (b / 16))
    (cons (slice_index (codes "0123456789ABCDEF") (b % 16)) [] (digit (b % 16)) nil)

word : (w : ℕ) → IsLine (word_text w)
word w = join (byte_text (w / 256)) (byte_text (w % 256)) (byte (w / 256)) (byte (w % 256))

spaced : (bytes : List ℕ) → IsLine (spaced_text bytes)
spaced [] = nil
spaced (b ∷ bs) = cons 32 (byte_text b ++ spaced_text bs) refl (join (byte_text b) (spaced_text bs) (byte b) (spaced bs))

item_bytes : (b : Bytes) → IsLine (bytes_text b)
item_bytes (One v) = byte v
item_bytes (Group g) = cons 40 (group_text g) refl (join (byte_text g.first) (spaced_text g.others ++ 41 ∷ []) (byte g.first) (join (spaced_text g.others) (41 ∷ []) (spaced g.others) (cons 41 [] refl nil)))

item : (i : Item) → IsItem i → IsLine (item_text i)
item i i_in = join (bytes_text i.bytes) (times_text i.times) (item_bytes i.bytes) (times_lack 10 i.times (omega arith) i_in.fits)

items : (is : List Item) → All IsItem is → IsLine (items_text is)
items [] is_in = nil
items (i ∷ is) is_in = cons 32 (item_text i ++ items_text is) refl (join (item_text i) (items_text is) (item i (All-head IsItem i is is_in)) (items is (All-tail IsItem i is is_in)))

for_ever : (b : Option Bytes) → IsLine (for_ever_text b)
for_ever None = nil
for_ever (Some b) = cons 32 (bytes_text b ++ 42 ∷ []) refl (join (bytes_text b) (42 ∷ []) (item_bytes b) (cons 42 [] refl nil))

source : (p : Place) → IsLine (source_text p)
source (Port v) = byte v
source (Cell v) = word v

rows : (rs : List Row) → IsLine (rows_text rs)
rows [] = nil
rows (r ∷ rs) = cons 32 (row_text r ++ rows_text rs) refl (join (byte_text r.byte ++ 61 ∷ byte_text r.answer) (rows_text rs) (join (byte_text r.byte) (61 ∷ byte_text r.answer) (byte r.byte) (cons 61 (byte_text r.answer) refl (byte r.answer))) (rows rs))

other : (b : ℕ) → IsLine (other_text b)
other b = join (codes " *=") (byte_text b) (written (codes " *=") (refl, (refl, (refl, tt)))) (byte b)

answers : (a : Answers) → AreAnswers a → IsLine (answers_text a)
answers (Listed l) a_in = join (items_text l.items) (for_ever_text l.for_ever) (items l.items a_in.items) (for_ever l.for_ever)
answers (By t) a_in =
    join (codes " BY ") (table_text t) (written (codes " BY ") (refl, (refl, (refl, (refl, tt)))))
    (join (source_text t.source) (rows_text t.rows ++ other_text t.other) (source t.source) (join (rows_text t.rows) (other_text t.other) (rows t.rows) (other t.other)))

kind : (k : Kind) → IsLine (kind_text k)
kind Rom = written (codes "ROM ") (refl, (refl, (refl, (refl, tt))))
kind Ram = written (codes "RAM ") (refl, (refl, (refl, (refl, tt))))
kind Device = written (codes "DEVICE ") (refl, (refl, (refl, (refl, (refl, (refl, (refl, tt)))))))

place : (p : Place) → IsLine (place_text p)
place (Port v) = join (codes "PORT ") (byte_text v) (written (codes "PORT ") (refl, (refl, (refl, (refl, (refl, tt)))))) (byte v)
place (Cell v) = join (codes "AT ") (word_text v) (written (codes "AT ") (refl, (refl, (refl, tt)))) (word v)

-- a proper line has no line feed
pub line : (l : Line) → IsProper l → IsLine (line_text l)
line (Memory k r) l_in = join (kind_text k) (range_text r) (kind k) (join (word_text r.first) (32 ∷ word_text r.length) (word r.first) (cons 32 (word_text r.length) refl (word r.length)))
line (Interrupt a) l_in = join (codes "INTERRUPT ") (word_text a) (written (codes "INTERRUPT ") (refl, (refl, (refl, (refl, (refl, (refl, (refl, (refl, (refl, (refl, tt))))))))))) (word a)
line (Reads p a) l_in = join (place_text p) (answers_text a) (place p) (answers a l_in.1)

pub first : IsLine heading
first = written heading (refl, (refl, (refl, (refl, (refl, (refl, (refl, tt)))))))

pub lines : (ls : List Line) → All IsProper ls → All IsLine (map line_text ls)
lines [] all = All-nil IsLine
lines (l ∷ ls) all = All-cons IsLine (line_text l) (map line_text ls) (line l (All-head IsProper l ls all)) (lines ls (All-tail IsProper l ls all))

-- lines without line feeds are the parts of their text
pub parts-text_of : (ls : List (List ℕ)) → All IsLine ls → parts (text_of ls) ≡ ls ++ [] ∷ []
parts-text_of [] all = refl
parts-text_of (l ∷ ls) all =
    ap parts (append_assoc l (10 ∷ []) (text_of ls))
    ∙ slice_split_at is_line_feed l 10 (text_of ls) (All-head IsLine l ls all) refl
    ∙ ap (λ rest. l ∷ rest) (parts-text_of ls (All-tail IsLine l ls all))
