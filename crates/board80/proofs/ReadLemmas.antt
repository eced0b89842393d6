-- What the parts of a text that were read say of the whole.
use Rattle.std.proofs.Common.{◌≡◌, ◌≢◌, ℕ, ◌<◌, ◌≤◌, ◌^◌, true, false, cond, List, [], ◌∷◌, ◌++◌}
use Rattle.std.proofs.Common.{length, get_or, drop, append_assoc, append-nil, refl, ap, sym, subst, ◌∙◌, arith}
use Rattle.std.specs.Prelude.{◌==◌, All, codes, Option, Some, None, IfNone, IfOk, IfSome, Result, Ok, Err}
use Rattle.std.specs.Fmt.{decimal}
use Rattle.std.specs.List.{flat_map}
use Rattle.std.specs.Str.{IsUtf8}
use Rattle.std.specs.Str.Parse.{IsNumeral, digits_value, without_leading_plus}
use Rattle.std.proofs.lemmas.Bool.{eqb-true, ne_eqb}
use Rattle.std.proofs.lemmas.Fmt.{IsAscii-from_digits, decimal_is_IsNumeral, parse-decimal}
use Rattle.std.proofs.lemmas.List.Concat.{flat_map-append}
use Rattle.std.proofs.lemmas.Str.{IsUtf8-from_ascii}
use Rattle.text80.specs.Digits.{byte_text, word_text}
use Rattle.image80.specs.declared.range.Range.{Range}
use Rattle.image80.specs.Range.{IsInMemory}
use Rattle.board80.specs.declared.answers.Answers.{Answers}
use Rattle.board80.specs.declared.answers.Answers.TheVariants.{Listed, By}
use Rattle.board80.specs.declared.byte_list.Bytes.{Bytes}
use Rattle.board80.specs.declared.byte_list.Item.{Item}
use Rattle.board80.specs.declared.place.Place.{Place}
use Rattle.board80.specs.declared.place.Place.TheVariants.{Port, Cell}
use Rattle.board80.specs.declared.table.Row.{Row}
use Rattle.board80.specs.Board.{AreAnswers, AreBytes, AreItemBytes, IsAscending, IsGroup, IsItem, IsList, IsPlace, IsRow, IsTable}
use Rattle.board80.specs.BoardText.{answers_text, bytes_text, for_ever_text, group_text, item_text, items_text, list_text}
use Rattle.board80.specs.BoardText.{other_text, range_text, row_text, rows_text, source_text, spaced_text, table_text, times_text}
use Rattle.board80.specs.ByteList.{ListedBytes}
use Rattle.board80.specs.Group.{GroupBytes}
use Rattle.board80.specs.Reading.{IsAtEnd, IsWord}
use Rattle.board80.specs.Table.{TableRows}
use Rattle.board80.proofs.DigitLemmas.{address_first, byte_first}
use Rattle.board80.proofs.ListLemmas.{NoByte, NoItem, bytes_first, group_open, items_most, spaced_most}
use Rattle.board80.proofs.SameLemmas.{list_not_by}
use Rattle.board80.proofs.TableLemmas.{NoRow, rows_most, word_of_table}
use Rattle.board80.proofs.WordLemmas.{times_lack, word_first}

-- one more part of a text was read
pub one_more : {X : Type 0} (f : X → List ℕ) (xs : List X) (x : X) (text rest after : List ℕ) → text ≡ flat_map f xs ++ rest → rest ≡ f x ++ after → text ≡ flat_map f (xs ++ x ∷ []) ++ after
one_more f xs x text rest after is next =
    is ∙ ap (λ t. flat_map f xs ++ t) next ∙ sym (append_assoc (flat_map f xs) (f x) after)
    ∙ ap (λ t. t ++ after) (sym (flat_map-append f xs (x ∷ []) ∙ ap (λ t. flat_map f xs ++ t) (append-nil (f x))))

-- items
pub item_read : (text inner after word rest : List ℕ) (b : Bytes) (t : ℕ) → text ≡ 32 ∷ inner → inner ≡ bytes_text b ++ after → after ≡ word ++ rest → word ≡ times_text t →
    text ≡ 32 ∷ (item_text (record { bytes = b; times = t }) ++ rest)
item_read text inner after word rest b t cut bytes join times =
    cut ∙ ap (λ x. 32 ∷ x) (bytes ∙ ap (λ x. bytes_text b ++ x) (join ∙ ap (λ x. x ++ rest) times) ∙ sym (append_assoc (bytes_text b) (times_text t) rest))

pub no_item_bytes : (text inner : List ℕ) → text ≡ 32 ∷ inner → ((b : Bytes) (more : List ℕ) → AreItemBytes b → inner ≢ bytes_text b ++ more) → NoItem text
no_item_bytes text inner cut none item more item_in at_end same =
    none item.bytes (times_text item.times ++ more) item_in.bytes (ap (λ x. drop 1 x) (sym cut ∙ same) ∙ append_assoc (bytes_text item.bytes) (times_text item.times) more)

pub no_item_times : (text inner after word rest : List ℕ) (b : Bytes) → text ≡ 32 ∷ inner → inner ≡ bytes_text b ++ after → AreItemBytes b → after ≡ word ++ rest → IsWord word → IsAtEnd rest →
    ((t : ℕ) → 0 < t → t < 2 ^ 64 → word ≢ times_text t) → NoItem text
no_item_times text inner after word rest b cut bytes b_in join is_word rest_end none item more item_in more_end same =
    let opened = sym bytes ∙ ap (λ x. drop 1 x) (sym cut ∙ same) ∙ append_assoc (bytes_text item.bytes) (times_text item.times) more in
    let tail = (bytes_first b item.bytes after (times_text item.times ++ more) b_in item_in.bytes opened).1 in
    let words = word_first word (times_text item.times) rest more is_word (times_lack 32 item.times (omega arith) item_in.fits) rest_end more_end (sym join ∙ tail) in
    none item.times item_in.some item_in.fits words.0

pub no_item : (text : List ℕ) → ((inner : List ℕ) → text ≢ 32 ∷ inner) → NoItem text
no_item text none item more item_in at_end same = none (item_text item ++ more) same

-- what comes for ever
pub for_ever_read : (text inner after : List ℕ) (b : Bytes) → text ≡ 32 ∷ inner → inner ≡ bytes_text b ++ after → after ≡ 42 ∷ [] → text ≡ 32 ∷ (bytes_text b ++ 42 ∷ [])
for_ever_read text inner after b cut bytes star = cut ∙ ap (λ x. 32 ∷ x) (bytes ∙ ap (λ x. bytes_text b ++ x) star)

abbrev pub NoForEver : List ℕ → Type 0
NoForEver text = (b : Bytes) → AreItemBytes b → text ≢ 32 ∷ (bytes_text b ++ 42 ∷ [])

pub no_for_ever_bytes : (text inner : List ℕ) → text ≡ 32 ∷ inner → ((b : Bytes) (more : List ℕ) → AreItemBytes b → inner ≢ bytes_text b ++ more) → NoForEver text
no_for_ever_bytes text inner cut none b b_in same = none b (42 ∷ []) b_in (ap (λ x. drop 1 x) (sym cut ∙ same))

pub no_for_ever_star : (text inner after : List ℕ) (b : Bytes) → text ≡ 32 ∷ inner → inner ≡ bytes_text b ++ after → AreItemBytes b → after ≢ 42 ∷ [] → NoForEver text
no_for_ever_star text inner after b cut bytes b_in none c c_in same =
    none (bytes_first b c after (42 ∷ []) b_in c_in (sym bytes ∙ ap (λ x. drop 1 x) (sym cut ∙ same))).1

-- lists
pub list_read : (text rest : List ℕ) (is : List Item) (bytes : Option Bytes) → text ≡ items_text is ++ rest → rest ≡ for_ever_text bytes → text ≡ list_text (record { items = is; for_ever = bytes })
list_read text rest is bytes items for_ever = items ∙ ap (λ t. items_text is ++ t) for_ever

pub list_is : (text rest : List ℕ) (is : List Item) (bytes : Option Bytes) → text ≡ items_text is ++ rest → rest ≡ for_ever_text bytes → text ≢ [] → All IsItem is → IfSome bytes AreItemBytes →
    IsList (record { items = is; for_ever = bytes })
list_is text rest is bytes items for_ever some is_in b_in =
    record { items = is_in; for_ever = b_in; some = λ empty. some (list_read text rest is bytes items for_ever ∙ empty) }

-- a list begins with a space
list_begins : (items : List Item) (bytes : Option Bytes) (text : List ℕ) → ¬ (items_text items ++ for_ever_text bytes ≡ []) → text ≡ items_text items ++ for_ever_text bytes → get_or text 0 0 ≡ 32
list_begins [] None text some same = absurd (some refl)
list_begins [] (Some b) text some same = ap (λ t. get_or t 0 0) same
list_begins (i ∷ is) bytes text some same = ap (λ t. get_or t 0 0) same

pub no_list_start : (text : List ℕ) → get_or text 0 0 ≢ 32 → (list : ListedBytes) → IsList list → text ≢ list_text list
no_list_start text other list list_in same = other (list_begins list.items list.for_ever text list_in.some same)

pub no_list_tail : (text rest : List ℕ) (is : List Item) → text ≡ items_text is ++ rest → All IsItem is → NoItem rest → IsAtEnd rest → rest ≢ [] → NoForEver rest →
    (list : ListedBytes) → IsList list → text ≢ list_text list
no_list_tail text rest is items is_in none at_end some no_more list list_in same =
    go list.for_ever list_in.for_ever (items_most is list.items rest list.for_ever is_in list_in.items list_in.for_ever none at_end (sym items ∙ same)).1
  where
    go : (bytes : Option Bytes) → IfSome bytes AreItemBytes → rest ≡ for_ever_text bytes → ⊥
    go None b_in is = some is
    go (Some b) b_in is = no_more b b_in is

-- groups
pub group_read : (text after behind rest : List ℕ) (f : ℕ) (os : List ℕ) → text ≡ byte_text f ++ after → after ≡ spaced_text os ++ behind → behind ≡ 41 ∷ rest →
    text ≡ group_text (record { first = f; others = os }) ++ rest
group_read text after behind rest f os first others bracket =
    first ∙ ap (λ t. byte_text f ++ t) (others ∙ ap (λ t. spaced_text os ++ t) bracket) ∙ sym (group_open (record { first = f; others = os }) rest)

abbrev pub NoGroup : List ℕ → Type 0
NoGroup text = (g : GroupBytes) (more : List ℕ) → IsGroup g → text ≢ group_text g ++ more

pub no_group_first : (text : List ℕ) → ((byte : ℕ) (rest : List ℕ) → byte < 256 → text ≢ byte_text byte ++ rest) → NoGroup text
no_group_first text none g more g_in same = none g.first (spaced_text g.others ++ 41 ∷ more) g_in.first (same ∙ group_open g more)

pub no_group_bracket : (text after behind : List ℕ) (f : ℕ) (os : List ℕ) → text ≡ byte_text f ++ after → f < 256 → after ≡ spaced_text os ++ behind → AreBytes os → NoByte behind →
    ((rest : List ℕ) → behind ≢ 41 ∷ rest) → NoGroup text
no_group_bracket text after behind f os first f_in others os_in none no_bracket g more g_in same =
    let head = byte_first f g.first after (spaced_text g.others ++ 41 ∷ more) f_in g_in.first (sym first ∙ same ∙ group_open g more) in
    no_bracket more (spaced_most os g.others behind more os_in g_in.others none (sym others ∙ head.1)).1

-- how many times
data TimesCase (text : List ℕ) (t : ℕ) : Type 0 where
  once : t ≡ 1 → text ≡ [] → TimesCase text t
  often : t ≢ 1 → text ≡ 42 ∷ decimal t → TimesCase text t

times_case : (text : List ℕ) (t : ℕ) → text ≡ times_text t → TimesCase text t
times_case text t same =
    (elim (t == 1) as (λ b. (t == 1) ≡ b → text ≡ cond b [] (42 ∷ decimal t) → TimesCase text t)
    [ true ↦ λ yes is. once (eqb-true t 1 yes) is | false ↦ λ no is. often (λ one. let yes : (t == 1) ≡ true = ap (λ n. n == 1) one in let both : true ≡ false = sym yes ∙ no in cc) is ]) refl same

abbrev pub NoTimes : List ℕ → Type 0
NoTimes text = (t : ℕ) → 0 < t → t < 2 ^ 64 → text ≢ times_text t

pub no_times_star : (text : List ℕ) → text ≢ [] → ((rest : List ℕ) → text ≢ 42 ∷ rest) → NoTimes text
no_times_star text some none t positive fits same = go (times_case text t same)
  where
    go : TimesCase text t → ⊥
    go (once is empty) = some empty
    go (often not is) = none (decimal t) is

pub no_times_count : (text digits : List ℕ) → text ≡ 42 ∷ digits → ((n : ℕ) → n < 2 ^ 64 → digits ≢ decimal n) → NoTimes text
no_times_count text digits cut none t positive fits same = go (times_case text t same)
  where
    go : TimesCase text t → ⊥
    go (once is empty) = let nothing : 42 ∷ digits ≡ [] = sym cut ∙ empty in cc
    go (often not is) = none t fits (ap (λ x. drop 1 x) (sym cut ∙ is))

decimal_same : (m n : ℕ) → m < 2 ^ 64 → n < 2 ^ 64 → decimal m ≡ decimal n → m ≡ n
decimal_same m n m_fits n_fits same =
    sym (decimal_is_IsNumeral m m_fits).1 ∙ ap (λ ds. digits_value 10 ds) same ∙ (decimal_is_IsNumeral n n_fits).1

pub no_times_small : (text digits : List ℕ) (n : ℕ) → text ≡ 42 ∷ digits → digits ≡ decimal n → n < 2 ^ 64 → n < 2 → NoTimes text
no_times_small text digits n cut is n_fits small t positive fits same = go (times_case text t same)
  where
    go : TimesCase text t → ⊥
    go (once one empty) = let nothing : 42 ∷ digits ≡ [] = sym cut ∙ empty in cc
    go (often not written) =
        let number : n ≡ t = decimal_same n t n_fits fits (sym is ∙ ap (λ x. drop 1 x) (sym cut ∙ written)) in
        not (omega arith)

pub times_read : (text digits : List ℕ) (n : ℕ) → text ≡ 42 ∷ digits → digits ≡ decimal n → 2 ≤ n → text ≡ times_text n
times_read text digits n cut is many =
    cut ∙ ap (λ ds. 42 ∷ ds) is ∙ sym (ap (λ b. cond b [] (42 ∷ decimal n)) (ne_eqb n 1 (λ one. omega arith)))

-- counts
pub decimal_utf8 : (n : ℕ) (digits : List ℕ) → n < 2 ^ 64 → digits ≡ decimal n → IsUtf8 digits
decimal_utf8 n digits fits is =
    subst IsUtf8 (sym is) (IsUtf8-from_ascii (decimal n) (IsAscii-from_digits (decimal n) (decimal_is_IsNumeral n fits).0.1))

-- a numeral that 64 bits hold
abbrev pub IsHeld : List ℕ → Type 0
IsHeld digits = IsNumeral 10 digits × (digits_value 10 digits < 2 ^ 64)

-- a text that is written for a count is read as it
pub parsed_same : (m n : ℕ) (text : List ℕ) → n < 2 ^ 64 → text ≡ decimal n → IsHeld (without_leading_plus text) × (m ≡ digits_value 10 (without_leading_plus text)) → m ≡ n
parsed_same m n text fits is parsed =
    let r : Result ℕ ℕ = Ok m in
    let both : r ≡ Ok n = parse-decimal 64 n text r fits fits is parsed in cc

pub parsed_never : (n : ℕ) (text : List ℕ) → n < 2 ^ 64 → text ≡ decimal n → (IsHeld (without_leading_plus text) → ⊥) → ⊥
parsed_never n text fits is parsed =
    let r : Result ℕ ℕ = Err 0 in
    let both : r ≡ Ok n = parse-decimal 64 n text r fits fits is parsed in cc

pub none_written : {E : Type 0} (result : Result (Option ℕ) E) (text : List ℕ) (m : ℕ) → IsHeld (without_leading_plus text) × (m ≡ digits_value 10 (without_leading_plus text)) →
    IfOk result (λ read. IfNone read (text ≢ decimal m)) → IfOk result (λ read. IfNone read ((n : ℕ) → n < 2 ^ 64 → text ≢ decimal n))
none_written (Ok (Some found)) text m parsed none = tt
none_written (Ok None) text m parsed none = λ n fits is. none (subst (λ k. text ≡ decimal k) (sym (parsed_same m n text fits is parsed)) is)
none_written (Err e) text m parsed none = tt

-- tables
pub table_read : (text word after rest : List ℕ) (p : Place) (rs : List Row) (o : ℕ) → text ≡ word ++ after → word ≡ source_text p → after ≡ rows_text rs ++ rest → rest ≡ other_text o →
    text ≡ table_text (record { source = p; rows = rs; other = o })
table_read text word after rest p rs o join source rows other = join ∙ ap (λ t. t ++ after) source ∙ ap (λ t. source_text p ++ t) (rows ∙ ap (λ t. rows_text rs ++ t) other)

abbrev pub NoTable : List ℕ → Type 0
NoTable text = (table : TableRows) → IsTable table → text ≢ table_text table

pub no_table_source : (text word after : List ℕ) → text ≡ word ++ after → IsWord word → IsAtEnd after → ((p : Place) → IsPlace p → word ≢ source_text p) → NoTable text
no_table_source text word after join is_word at_end none table table_in same =
    none table.source table_in.source (word_of_table word after table is_word at_end (sym join ∙ same)).0

pub no_table_last : (text word after rest : List ℕ) (rs : List Row) → text ≡ word ++ after → IsWord word → IsAtEnd after → after ≡ rows_text rs ++ rest → All IsRow rs → NoRow rest →
    ((o : ℕ) → o < 256 → rest ≢ other_text o) → NoTable text
no_table_last text word after rest rs join is_word at_end rows rs_in no_row none table table_in same =
    let behind = (word_of_table word after table is_word at_end (sym join ∙ same)).1 in
    none table.other table_in.other (rows_most rs table.rows rest table.other rs_in table_in.rows no_row (sym rows ∙ behind)).1

pub no_table_order : (text word after rest : List ℕ) (rs : List Row) → text ≡ word ++ after → IsWord word → IsAtEnd after → after ≡ rows_text rs ++ rest → All IsRow rs → NoRow rest →
    ¬ (IsAscending rs) → NoTable text
no_table_order text word after rest rs join is_word at_end rows rs_in no_row none table table_in same =
    let behind = (word_of_table word after table is_word at_end (sym join ∙ same)).1 in
    let all : rs ≡ table.rows = (rows_most rs table.rows rest table.other rs_in table_in.rows no_row (sym rows ∙ behind)).0 in
    none (subst IsAscending (sym all) table_in.ascending)

-- rows
pub row_read : (text inner after behind rest : List ℕ) (b a : ℕ) → text ≡ 32 ∷ inner → inner ≡ byte_text b ++ after → after ≡ 61 ∷ behind → behind ≡ byte_text a ++ rest →
    text ≡ 32 ∷ (row_text (record { byte = b; answer = a }) ++ rest)
row_read text inner after behind rest b a cut byte equals answer = cut ∙ ap (λ x. 32 ∷ x) (byte ∙ ap (λ x. byte_text b ++ x) (equals ∙ ap (λ x. 61 ∷ x) answer))

pub no_row_byte : (text inner : List ℕ) → text ≡ 32 ∷ inner → ((b : ℕ) (more : List ℕ) → b < 256 → inner ≢ byte_text b ++ more) → NoRow text
no_row_byte text inner cut none row more row_in same = none row.byte (61 ∷ (byte_text row.answer ++ more)) row_in.byte (ap (λ x. drop 1 x) (sym cut ∙ same))

pub no_row_equals : (text inner after : List ℕ) (b : ℕ) → text ≡ 32 ∷ inner → inner ≡ byte_text b ++ after → b < 256 → ((more : List ℕ) → after ≢ 61 ∷ more) → NoRow text
no_row_equals text inner after b cut byte b_in none row more row_in same =
    none (byte_text row.answer ++ more) (byte_first b row.byte after (61 ∷ (byte_text row.answer ++ more)) b_in row_in.byte (sym byte ∙ ap (λ x. drop 1 x) (sym cut ∙ same))).1

pub no_row_answer : (text inner after behind : List ℕ) (b : ℕ) → text ≡ 32 ∷ inner → inner ≡ byte_text b ++ after → b < 256 → after ≡ 61 ∷ behind →
    ((a : ℕ) (more : List ℕ) → a < 256 → behind ≢ byte_text a ++ more) → NoRow text
no_row_answer text inner after behind b cut byte b_in equals none row more row_in same =
    let tail = (byte_first b row.byte after (61 ∷ (byte_text row.answer ++ more)) b_in row_in.byte (sym byte ∙ ap (λ x. drop 1 x) (sym cut ∙ same))).1 in
    none row.answer more row_in.answer (ap (λ x. drop 1 x) (sym equals ∙ tail))

-- the last row
pub other_read : (text inner rest : List ℕ) (a : ℕ) → text ≡ 32 ∷ 42 ∷ 61 ∷ inner → inner ≡ byte_text a ++ rest → rest ≡ [] → text ≡ other_text a
other_read text inner rest a cut byte empty = cut ∙ ap (λ x. 32 ∷ 42 ∷ 61 ∷ x) (byte ∙ ap (λ x. byte_text a ++ x) empty ∙ append-nil (byte_text a))

pub no_other_end : (text inner rest : List ℕ) (a : ℕ) → text ≡ 32 ∷ 42 ∷ 61 ∷ inner → inner ≡ byte_text a ++ rest → a < 256 → rest ≢ [] → (o : ℕ) → o < 256 → text ≢ other_text o
no_other_end text inner rest a cut byte a_in some o o_in same =
    some (byte_first a o rest [] a_in o_in (sym byte ∙ ap (λ x. drop 3 x) (sym cut ∙ same) ∙ sym (append-nil (byte_text o)))).1

pub no_other_byte : (text inner : List ℕ) → text ≡ 32 ∷ 42 ∷ 61 ∷ inner → ((a : ℕ) (more : List ℕ) → a < 256 → inner ≢ byte_text a ++ more) → (o : ℕ) → o < 256 → text ≢ other_text o
no_other_byte text inner cut none o o_in same = none o [] o_in (ap (λ x. drop 3 x) (sym cut ∙ same) ∙ sym (append-nil (byte_text o)))

-- sources
pub port_read : (text rest : List ℕ) (p : ℕ) → length text ≡ 2 → text ≡ byte_text p ++ rest → text ≡ source_text (Port p)
port_read text rest p two is = is ∙ ap (λ t. byte_text p ++ t) (empty rest (let many = ap (λ t. length t) is in omega arith)) ∙ append-nil (byte_text p)
  where
    empty : (rest : List ℕ) → length rest ≡ 0 → rest ≡ []
    empty [] none = refl
    empty (r ∷ rs) none = absurd (omega arith)

pub cell_read : (text rest : List ℕ) (a : ℕ) → length text ≡ 4 → text ≡ word_text a ++ rest → text ≡ source_text (Cell a)
cell_read text rest a four is = is ∙ ap (λ t. word_text a ++ t) (empty rest (let many = ap (λ t. length t) is in omega arith)) ∙ append-nil (word_text a)
  where
    empty : (rest : List ℕ) → length rest ≡ 0 → rest ≡ []
    empty [] none = refl
    empty (r ∷ rs) none = absurd (omega arith)

abbrev pub NoSource : List ℕ → Type 0
NoSource text = (p : Place) → IsPlace p → text ≢ source_text p

pub no_port : (text : List ℕ) → length text ≡ 2 → ((b : ℕ) (rest : List ℕ) → b < 256 → text ≢ byte_text b ++ rest) → NoSource text
no_port text two none (Port v) p_in same = none v [] p_in (same ∙ sym (append-nil (byte_text v)))
no_port text two none (Cell v) p_in same = let many : length text ≡ 4 = ap (λ t. length t) same in omega arith

pub no_cell : (text : List ℕ) → length text ≡ 4 → ((a : ℕ) (rest : List ℕ) → a < 65536 → text ≢ word_text a ++ rest) → NoSource text
no_cell text four none (Port v) p_in same = let many : length text ≡ 2 = ap (λ t. length t) same in omega arith
no_cell text four none (Cell v) p_in same = none v [] p_in (same ∙ sym (append-nil (word_text v)))

pub no_source : (text : List ℕ) → length text ≢ 2 → length text ≢ 4 → NoSource text
no_source text not_two not_four (Port v) p_in same = not_two (ap (λ t. length t) same)
no_source text not_two not_four (Cell v) p_in same = not_four (ap (λ t. length t) same)

-- ranges
pub range_read : (text after behind rest : List ℕ) (f l : ℕ) → text ≡ word_text f ++ after → after ≡ 32 ∷ behind → behind ≡ word_text l ++ rest → rest ≡ [] → text ≡ word_text f ++ 32 ∷ word_text l
range_read text after behind rest f l first space len empty = first ∙ ap (λ t. word_text f ++ t) (space ∙ ap (λ t. 32 ∷ t) (len ∙ ap (λ t. word_text l ++ t) empty ∙ append-nil (word_text l)))

abbrev pub NoRange : List ℕ → Type 0
NoRange text = (r : Range) → IsInMemory r → 0 < r.length → text ≢ range_text r

pub no_range_first : (text : List ℕ) → ((a : ℕ) (rest : List ℕ) → a < 65536 → text ≢ word_text a ++ rest) → NoRange text
no_range_first text none r r_in some same = none r.first (32 ∷ word_text r.length) r_in.first same

-- what a range's text has behind its first address
range_tail : (text after : List ℕ) (f : ℕ) (r : Range) → text ≡ word_text f ++ after → f < 65536 → IsInMemory r → text ≡ range_text r → (f ≡ r.first) × (after ≡ 32 ∷ word_text r.length)
range_tail text after f r first f_in r_in same = address_first f r.first after (32 ∷ word_text r.length) f_in r_in.first (sym first ∙ same)

pub no_range_space : (text after : List ℕ) (f : ℕ) → text ≡ word_text f ++ after → f < 65536 → ((behind : List ℕ) → after ≢ 32 ∷ behind) → NoRange text
no_range_space text after f first f_in none r r_in some same = none (word_text r.length) (range_tail text after f r first f_in r_in same).1

pub no_range_length : (text after behind : List ℕ) (f : ℕ) → text ≡ word_text f ++ after → f < 65536 → after ≡ 32 ∷ behind → ((a : ℕ) (rest : List ℕ) → a < 65536 → behind ≢ word_text a ++ rest) → NoRange text
no_range_length text after behind f first f_in space none r r_in some same =
    none r.length [] r_in.length (ap (λ t. drop 1 t) (sym space ∙ (range_tail text after f r first f_in r_in same).1) ∙ sym (append-nil (word_text r.length)))

-- the numbers of a range that was read, and that nothing comes behind it
pub range_numbers : (text after behind rest : List ℕ) (f l : ℕ) (r : Range) → text ≡ word_text f ++ after → f < 65536 → after ≡ 32 ∷ behind → behind ≡ word_text l ++ rest → l < 65536 → IsInMemory r → text ≡ range_text r →
    (f ≡ r.first) × ((l ≡ r.length) × (rest ≡ []))
range_numbers text after behind rest f l r first f_in space len l_in r_in same =
    let head = range_tail text after f r first f_in r_in same in
    let tail = address_first l r.length rest [] l_in r_in.length (sym len ∙ ap (λ t. drop 1 t) (sym space ∙ head.1) ∙ sym (append-nil (word_text r.length))) in
    (head.0, tail)

pub no_list_empty : (text : List ℕ) → (length text == 0) ≡ true → (list : ListedBytes) → IsList list → text ≢ list_text list
no_list_empty [] empty list list_in same = list_in.some (sym same)
no_list_empty (b ∷ bs) empty list list_in same = let none : length (b ∷ bs) ≡ 0 = eqb-true (length (b ∷ bs)) 0 empty in absurd (omega arith)

-- answers
pub no_answers : (text table : List ℕ) → text ≡ codes " BY " ++ table → NoTable table → (answers : Answers) → AreAnswers answers → text ≢ answers_text answers
no_answers text table cut none (Listed l) l_in same = list_not_by l table (sym same ∙ cut)
no_answers text table cut none (By t) t_in same = none t t_in (ap (λ x. drop 4 x) (sym cut ∙ same))
