-- The bytes of lists.
use Rattle.std.proofs.Common.{◌≡◌, ℕ, zero, suc, ◌+◌, ◌-◌, ◌*◌, ◌/◌, ◌%◌, ◌<◌, ◌≤◌, cond, List, [], ◌∷◌}
use Rattle.std.proofs.Common.{◌++◌, length, get_or, drop, append_assoc, append-nil, refl, ap, sym, ◌∙◌, arith}
use Rattle.std.specs.Prelude.{slice_get, slice_index, ◌==◌, find, Some}
use Rattle.std.proofs.Math.Nat.{div-add-mod, div-le_self, mod-lt, mul-div-le, mul-le-mul_left}
use Rattle.std.proofs.lemmas.Bool.{eq-eqb, ne_eqb}
use Rattle.std.proofs.lemmas.List.{drop_more}
use Rattle.board80.specs.declared.byte_list.Bytes.{Bytes}
use Rattle.board80.specs.declared.byte_list.Bytes.TheVariants.{One, Group}
use Rattle.board80.specs.declared.byte_list.Item.{Item}
use Rattle.board80.specs.declared.table.Row.{Row}
use Rattle.board80.specs.Answers.{answer_of_row, byte_at, bytes_of, for_ever_bytes, items_bytes, repeated}
use Rattle.board80.specs.ByteList.{ListedBytes}

-- an index behind the front
pub get_behind : (xs ys : List ℕ) (n : ℕ) → slice_get (xs ++ ys) (length xs + n) ≡ slice_get ys n
get_behind [] ys n = ap (λ k. slice_get ys k) (let same : 0 + n ≡ n = omega arith in same)
get_behind (x ∷ xs) ys n = ap (λ k. slice_get (x ∷ (xs ++ ys)) k) (let same : length (x ∷ xs) + n ≡ suc (length xs + n) = omega arith in same) ∙ get_behind xs ys n

-- an index in the front
pub get_front : (xs ys : List ℕ) (n : ℕ) → n < length xs → slice_get (xs ++ ys) n ≡ Some (slice_index xs n)
get_front [] ys n inside = absurd (omega arith)
get_front (x ∷ xs) ys zero inside = refl
get_front (x ∷ xs) ys (suc n) inside = get_front xs ys n (omega arith)

-- an index in repeated bytes
pub get_repeated : (bytes ys : List ℕ) (times turn place : ℕ) → turn < times → place < length bytes → slice_get (repeated times bytes ++ ys) (turn * length bytes + place) ≡ Some (slice_index bytes place)
get_repeated bytes ys zero turn place below inside = absurd (omega arith)
get_repeated bytes ys (suc times) zero place below inside =
    ap (λ k. slice_get ((bytes ++ repeated times bytes) ++ ys) k) (let same : 0 * length bytes + place ≡ place = omega arith in same)
    ∙ ap (λ xs. slice_get xs place) (append_assoc bytes (repeated times bytes) ys)
    ∙ get_front bytes (repeated times bytes ++ ys) place inside
get_repeated bytes ys (suc times) (suc turn) place below inside =
    ap (λ k. slice_get ((bytes ++ repeated times bytes) ++ ys) k) (let same : suc turn * length bytes + place ≡ length bytes + (turn * length bytes + place) = omega arith in same)
    ∙ ap (λ xs. slice_get xs (length bytes + (turn * length bytes + place))) (append_assoc bytes (repeated times bytes) ys)
    ∙ get_behind bytes (repeated times bytes ++ ys) (turn * length bytes + place)
    ∙ get_repeated bytes ys times turn place (omega arith) inside

-- an index behind repeated bytes
pub get_after : (bytes ys : List ℕ) (times n : ℕ) → slice_get (repeated times bytes ++ ys) (times * length bytes + n) ≡ slice_get ys n
get_after bytes ys zero n = ap (λ k. slice_get ys k) (let same : 0 * length bytes + n ≡ n = omega arith in same)
get_after bytes ys (suc times) n =
    ap (λ k. slice_get ((bytes ++ repeated times bytes) ++ ys) k) (let same : suc times * length bytes + n ≡ length bytes + (times * length bytes + n) = omega arith in same)
    ∙ ap (λ xs. slice_get xs (length bytes + (times * length bytes + n))) (append_assoc bytes (repeated times bytes) ys)
    ∙ get_behind bytes (repeated times bytes ++ ys) (times * length bytes + n)
    ∙ get_after bytes ys times n

-- what comes `left / count` times at most needs no more than `left`
pub turns_fit : (left count times : ℕ) → times ≤ left / count → times * count ≤ left
turns_fit left count times below = omega (arith, mul-le-mul_left count below, mul-div-le left count)

-- the index falls into repeated bytes
pub falls_inside : (bytes ys : List ℕ) (times left : ℕ) → 0 < length bytes → left / length bytes < times → slice_get (repeated times bytes ++ ys) left ≡ Some (slice_index bytes (left % length bytes))
falls_inside bytes ys times left some below =
    ap (λ k. slice_get (repeated times bytes ++ ys) k) (let same : left ≡ left / length bytes * length bytes + left % length bytes = omega (arith, div-add-mod left (length bytes)) in same)
    ∙ get_repeated bytes ys times (left / length bytes) (left % length bytes) below (mod-lt left some)

-- or behind them
pub falls_behind : (bytes ys : List ℕ) (times left : ℕ) → times ≤ left / length bytes → slice_get (repeated times bytes ++ ys) left ≡ slice_get ys (left - times * length bytes)
falls_behind bytes ys times left above =
    let fits : times * length bytes ≤ left = turns_fit left (length bytes) times above in
    ap (λ k. slice_get (repeated times bytes ++ ys) k) (let same : left ≡ times * length bytes + (left - times * length bytes) = omega arith in same)
    ∙ get_after bytes ys times (left - times * length bytes)

-- an item among those that are left
pub item_open : (items : List Item) (i : ℕ) (d : Item) (tail : List ℕ) → i < length items →
    items_bytes (drop i items) ++ tail ≡ repeated (get_or items i d).times (bytes_of (get_or items i d).bytes) ++ (items_bytes (drop (i + 1) items) ++ tail)
item_open items i d tail inside =
    ap (λ is. items_bytes is ++ tail) (drop_more items i d inside)
    ∙ append_assoc (repeated (get_or items i d).times (bytes_of (get_or items i d).bytes)) (items_bytes (drop (i + 1) items)) tail

pub bytes_some : (b : Bytes) → 0 < length (bytes_of b)
bytes_some (One byte) = omega arith
bytes_some (Group g) = omega arith

-- what comes for ever, at any index
pub for_ever_falls : (items : List Item) (b : Bytes) (index left : ℕ) → left ≤ index →
    ((tail : List ℕ) → slice_get tail left ≡ slice_get (items_bytes items ++ tail) index) →
    Some (slice_index (bytes_of b) (left % length (bytes_of b))) ≡ slice_get (items_bytes items ++ repeated (suc index) (bytes_of b)) index
for_ever_falls items b index left below same =
    let few : left / length (bytes_of b) ≤ left = div-le_self left (length (bytes_of b)) in
    sym (falls_inside (bytes_of b) [] (suc index) left (bytes_some b) (omega arith))
    ∙ ap (λ bs. slice_get bs left) (append-nil (repeated (suc index) (bytes_of b)))
    ∙ same (repeated (suc index) (bytes_of b))

-- an item at its place
same_item : (items : List Item) (i : ℕ) (item : Item) (tail : List ℕ) → i < length items → item ≡ get_or items i item →
    items_bytes (drop i items) ++ tail ≡ repeated item.times (bytes_of item.bytes) ++ (items_bytes (drop (i + 1) items) ++ tail)
same_item items i item tail inside is =
    item_open items i item tail inside
    ∙ ap (λ (x : Item). repeated x.times (bytes_of x.bytes) ++ (items_bytes (drop (i + 1) items) ++ tail)) (sym is)

-- the byte of a list falls into an item
pub byte_here : (list : ListedBytes) (i index left : ℕ) (item : Item) → i < length list.items → item ≡ get_or list.items i item → left / length (bytes_of item.bytes) < item.times →
    ((tail : List ℕ) → slice_get (items_bytes (drop i list.items) ++ tail) left ≡ slice_get (items_bytes list.items ++ tail) index) →
    Some (slice_index (bytes_of item.bytes) (left % length (bytes_of item.bytes))) ≡ byte_at list index
byte_here list i index left item inside is below same =
    let tail : List ℕ = for_ever_bytes (suc index) list.for_ever in
    sym (falls_inside (bytes_of item.bytes) (items_bytes (drop (i + 1) list.items) ++ tail) item.times left (bytes_some item.bytes) below)
    ∙ ap (λ bs. slice_get bs left) (sym (same_item list.items i item tail inside is))
    ∙ same tail

-- or behind it
pub byte_later : (items : List Item) (i index left : ℕ) (item : Item) → i < length items → item ≡ get_or items i item → item.times ≤ left / length (bytes_of item.bytes) →
    ((tail : List ℕ) → slice_get (items_bytes (drop i items) ++ tail) left ≡ slice_get (items_bytes items ++ tail) index) →
    (tail : List ℕ) → slice_get (items_bytes (drop (i + 1) items) ++ tail) (left - item.times * length (bytes_of item.bytes)) ≡ slice_get (items_bytes items ++ tail) index
byte_later items i index left item inside is above same tail =
    sym (falls_behind (bytes_of item.bytes) (items_bytes (drop (i + 1) items) ++ tail) item.times left above)
    ∙ ap (λ bs. slice_get bs left) (sym (same_item items i item tail inside is))
    ∙ same tail

-- rows
pub row_found : (rows : List Row) (i byte other : ℕ) (row : Row) → i < length rows → row ≡ get_or rows i row → row.byte ≡ byte →
    row.answer ≡ answer_of_row (find (λ r. r.byte == byte) (drop i rows)) other
row_found rows i byte other row inside is here =
    sym (ap (λ rs. answer_of_row (find (λ r. r.byte == byte) rs) other) (drop_more rows i row inside)
    ∙ ap (λ (x : Row). answer_of_row (cond (x.byte == byte) (Some x) (find (λ r. r.byte == byte) (drop (i + 1) rows))) other) (sym is)
    ∙ ap (λ b. answer_of_row (cond b (Some row) (find (λ r. r.byte == byte) (drop (i + 1) rows))) other) (eq-eqb row.byte byte here))

pub row_passed : (rows : List Row) (i byte other : ℕ) (row : Row) → i < length rows → row ≡ get_or rows i row → (row.byte ≡ byte → ⊥) →
    answer_of_row (find (λ r. r.byte == byte) (drop (i + 1) rows)) other ≡ answer_of_row (find (λ r. r.byte == byte) (drop i rows)) other
row_passed rows i byte other row inside is not =
    sym (ap (λ rs. answer_of_row (find (λ r. r.byte == byte) rs) other) (drop_more rows i row inside)
    ∙ ap (λ (x : Row). answer_of_row (cond (x.byte == byte) (Some x) (find (λ r. r.byte == byte) (drop (i + 1) rows))) other) (sym is)
    ∙ ap (λ b. answer_of_row (cond b (Some row) (find (λ r. r.byte == byte) (drop (i + 1) rows))) other) (ne_eqb row.byte byte not))

past_items : (items : List Item) (i : ℕ) → length items ≤ i → drop i items ≡ []
past_items [] zero past = refl
past_items [] (suc i) past = refl
past_items (x ∷ xs) zero past = absurd (omega arith)
past_items (x ∷ xs) (suc i) past = past_items xs i (omega arith)

-- or into what comes for ever
pub byte_last : (list : ListedBytes) (b : Bytes) (i index left : ℕ) → length list.items ≤ i → list.for_ever ≡ Some b → left ≤ index →
    ((tail : List ℕ) → slice_get (items_bytes (drop i list.items) ++ tail) left ≡ slice_get (items_bytes list.items ++ tail) index) →
    Some (slice_index (bytes_of b) (left % length (bytes_of b))) ≡ byte_at list index
byte_last list b i index left past is below same =
    for_ever_falls list.items b index left below (λ tail. ap (λ is. slice_get (items_bytes is ++ tail) left) (sym (past_items list.items i past)) ∙ same tail)
    ∙ ap (λ o. slice_get (items_bytes list.items ++ for_ever_bytes (suc index) o) index) (sym is)
