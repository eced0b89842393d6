-- Cursors, and the bytes that they give.
use Rattle.std.proofs.Common.{◌≡◌, ℕ, zero, suc, ◌+◌, ◌*◌, ◌<◌, ◌≤◌, inl, inr, List, [], ◌∷◌, ◌++◌, length, get_or}
use Rattle.std.proofs.Common.{take, drop, append_assoc, append-nil, refl, ap, sym, subst, ◌∙◌, arith, length-append}
use Rattle.std.specs.Prelude.{slice_get, slice_index, Option, Some, None}
use Rattle.std.proofs.lemmas.Bool.{cases_lt}
use Rattle.std.proofs.lemmas.List.{drop_more}
use Rattle.board80.specs.declared.byte_list.Bytes.{Bytes}
use Rattle.board80.specs.declared.byte_list.Bytes.TheVariants.{One, Group}
use Rattle.board80.specs.declared.byte_list.Item.{Item}
use Rattle.machine80_board.specs.declared.cursor.Cursor.{Cursor}
use Rattle.board80.specs.Answers.{byte_at, bytes_of, for_ever_bytes, items_bytes, repeated}
use Rattle.board80.specs.ByteList.{ListedBytes}
use Rattle.machine80_board.specs.Cursor.{IsAt, in_item, for_ever, at_end, MovesInItem, MovesInTurn}

get_behind : (xs ys : List ℕ) (n : ℕ) → slice_get (xs ++ ys) (length xs + n) ≡ slice_get ys n
get_behind [] ys n = ap (λ k. slice_get ys k) (let same : 0 + n ≡ n = omega arith in same)
get_behind (x ∷ xs) ys n = ap (λ k. slice_get (x ∷ (xs ++ ys)) k) (let same : length (x ∷ xs) + n ≡ suc (length xs + n) = omega arith in same) ∙ get_behind xs ys n

get_front : (xs ys : List ℕ) (n : ℕ) → n < length xs → slice_get (xs ++ ys) n ≡ Some (slice_index xs n)
get_front [] ys n inside = absurd (omega arith)
get_front (x ∷ xs) ys zero inside = refl
get_front (x ∷ xs) ys (suc n) inside = get_front xs ys n (omega arith)

get_repeated : (bytes ys : List ℕ) (times turn place : ℕ) → turn < times → place < length bytes → slice_get (repeated times bytes ++ ys) (turn * length bytes + place) ≡ Some (slice_index bytes place)
get_repeated bytes ys zero turn place below inside = absurd (omega arith)
get_repeated bytes ys (suc times) zero place below inside =
    ap (λ k. slice_get ((bytes ++ repeated times bytes) ++ ys) k) (let same : 0 * length bytes + place ≡ place = omega arith in same)
    ∙ ap (λ xs. slice_get xs place) (append_assoc bytes (repeated times bytes) ys)
    ∙ get_front bytes (repeated times bytes ++ ys) place inside
get_repeated bytes ys (suc times) (suc turn) place below inside =
    ap (λ k. slice_get ((bytes ++ repeated times bytes) ++ ys) k) (let same : suc turn * length bytes + place ≡ length bytes + (turn * length bytes + place) = omega arith in same)
    ∙ ap (λ xs. slice_get xs (length bytes + (turn * length bytes + place))) (append_assoc bytes (repeated times bytes) ys)
    ∙ get_behind bytes (repeated times bytes ++ ys) (turn * length bytes + place)
    ∙ get_repeated bytes ys times turn place (omega arith) inside

item_open : (items : List Item) (i : ℕ) (d : Item) (tail : List ℕ) → i < length items →
    items_bytes (drop i items) ++ tail ≡ repeated (get_or items i d).times (bytes_of (get_or items i d).bytes) ++ (items_bytes (drop (i + 1) items) ++ tail)
item_open items i d tail inside =
    ap (λ is. items_bytes is ++ tail) (drop_more items i d inside)
    ∙ append_assoc (repeated (get_or items i d).times (bytes_of (get_or items i d).bytes)) (items_bytes (drop (i + 1) items)) tail

bytes_some : (b : Bytes) → 0 < length (bytes_of b)
bytes_some (One byte) = omega arith
bytes_some (Group g) = omega arith

-- the bytes of items before one, and those from it on
pub items_cut : (items : List Item) (i : ℕ) → items_bytes items ≡ items_bytes (take i items) ++ items_bytes (drop i items)
items_cut [] zero = refl
items_cut [] (suc i) = refl
items_cut (x ∷ xs) zero = refl
items_cut (x ∷ xs) (suc i) =
    ap (λ l. repeated x.times (bytes_of x.bytes) ++ l) (items_cut xs i)
    ∙ sym (append_assoc (repeated x.times (bytes_of x.bytes)) (items_bytes (take i xs)) (items_bytes (drop i xs)))

-- an index from an item on
behind_items : (items : List Item) (i n : ℕ) (tail : List ℕ) →
    slice_get (items_bytes items ++ tail) (length (items_bytes (take i items)) + n) ≡ slice_get (items_bytes (drop i items) ++ tail) n
behind_items items i n tail =
    ap (λ l. slice_get (l ++ tail) (length (items_bytes (take i items)) + n)) (items_cut items i)
    ∙ ap (λ l. slice_get l (length (items_bytes (take i items)) + n)) (append_assoc (items_bytes (take i items)) (items_bytes (drop i items)) tail)
    ∙ get_behind (items_bytes (take i items)) (items_bytes (drop i items) ++ tail) n

-- the byte of an item at its turn and place
pub byte_in_item : (list : ListedBytes) (i turn place given : ℕ) (item : Item) → i < length list.items → item ≡ get_or list.items i item → turn < item.times → place < length (bytes_of item.bytes) →
    given ≡ length (items_bytes (take i list.items)) + (turn * length (bytes_of item.bytes) + place) →
    Some (slice_index (bytes_of item.bytes) place) ≡ byte_at list given
byte_in_item list i turn place given item inside is below within same =
    let tail : List ℕ = for_ever_bytes (suc given) list.for_ever in
    let n : ℕ = turn * length (bytes_of item.bytes) + place in
    sym (ap (λ k. slice_get (items_bytes list.items ++ tail) k) same
    ∙ behind_items list.items i n tail
    ∙ ap (λ l. slice_get l n) (item_open list.items i item tail inside)
    ∙ ap (λ (x : Item). slice_get (repeated x.times (bytes_of x.bytes) ++ (items_bytes (drop (i + 1) list.items) ++ tail)) n) (sym is)
    ∙ get_repeated (bytes_of item.bytes) (items_bytes (drop (i + 1) list.items) ++ tail) item.times turn place below within)

few_turns : (turns count : ℕ) → 0 < count → turns ≤ turns * count
few_turns zero count some = omega arith
few_turns (suc turns) count some = let before = few_turns turns count some in omega (arith, before)

-- the byte of those that come for ever
pub byte_for_ever : (list : ListedBytes) (bytes : Bytes) (turns place given : ℕ) → list.for_ever ≡ Some bytes → place < length (bytes_of bytes) →
    given ≡ length (items_bytes list.items) + (turns * length (bytes_of bytes) + place) →
    Some (slice_index (bytes_of bytes) place) ≡ byte_at list given
byte_for_ever list bytes turns place given is within same =
    let n : ℕ = turns * length (bytes_of bytes) + place in
    let some : 0 < length (bytes_of bytes) = bytes_some bytes in
    let few : turns ≤ turns * length (bytes_of bytes) = few_turns turns (length (bytes_of bytes)) some in
    let enough : turns < suc given = omega (arith, few, same) in
    sym (ap (λ o. slice_get (items_bytes list.items ++ for_ever_bytes (suc given) o) given) is
    ∙ ap (λ k. slice_get (items_bytes list.items ++ repeated (suc given) (bytes_of bytes)) k) same
    ∙ get_behind (items_bytes list.items) (repeated (suc given) (bytes_of bytes)) n
    ∙ ap (λ l. slice_get l n) (sym (append-nil (repeated (suc given) (bytes_of bytes))))
    ∙ get_repeated (bytes_of bytes) [] (suc given) turns place enough within)

-- nothing is past the end
past : (xs : List ℕ) → slice_get xs (length xs) ≡ None
past [] = refl
past (x ∷ xs) = past xs

pub byte_past : (list : ListedBytes) (given : ℕ) → list.for_ever ≡ None → given ≡ length (items_bytes list.items) → None ≡ byte_at list given
byte_past list given is same =
    sym (ap (λ o. slice_get (items_bytes list.items ++ for_ever_bytes (suc given) o) given) is
    ∙ ap (λ l. slice_get l given) (append-nil (items_bytes list.items))
    ∙ ap (λ k. slice_get (items_bytes list.items) k) same
    ∙ past (items_bytes list.items))

one_more : (turns count : ℕ) → (turns + 1) * count ≡ turns * count + count
one_more zero count = omega arith
one_more (suc turns) count = let before = one_more turns count in omega (arith, before)

some_is : {a b : Bytes} → Some a ≡ Some b → a ≡ b
some_is {a} {b} h = let e : Some a ≡ Some b = h in cc

-- a whole turn is over
whole_turn : (given before turns count place next : ℕ) → given ≡ before + (turns * count + place) → place + 1 ≡ count → next ≡ 0 → given + 1 ≡ before + ((turns + 1) * count + next)
whole_turn given before turns count place next same here none =
    let more : (turns + 1) * count ≡ turns * count + count = one_more turns count in omega (arith, same, here, none, more)

-- a cursor before an item or behind all
here_item : (list : ListedBytes) (cursor : Cursor) (given i : ℕ) (item : Item) → cursor.item ≡ i → cursor.turn ≡ 0 → cursor.place ≡ 0 → i < length list.items → item ≡ get_or list.items i item →
    given ≡ length (items_bytes (take i list.items)) → IsAt list cursor given
here_item list cursor given i item at turn place inside is same =
    let some : 0 < length (bytes_of item.bytes) = bytes_some item.bytes in
    in_item item (subst (λ k. k < length list.items) (sym at) inside) (subst (λ k. item ≡ get_or list.items k item) (sym at) is) (omega (arith, turn)) (λ e. place) (omega (arith, place, some))
    (subst (λ k. given ≡ length (items_bytes (take k list.items)) + (cursor.turn * length (bytes_of item.bytes) + cursor.place)) (sym at)
    (subst (λ t. given ≡ length (items_bytes (take i list.items)) + (t * length (bytes_of item.bytes) + cursor.place)) (sym turn) (omega (arith, same, place))))

taken_all : (items : List Item) (i : ℕ) → length items ≤ i → take i items ≡ items
taken_all [] zero past = refl
taken_all [] (suc i) past = refl
taken_all (x ∷ xs) zero past = absurd (omega arith)
taken_all (x ∷ xs) (suc i) past = ap (λ l. x ∷ l) (taken_all xs i (omega arith))

behind_all : (list : ListedBytes) (rest : Option Bytes) → list.for_ever ≡ rest → (cursor : Cursor) (given : ℕ) → cursor.item ≡ length list.items → cursor.place ≡ 0 → given ≡ length (items_bytes list.items) → IsAt list cursor given
behind_all list (Some bytes) is cursor given at place same = for_ever bytes 0 at is (let some = bytes_some bytes in omega (arith, place, some)) (omega (arith, place, same))
behind_all list None is cursor given at place same = at_end at is same

elem : (items : List Item) (i : ℕ) → i < length items → (item : Item) × (item ≡ get_or items i item)
elem [] i inside = absurd (omega arith)
elem (x ∷ xs) zero inside = (x, refl)
elem (x ∷ xs) (suc i) inside = elem xs i (omega arith)

-- a cursor that has passed `i` items
passed : (list : ListedBytes) (cursor : Cursor) (given i : ℕ) → cursor.item ≡ i → cursor.turn ≡ 0 → cursor.place ≡ 0 → i ≤ length list.items → given ≡ length (items_bytes (take i list.items)) → IsAt list cursor given
passed list cursor given i at turn place inside same = elim (cases_lt i (length list.items)) [
  | inl below ↦ (let x = elem list.items i below in here_item list cursor given i x.0 at turn place below x.1 same)
  | inr above ↦ behind_all list list.for_ever refl cursor given (omega (arith, at, inside, above)) place (same ∙ ap (λ l. length (items_bytes l)) (taken_all list.items i above))
]

repeated_length : (times : ℕ) (bytes : List ℕ) → length (repeated times bytes) ≡ times * length bytes
repeated_length zero bytes = omega arith
repeated_length (suc times) bytes = length-append bytes (repeated times bytes) ∙ ap (λ n. length bytes + n) (repeated_length times bytes)
    ∙ (let e : length bytes + times * length bytes ≡ suc times * length bytes = omega arith in e)

-- an element by its index is one
same_here : (items : List Item) (i : ℕ) (one other : Item) → i < length items → one ≡ get_or items i one → other ≡ get_or items i other → one ≡ other
same_here [] i one other inside is also = absurd (omega arith)
same_here (x ∷ xs) zero one other inside is also = is ∙ sym also
same_here (x ∷ xs) (suc i) one other inside is also = same_here xs i one other (omega arith) is also

-- the bytes of one more item
more_items : (items : List Item) (i : ℕ) (item : Item) → i < length items → item ≡ get_or items i item →
    length (items_bytes (take (i + 1) items)) ≡ length (items_bytes (take i items)) + item.times * length (bytes_of item.bytes)
more_items [] i item inside is = absurd (omega arith)
more_items (x ∷ xs) zero item inside is =
    ap length (append-nil (repeated x.times (bytes_of x.bytes))) ∙ repeated_length x.times (bytes_of x.bytes)
    ∙ ap (λ (y : Item). y.times * length (bytes_of y.bytes)) (sym is)
    ∙ (let e : item.times * length (bytes_of item.bytes) ≡ 0 + item.times * length (bytes_of item.bytes) = omega arith in e)
more_items (x ∷ xs) (suc i) item inside is =
    ap (λ k. length (items_bytes (take k (x ∷ xs)))) (let e : suc i + 1 ≡ suc (i + 1) = omega arith in e)
    ∙ length-append (repeated x.times (bytes_of x.bytes)) (items_bytes (take (i + 1) xs))
    ∙ ap (λ n. length (repeated x.times (bytes_of x.bytes)) + n) (more_items xs i item (omega arith) is)
    ∙ (let e : length (repeated x.times (bytes_of x.bytes)) + (length (items_bytes (take i xs)) + item.times * length (bytes_of item.bytes)) ≡ (length (repeated x.times (bytes_of x.bytes)) + length (items_bytes (take i xs))) + item.times * length (bytes_of item.bytes) = omega arith in e)
    ∙ ap (λ n. n + item.times * length (bytes_of item.bytes)) (sym (length-append (repeated x.times (bytes_of x.bytes)) (items_bytes (take i xs))))

-- what a cursor at an item that is not used up gives
pub gives_here : (list : ListedBytes) (cursor : Cursor) (given : ℕ) (item : Item) → cursor.item < length list.items → item ≡ get_or list.items cursor.item item → cursor.turn < item.times →
    IsAt list cursor given → (cursor.place < length (bytes_of item.bytes)) × (given ≡ length (items_bytes (take cursor.item list.items)) + (cursor.turn * length (bytes_of item.bytes) + cursor.place))
gives_here list cursor given item inside is below (in_item one _ here turn around place same) =
    let e : one ≡ item = same_here list.items cursor.item one item inside here is in (
      subst (λ (x : Item). cursor.place < length (bytes_of x.bytes)) e place,
      subst (λ (x : Item). given ≡ length (items_bytes (take cursor.item list.items)) + (cursor.turn * length (bytes_of x.bytes) + cursor.place)) e same,
    )
gives_here list cursor given item inside is below (for_ever bytes turns «end» more place same) = absurd (omega arith)
gives_here list cursor given item inside is below (at_end «end» none same) = absurd (omega arith)

-- and where it stands then
pub stands_next : (list : ListedBytes) (old new : Cursor) (given : ℕ) (item : Item) → old.item < length list.items → item ≡ get_or list.items old.item item → old.turn < item.times →
    old.place < length (bytes_of item.bytes) → given ≡ length (items_bytes (take old.item list.items)) + (old.turn * length (bytes_of item.bytes) + old.place) →
    MovesInItem (length (bytes_of item.bytes)) old new → IsAt list new (given + 1)
stands_next list old new given item inside is below place same moves =
    elim (cases_lt (old.place + 1) (length (bytes_of item.bytes))) [
      | inl less ↦ (let m = moves.within less in
          in_item item (subst (λ i. i < length list.items) (sym moves.item) inside) (subst (λ i. item ≡ get_or list.items i item) (sym moves.item) is)
          (omega (arith, m.1, below)) (λ e. absurd (omega (arith, e, m.1, below))) (omega (arith, m.0, less))
          (subst (λ i. given + 1 ≡ length (items_bytes (take i list.items)) + (new.turn * length (bytes_of item.bytes) + new.place)) (sym moves.item)
          (subst (λ t. given + 1 ≡ length (items_bytes (take old.item list.items)) + (t * length (bytes_of item.bytes) + new.place)) (sym m.1) (omega (arith, same, m.0)))))
      | inr last ↦ (let here : old.place + 1 ≡ length (bytes_of item.bytes) = omega arith in let m = moves.around here in
          in_item item (subst (λ i. i < length list.items) (sym moves.item) inside) (subst (λ i. item ≡ get_or list.items i item) (sym moves.item) is)
          (omega (arith, m.1, below)) (λ e. m.0) (omega (arith, m.0, here))
          (subst (λ i. given + 1 ≡ length (items_bytes (take i list.items)) + (new.turn * length (bytes_of item.bytes) + new.place)) (sym moves.item)
          (subst (λ t. given + 1 ≡ length (items_bytes (take old.item list.items)) + (t * length (bytes_of item.bytes) + new.place)) (sym m.1)
          (whole_turn given (length (items_bytes (take old.item list.items))) old.turn (length (bytes_of item.bytes)) old.place new.place same here m.0))))
    ]

-- what comes for ever
pub gives_for_ever : (list : ListedBytes) (old : Cursor) (given : ℕ) (bytes : Bytes) → length list.items ≤ old.item → list.for_ever ≡ Some bytes → IsAt list old given →
    (old.place < length (bytes_of bytes)) × (Some (slice_index (bytes_of bytes) old.place) ≡ byte_at list given)
gives_for_ever list old given bytes behind is (in_item one inside here turn around place same) = absurd (omega arith)
gives_for_ever list old given bytes behind is (for_ever others turns «end» more place same) =
    let e : others ≡ bytes = some_is (sym more ∙ is) in
    let p : old.place < length (bytes_of bytes) = subst (λ (b : Bytes). old.place < length (bytes_of b)) e place in
    (p, byte_for_ever list bytes turns old.place given is p (subst (λ (b : Bytes). given ≡ length (items_bytes list.items) + (turns * length (bytes_of b) + old.place)) e same))
gives_for_ever list old given bytes behind is (at_end «end» none same) = absurd (let e : None ≡ Some bytes = sym none ∙ is in cc)

pub stands_for_ever : (list : ListedBytes) (old new : Cursor) (given : ℕ) (bytes : Bytes) → length list.items ≤ old.item → list.for_ever ≡ Some bytes → IsAt list old given →
    MovesInTurn (length (bytes_of bytes)) old new → IsAt list new (given + 1)
stands_for_ever list old new given bytes behind is (in_item one inside here turn around place same) moves = absurd (omega arith)
stands_for_ever list old new given bytes behind is (for_ever others turns «end» more place same) moves =
    let e : others ≡ bytes = some_is (sym more ∙ is) in
    let p : old.place < length (bytes_of bytes) = subst (λ (b : Bytes). old.place < length (bytes_of b)) e place in
    let s : given ≡ length (items_bytes list.items) + (turns * length (bytes_of bytes) + old.place) = subst (λ (b : Bytes). given ≡ length (items_bytes list.items) + (turns * length (bytes_of b) + old.place)) e same in
    elim (cases_lt (old.place + 1) (length (bytes_of bytes))) [
      | inl less ↦ for_ever bytes turns (moves.item ∙ «end») is (let m = moves.within less in omega (arith, m, less)) (let m = moves.within less in omega (arith, m, s))
      | inr last ↦ (let here : old.place + 1 ≡ length (bytes_of bytes) = omega arith in let m = moves.around here in
          for_ever bytes (turns + 1) (moves.item ∙ «end») is (omega (arith, m, here))
          (whole_turn given (length (items_bytes list.items)) turns (length (bytes_of bytes)) old.place new.place s here m))
    ]
stands_for_ever list old new given bytes behind is (at_end «end» none same) moves = absurd (let e : None ≡ Some bytes = sym none ∙ is in cc)

-- nothing comes
pub gives_none : (list : ListedBytes) (old : Cursor) (given : ℕ) → length list.items ≤ old.item → list.for_ever ≡ None → IsAt list old given → None ≡ byte_at list given
gives_none list old given behind is (in_item one inside here turn around place same) = absurd (omega arith)
gives_none list old given behind is (for_ever others turns «end» more place same) = absurd (let e : None ≡ Some others = sym is ∙ more in cc)
gives_none list old given behind is (at_end «end» none same) = byte_past list given is same

-- a cursor before the first byte
none_taken : (items : List Item) → 0 ≡ length (items_bytes (take 0 items))
none_taken [] = refl
none_taken (x ∷ xs) = refl

pub starts : (list : ListedBytes) (cursor : Cursor) → cursor.item ≡ 0 → cursor.turn ≡ 0 → cursor.place ≡ 0 → IsAt list cursor 0
starts list cursor item turn place = passed list cursor 0 0 item turn place (omega arith) (none_taken list.items)

-- a used item is passed
pub passes : (list : ListedBytes) (old new : Cursor) (given : ℕ) (item : Item) → old.item < length list.items → item ≡ get_or list.items old.item item → item.times ≤ old.turn →
    new.item ≡ old.item + 1 → new.turn ≡ 0 → new.place ≡ 0 → IsAt list old given → IsAt list new given
passes list old new given item inside is used next turn place (in_item one _ here below around within same) =
    let e : one ≡ item = same_here list.items old.item one item inside here is in
    let all : old.turn ≡ one.times = (let b : item.times ≡ one.times = ap (λ (x : Item). x.times) (sym e) in omega (arith, below, used, b)) in
    let none : old.place ≡ 0 = around all in
    let n : given ≡ length (items_bytes (take (old.item + 1) list.items)) = same ∙ ap (λ p. length (items_bytes (take old.item list.items)) + (old.turn * length (bytes_of one.bytes) + p)) none
    ∙ ap (λ t. length (items_bytes (take old.item list.items)) + (t * length (bytes_of one.bytes) + 0)) all
    ∙ (let z : length (items_bytes (take old.item list.items)) + (one.times * length (bytes_of one.bytes) + 0) ≡ length (items_bytes (take old.item list.items)) + one.times * length (bytes_of one.bytes) = omega arith in z)
    ∙ sym (more_items list.items old.item one inside here) in
    passed list new given (old.item + 1) next turn place (omega arith) n
passes list old new given item inside is used next turn place (for_ever bytes turns «end» more p same) = absurd (omega arith)
passes list old new given item inside is used next turn place (at_end «end» none same) = absurd (omega arith)
