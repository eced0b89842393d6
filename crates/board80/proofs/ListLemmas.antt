-- The texts of lists.
use Rattle.std.proofs.Common.{◌≡◌, ℕ, ◌/◌, ◌<◌, List, [], ◌∷◌, ◌++◌, get_or, drop, append_assoc, refl, ap, sym, ◌∙◌, arith}
use Rattle.std.specs.Prelude.{All, Option, Some, None, IfSome}
use Rattle.std.proofs.lemmas.List.Elements.{All-head, All-tail}
use Rattle.text80.specs.Digits.{byte_text}
use Rattle.board80.specs.declared.byte_list.Bytes.{Bytes}
use Rattle.board80.specs.declared.byte_list.Bytes.TheVariants.{One, Group}
use Rattle.board80.specs.declared.byte_list.Item.{Item}
use Rattle.board80.specs.Board.{AreBytes, AreItemBytes, IsGroup, IsItem}
use Rattle.board80.specs.BoardText.{bytes_text, for_ever_text, group_text, item_text, items_text, spaced_text, times_text}
use Rattle.board80.specs.Group.{GroupBytes}
use Rattle.board80.specs.Reading.{IsAtEnd}
use Rattle.board80.proofs.DigitLemmas.{byte_first, no_digit}
use Rattle.board80.proofs.WordLemmas.{star_no_times, times_first}

-- no byte after a space begins a text
abbrev pub NoByte : List ℕ → Type 0
NoByte rest = (byte : ℕ) (more : List ℕ) → byte < 256 → rest ≡ 32 ∷ (byte_text byte ++ more) → ⊥

-- as many bytes as can be read are all that stand before a bracket
pub spaced_most : (os ps rest more : List ℕ) → AreBytes os → AreBytes ps → NoByte rest → spaced_text os ++ rest ≡ spaced_text ps ++ 41 ∷ more → (os ≡ ps) × (rest ≡ 41 ∷ more)
spaced_most [] [] rest more os_in ps_in none same = (refl, same)
spaced_most [] (p ∷ ps) rest more os_in ps_in none same = absurd (none p (spaced_text ps ++ 41 ∷ more) (All-head (λ byte. byte < 256) p ps ps_in) same)
spaced_most (o ∷ os) [] rest more os_in ps_in none same = let letter : ◌≡◌ {A = ℕ} 32 41 = ap (λ t. get_or t 0 0) same in absurd (omega arith)
spaced_most (o ∷ os) (p ∷ ps) rest more os_in ps_in none same =
    let head = byte_first o p (spaced_text os ++ rest) (spaced_text ps ++ 41 ∷ more) (All-head (λ byte. byte < 256) o os os_in) (All-head (λ byte. byte < 256) p ps ps_in) (ap (λ t. drop 1 t) same) in
    let tail = spaced_most os ps rest more (All-tail (λ byte. byte < 256) o os os_in) (All-tail (λ byte. byte < 256) p ps ps_in) none head.1 in
    (ap (λ x. x ∷ os) head.0 ∙ ap (λ xs. p ∷ xs) tail.0, tail.1)

no_byte_at_bracket : (more : List ℕ) → NoByte (41 ∷ more)
no_byte_at_bracket more byte others below same = let letter : ◌≡◌ {A = ℕ} 41 32 = ap (λ t. get_or t 0 0) same in absurd (omega arith)

-- the text of a group and what follows, opened
pub group_open : (group : GroupBytes) (xs : List ℕ) → group_text group ++ xs ≡ byte_text group.first ++ (spaced_text group.others ++ 41 ∷ xs)
group_open group xs = ap (λ t. byte_text group.first ++ t) (append_assoc (spaced_text group.others) (41 ∷ []) xs)

group_is : (g h : GroupBytes) → g.first ≡ h.first → g.others ≡ h.others → g ≡ h
group_is g h first others =
    let make : ℕ → List ℕ → GroupBytes = λ f os. record { first = f; others = os } in
    ap (λ f. make f g.others) first ∙ ap (λ os. make h.first os) others

pub group_first : (g h : GroupBytes) (xs ys : List ℕ) → IsGroup g → IsGroup h → group_text g ++ xs ≡ group_text h ++ ys → (g ≡ h) × (xs ≡ ys)
group_first g h xs ys g_in h_in same =
    let opened = sym (group_open g xs) ∙ same ∙ group_open h ys in
    let head = byte_first g.first h.first (spaced_text g.others ++ 41 ∷ xs) (spaced_text h.others ++ 41 ∷ ys) g_in.first h_in.first opened in
    let tail = spaced_most g.others h.others (41 ∷ xs) ys g_in.others h_in.others (no_byte_at_bracket xs) head.1 in
    (group_is g h head.0 tail.0, ap (λ t. drop 1 t) tail.1)

-- the bytes of an item at the beginning of a text
pub bytes_first : (b c : Bytes) (xs ys : List ℕ) → AreItemBytes b → AreItemBytes c → bytes_text b ++ xs ≡ bytes_text c ++ ys → (b ≡ c) × (xs ≡ ys)
bytes_first (One v) (One w) xs ys v_in w_in same = let both = byte_first v w xs ys v_in w_in same in (ap One both.0, both.1)
bytes_first (Group g) (Group h) xs ys g_in h_in same = let both = group_first g h xs ys g_in h_in (ap (λ t. drop 1 t) same) in (ap Group both.0, both.1)
bytes_first (One v) (Group h) xs ys v_in h_in same = absurd (no_digit 40 (v / 16) refl refl (ap (λ t. get_or t 0 0) same))
bytes_first (Group g) (One w) xs ys g_in w_in same = absurd (no_digit 40 (w / 16) refl refl (ap (λ t. get_or t 0 0) (sym same)))

item_is : (i j : Item) → i.bytes ≡ j.bytes → i.times ≡ j.times → i ≡ j
item_is i j bytes times =
    let make : Bytes → ℕ → Item = λ b t. record { bytes = b; times = t } in
    ap (λ b. make b i.times) bytes ∙ ap (λ t. make j.bytes t) times

pub item_first : (i j : Item) (xs ys : List ℕ) → IsItem i → IsItem j → IsAtEnd xs → IsAtEnd ys → item_text i ++ xs ≡ item_text j ++ ys → (i ≡ j) × (xs ≡ ys)
item_first i j xs ys i_in j_in xs_end ys_end same =
    let opened = sym (append_assoc (bytes_text i.bytes) (times_text i.times) xs) ∙ same ∙ append_assoc (bytes_text j.bytes) (times_text j.times) ys in
    let head = bytes_first i.bytes j.bytes (times_text i.times ++ xs) (times_text j.times ++ ys) i_in.bytes j_in.bytes opened in
    let tail = times_first i.times j.times xs ys i_in.fits j_in.fits xs_end ys_end head.1 in
    (item_is i j head.0 tail.0, tail.1)

-- no item after a space begins a text
abbrev pub NoItem : List ℕ → Type 0
NoItem rest = (item : Item) (more : List ℕ) → IsItem item → IsAtEnd more → rest ≡ 32 ∷ (item_text item ++ more) → ⊥

pub for_ever_at_end : (bytes : Option Bytes) → IsAtEnd (for_ever_text bytes)
for_ever_at_end None = tt
for_ever_at_end (Some b) = refl

pub items_at_end : (items : List Item) (rest : List ℕ) → IsAtEnd rest → IsAtEnd (items_text items ++ rest)
items_at_end [] rest at_end = at_end
items_at_end (i ∷ is) rest at_end = refl

-- the text of items and what follows, the first one taken off
pub items_open : (item : Item) (items : List Item) (rest : List ℕ) → items_text (item ∷ items) ++ rest ≡ 32 ∷ (item_text item ++ (items_text items ++ rest))
items_open item items rest = ap (λ t. 32 ∷ t) (append_assoc (item_text item) (items_text items) rest)

-- an item isn't what comes for ever
pub item_not_for_ever : (i : Item) (bytes : Option Bytes) (more : List ℕ) → IsItem i → IfSome bytes AreItemBytes → IsAtEnd more → 32 ∷ (item_text i ++ more) ≡ for_ever_text bytes → ⊥
item_not_for_ever i None more i_in b_in at_end same = cc
item_not_for_ever i (Some b) more i_in b_in at_end same =
    let opened = sym (append_assoc (bytes_text i.bytes) (times_text i.times) more) ∙ ap (λ t. drop 1 t) same in
    star_no_times i.times more i_in.fits at_end (bytes_first i.bytes b (times_text i.times ++ more) (42 ∷ []) i_in.bytes b_in opened).1

-- as many items as can be read are all of a list
pub items_most : (is js : List Item) (rest : List ℕ) (bytes : Option Bytes) → All IsItem is → All IsItem js → IfSome bytes AreItemBytes → NoItem rest → IsAtEnd rest →
    items_text is ++ rest ≡ items_text js ++ for_ever_text bytes → (is ≡ js) × (rest ≡ for_ever_text bytes)
items_most [] [] rest bytes is_in js_in b_in none at_end same = (refl, same)
items_most [] (j ∷ js) rest bytes is_in js_in b_in none at_end same =
    absurd (none j (items_text js ++ for_ever_text bytes) (All-head IsItem j js js_in) (items_at_end js (for_ever_text bytes) (for_ever_at_end bytes)) (same ∙ items_open j js (for_ever_text bytes)))
items_most (i ∷ is) [] rest bytes is_in js_in b_in none at_end same =
    absurd (item_not_for_ever i bytes (items_text is ++ rest) (All-head IsItem i is is_in) b_in (items_at_end is rest at_end) (sym (items_open i is rest) ∙ same))
items_most (i ∷ is) (j ∷ js) rest bytes is_in js_in b_in none at_end same =
    let opened = sym (items_open i is rest) ∙ same ∙ items_open j js (for_ever_text bytes) in
    let head = item_first i j (items_text is ++ rest) (items_text js ++ for_ever_text bytes) (All-head IsItem i is is_in) (All-head IsItem j js js_in)
    (items_at_end is rest at_end) (items_at_end js (for_ever_text bytes) (for_ever_at_end bytes)) (ap (λ t. drop 1 t) opened) in
    let tail = items_most is js rest bytes (All-tail IsItem i is is_in) (All-tail IsItem j js js_in) b_in none at_end head.1 in
    (ap (λ x. x ∷ is) head.0 ∙ ap (λ xs. j ∷ xs) tail.0, tail.1)
