-- The items of a word, one after another.
use Rattle.std.proofs.Common.{◌≡◌, ℕ, Option, None, Some, List, [], ◌∷◌, ◌++◌, map, refl, ap, sym, ◌∙◌, append_assoc}
use Rattle.std.specs.Option.{option_map}
use Rattle.std.specs.List.{slice_split}
use Rattle.loader80_text.specs.declared.inputs.repeated.Repeated.{Repeated}
use Rattle.loader80_text.specs.Words.{all_of, item_of, items_of, with_first}
use Rattle.loader80_text.proofs.CommaLemmas.{is_comma}

-- behind an item follow the others
pub items_next : (port : ℕ) (rest item others : List ℕ) → slice_split is_comma rest ≡ item ∷ slice_split is_comma others →
    items_of port rest ≡ with_first (item_of port item) (items_of port others)
items_next port rest item others first = ap (λ (items : List (List ℕ)). all_of (map (item_of port) items)) first

-- one item alone
pub items_last : (port : ℕ) (rest : List ℕ) → slice_split is_comma rest ≡ rest ∷ [] →
    items_of port rest ≡ with_first (item_of port rest) (Some [])
items_last port rest first = ap (λ (items : List (List ℕ)). all_of (map (item_of port) items)) first

-- an item goes from those that are not read yet to those that are read
moved : (before : List Repeated) (input : Repeated) (later : Option (List Repeated)) →
    option_map (λ more. (before ++ input ∷ []) ++ more) later ≡ option_map (λ more. before ++ more) (with_first (Some input) later)
moved before input None = refl
moved before input (Some more) = ap Some (append_assoc before (input ∷ []) more)

pub one_more : (port : ℕ) (before : List Repeated) (input : Repeated) (items rest item others : List ℕ) →
    slice_split is_comma rest ≡ item ∷ slice_split is_comma others → Some input ≡ item_of port item →
    option_map (λ more. before ++ more) (items_of port rest) ≡ items_of port items →
    option_map (λ more. (before ++ input ∷ []) ++ more) (items_of port others) ≡ items_of port items
one_more port before input items rest item others first read whole =
    moved before input (items_of port others)
    ∙ ap (λ (i : Option Repeated). option_map (λ more. before ++ more) (with_first i (items_of port others))) read
    ∙ ap (λ (i : Option (List Repeated)). option_map (λ more. before ++ more) i) (sym (items_next port rest item others first))
    ∙ whole

-- an item of another form
pub no_more : (port : ℕ) (before : List Repeated) (items rest item others : List ℕ) →
    slice_split is_comma rest ≡ item ∷ slice_split is_comma others → None ≡ item_of port item →
    option_map (λ more. before ++ more) (items_of port rest) ≡ items_of port items →
    None ≡ items_of port items
no_more port before items rest item others first read whole =
    ap (λ (i : Option Repeated). option_map (λ more. before ++ more) (with_first i (items_of port others))) read
    ∙ ap (λ (i : Option (List Repeated)). option_map (λ more. before ++ more) i) (sym (items_next port rest item others first))
    ∙ whole

-- the last item
pub last_one : (port : ℕ) (before : List Repeated) (input : Repeated) (items rest : List ℕ) →
    slice_split is_comma rest ≡ rest ∷ [] → Some input ≡ item_of port rest →
    option_map (λ more. before ++ more) (items_of port rest) ≡ items_of port items →
    Some (before ++ input ∷ []) ≡ items_of port items
last_one port before input items rest alone read whole =
    ap (λ (i : Option Repeated). option_map (λ more. before ++ more) (with_first i (Some []))) read
    ∙ ap (λ (i : Option (List Repeated)). option_map (λ more. before ++ more) i) (sym (items_last port rest alone))
    ∙ whole

pub last_bad : (port : ℕ) (before : List Repeated) (items rest : List ℕ) →
    slice_split is_comma rest ≡ rest ∷ [] → None ≡ item_of port rest →
    option_map (λ more. before ++ more) (items_of port rest) ≡ items_of port items →
    None ≡ items_of port items
last_bad port before items rest alone read whole =
    ap (λ (i : Option Repeated). option_map (λ more. before ++ more) (with_first i (Some []))) read
    ∙ ap (λ (i : Option (List Repeated)). option_map (λ more. before ++ more) i) (sym (items_last port rest alone))
    ∙ whole
