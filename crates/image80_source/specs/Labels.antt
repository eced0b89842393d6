-- The labels of a source: the names of addresses. (Intel 8080 Assembly Language Programming Manual, chapter 2: a label has one to
-- six characters and begins with a letter. Labels made of an address are this project's own.)
use Rattle.std.specs.Prelude.{ℕ, Bool, false, ◌||◌, List, ◌∷◌, Option, None, Some, slice_index_or, if◌then◌else◌}
use Rattle.std.specs.Option.{option_map_or}
use Rattle.text80.specs.Digits.{word_text}
use Rattle.image80.specs.Range.{in_range}
use Rattle.image80.specs.Regions.{Areas, in_data}
use Rattle.image80_text.specs.Names.{public_at}
use Rattle.omf_model.specs.declared.symbols.Public.{Public}

-- an image's regions and publics, and tables by address: which ones have a label, and which one's label is the name of its public;
-- and by port: which ones have a name
pub record LabelTables : Type 0 where
  pub regions : Areas
  pub publics : List Public
  pub marks : List Bool
  pub own : List Bool
  pub ports : List Bool

-- the label that is made of an address: R and four digits for RAM, L and four digits for others
abbrev pub made_label : Areas → ℕ → List ℕ
made_label regions address = (if in_data regions address || in_range regions.stack address then 82 else 76) ∷ word_text address

-- the public whose name is the label of an address
abbrev pub own_public : LabelTables → ℕ → Option Public
own_public labels address = if slice_index_or labels.own address false then public_at labels.publics address else None

abbrev pub label_name : LabelTables → ℕ → List ℕ
label_name labels address = option_map_or (λ p. p.name) (own_public labels address) (made_label labels.regions address)

-- the label of an address, if it has one
abbrev pub label_at : LabelTables → ℕ → Option (List ℕ)
label_at labels address = if slice_index_or labels.marks address false then Some (label_name labels address) else None

-- the public of an address whose name is no label
abbrev pub other_public : LabelTables → ℕ → Option Public
other_public labels address = if slice_index_or labels.own address false then None else public_at labels.publics address

-- whether a port has a name
abbrev pub is_named_port : LabelTables → ℕ → Bool
is_named_port labels port = slice_index_or labels.ports port false

-- the name of a port: P and two digits
abbrev pub port_name : List ℕ → List ℕ
port_name digits = 80 ∷ digits
