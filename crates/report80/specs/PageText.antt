-- What the page of an image shows, in order. (That the page has these parts is this project's own.)
use Rattle.std.specs.Prelude.{◌≡◌, ℕ, List, [], ◌∷◌, ◌++◌, codes}
use Rattle.std.specs.List.{flat_map, range_with_len}
use Rattle.std.specs.Option.{option_map_or}
use Rattle.text80.specs.Digits.{word_text}
use Rattle.image80.specs.Image.{Located}
use Rattle.image80.specs.RegionsText.{regions_text}
use Rattle.image80_text.specs.Names.{public_at}
use Rattle.omf_model.specs.declared.symbols.Public.{Public}
use Rattle.verify80_calls.specs.declared.graph.call_graph.Node.{Node}
use Rattle.verify80_calls.specs.ListText.{list_text}
use Rattle.report80.specs.DrawingText.{drawing_text}
use Rattle.report80.specs.MemoryText.{map_text, sums_text}
use Rattle.report80.specs.StackText.{chart_text}
use Rattle.verify80_calls.specs.ListText.{chain_text}

-- a heading, and a text below it
abbrev pub part_text : (heading text : List ℕ) → List ℕ
part_text heading text = heading ++ (10 ∷ [] ++ text)

-- the first name at an address, if there is one
abbrev pub name_line : List Public → (address : ℕ) → List ℕ
name_line publics address = option_map_or (λ (p : Public). word_text address ++ (32 ∷ [] ++ (p.name ++ 10 ∷ []))) (public_at publics address) []

-- the first names below an address, by address
unfoldable pub names_below : List Public → (limit : ℕ) → List ℕ
names_below publics limit = flat_map (name_line publics) (range_with_len 0 limit)

-- all of them
abbrev pub names_text : List Public → List ℕ
names_text publics = names_below publics 65536

-- every image's page begins with its name, as title and as headline, what the verifier says, its memory and its sums
abbrev pub image_text : Located → (verdict : List ℕ) → List ℕ
image_text image verdict =
    part_text image.name (part_text image.name
    (part_text (codes "Verdict") verdict
    ++ (part_text (codes "Memory") (map_text image.regions ++ regions_text image.regions)
    ++ part_text (codes "Sums") (sums_text image.chunks image.regions.code))))

-- what each procedure needs, and the longest chain
abbrev pub stack_text : Located → List Public → List Node → List ℕ
stack_text image publics nodes =
    part_text (codes "Stack by procedure") (chart_text image publics nodes)
    ++ part_text (codes "Longest chain") (chain_text image publics nodes)

abbrev pub calls_text : Located → List Public → List Node → List ℕ
calls_text image publics nodes = part_text (codes "Calls") (drawing_text image publics nodes ++ list_text image publics nodes)

abbrev pub others_text : List Public → (stores : List ℕ) → List ℕ
others_text publics stores = part_text (codes "Stores and jumps") stores ++ part_text (codes "Names") (names_text publics)

-- behind that the page of an image that is refused has the calls that are reached, and its names
abbrev pub refused_text : List Public → (calls : List ℕ) → List ℕ
refused_text publics calls = part_text (codes "Calls") calls ++ part_text (codes "Names") (names_text publics)

-- behind that the page of a program that is accepted has its procedures, its calls, its stores and its names
abbrev pub program_text : Located → List Public → List Node → (stores : List ℕ) → List ℕ
program_text image publics nodes stores =
    stack_text image publics nodes ++ (calls_text image publics nodes ++ others_text publics stores)
