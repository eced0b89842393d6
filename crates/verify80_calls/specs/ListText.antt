-- What is printed of the calls of a program, line by line. (The form of the lines is this project's own.)
use Rattle.std.specs.Prelude.{ℕ, List, [], ◌∷◌, ◌++◌, codes, map}
use Rattle.std.specs.Fmt.{decimal, signed_decimal}
use Rattle.std.specs.List.{flat_map}
use Rattle.text80.specs.Digits.{word_text}
use Rattle.image80.specs.Image.{Located}
use Rattle.omf_model.specs.declared.symbols.Public.{Public}
use Rattle.image80_text.specs.NameText.{name_text}
use Rattle.frames80.specs.declared.procedure.Procedure.{Procedure}
use Rattle.frames80.specs.declared.procedure.Procedure.TheVariants.{Main, Entry}
use Rattle.verify80_calls.specs.declared.calls.Call.{Call}
use Rattle.verify80_calls.specs.declared.graph.call_graph.Node.{Node}
use Rattle.verify80_calls.specs.declared.graph.chain.Link.{Link}
use Rattle.verify80_calls.specs.Chain.{chain_of}
use Rattle.verify80_calls.specs.Nodes.{needs}

-- a text, and an address behind it
abbrev pub with_address : (before : List ℕ) → (address : ℕ) → List ℕ
with_address before address = before ++ word_text address

-- the name of an address, and the end of its line
abbrev pub end_text : Located → List Public → (address : ℕ) → List ℕ
end_text image publics address = name_text image.regions.code publics address ++ 10 ∷ []

-- ---- procedures

-- the word before a procedure's address, that of an entry being given
abbrev pub node_word : (entry_word : List ℕ) → Procedure → List ℕ
node_word entry_word Main = codes "MAIN "
node_word entry_word (Entry entry) = entry_word

-- a text, and a bound behind it
abbrev pub bound_text : (before : List ℕ) → (bound : ℕ) → List ℕ
bound_text before bound = before ++ (codes "BOUND " ++ decimal bound)

-- the line of a procedure, with its name
abbrev pub node_line : Located → List Public → Node → List ℕ
node_line image publics node =
    with_address (node_word (codes "PROC ") node.procedure) node.address
    ++ (bound_text (codes " ") node.bound ++ end_text image publics node.address)

-- ---- calls

-- where a call stands, and what its procedure has on the stack there
abbrev pub depth_text : Call → List ℕ
depth_text call = with_address (codes "  AT ") call.at ++ (codes " DEPTH " ++ signed_decimal call.depth)

-- what is called, and the bytes of stack that this needs
abbrev pub needs_text : (target bytes : ℕ) → List ℕ
needs_text target bytes = with_address (codes " CALLS ") target ++ (codes " NEEDS " ++ decimal bytes)

-- the line of a call, with the name of its target
abbrev pub call_line : Located → List Public → List Node → Call → List ℕ
call_line image publics nodes call =
    depth_text call ++ (needs_text call.target (needs nodes call.target) ++ end_text image publics call.target)

-- ---- all of them

-- the line of a procedure, and one for each of its calls
abbrev pub node_lines : Located → List Public → List Node → Node → List ℕ
node_lines image publics nodes node = node_line image publics node ++ flat_map (call_line image publics nodes) node.calls.items

abbrev pub list_text : Located → List Public → List Node → List ℕ
list_text image publics nodes = flat_map (node_lines image publics nodes) nodes

-- ---- the calls that add up to the main program's bound

abbrev pub chain_text : Located → List Public → List Node → List ℕ
chain_text image publics nodes = flat_map (call_line image publics nodes) (map (λ (link : Link). link.call) (chain_of nodes))
