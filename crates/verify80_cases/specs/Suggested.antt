-- The CASE line that a table suggests for a PCHL. (PL/M-80 compiles DO CASE to a jump through a table of words, low byte first; 8080
-- Assembly Language Programming Manual, PCHL and JMP. Where a table ends, and that an entry with a key has three bytes, is this project's
-- own.)
use Rattle.std.specs.Prelude.{◌≡◌, ◌⊎◌, ℕ, ◌+◌, ◌*◌, ◌<◌, ◌==◌, ◌≤◌, ◌↔◌, ◌&&◌, ◌||◌, Bool, true, false, not, nat_le, nat_lt, List, ◌∷◌, All}
use Rattle.std.specs.Prelude.{AllPairs, Contains, IfSome, Option, None, Some, Result, Ok, Err, length, map, slice_index, is_none, if◌then◌else◌}
use Rattle.std.specs.List.{filter_map, range_with_len}
use Rattle.std.specs.Result.{is_ok}
use Rattle.decode80.specs.declared.fetching.Fetched.{Fetched}
use Rattle.decode80.specs.declared.fetching.FetchFault.{FetchFault}
use Rattle.decode80.specs.declared.instr.Instr.{Instr}
use Rattle.decode80.specs.declared.instr.Instr.TheVariants.{Lxi, Mvi, Operate}
use Rattle.decode80.specs.declared.operation.Operand.TheVariants.{Immediate, Register as InRegister}
use Rattle.decode80.specs.declared.operation.Operation.TheVariants.{And, Compare, Or}
use Rattle.decode80.specs.declared.register.Register.TheVariants.{A}
use Rattle.image80.specs.Case.{DeclaredCase, IsCase, AreByAddress}
use Rattle.image80.specs.Image.{Located, memory_of}
use Rattle.image80.specs.Regions.{in_code, targets_at}
use Rattle.verify80.specs.Looking.{declared_targets, is_pchl}
use Rattle.verify80.specs.LookLaws.{fetch_at}
use Rattle.verify80_cases.specs.Covered.{is_covered}
use Rattle.verify80_cases.specs.Marks.{AreMarks, marked}
use Rattle.verify80_cases.specs.Reach.{AreReachedFrom, IsDone}
use Rattle.verify80_cases.specs.Standing.{LeadsTo, StandsBefore}
use Rattle.verify80_cases.specs.declared.search.Note.{Note}
use Rattle.verify80_cases.specs.declared.search.Note.TheVariants.{MayEnd, Tableless, Returns}
use Rattle.verify80_cases.specs.declared.search.SuggestedCase.{SuggestedCase}
use Rattle.verify80_cases.specs.declared.table.TableKind.{TableKind}
use Rattle.verify80_cases.specs.declared.table.TableKind.TheVariants.{Words, Jumps, Keys}
use Rattle.verify80_cases.specs.declared.table.KeyOrder.{KeyOrder}
use Rattle.verify80_cases.specs.declared.table.KeyOrder.TheVariants.{KeyFirst, KeyLast}

-- whether an address holds a PCHL, in the code, for which no targets are declared
abbrev pub is_undeclared : Located → ℕ → Bool
is_undeclared image at =
    in_code image.regions at && slice_index (memory_of image.chunks) at == 233 && is_none (targets_at image.regions at)

-- whether an instruction stands at an address, all in the code
abbrev pub is_target : Located → ℕ → Bool
is_target image address = in_code image.regions address && is_ok (fetch_at image.regions (memory_of image.chunks) address)

-- whether an address is code, and isn't marked as taken
abbrev pub is_free : Located → (taken : List Bool) → ℕ → Bool
is_free image taken address = in_code image.regions address && not (marked taken address)

-- the word at an address
abbrev pub word_in : List ℕ → ℕ → ℕ
word_in memory address = slice_index memory address + 256 * slice_index memory (address + 1)

-- whether a table may have a word at an address: its two bytes are free, and an instruction stands at the address that it is
abbrev pub is_word : Located → (taken : List Bool) → ℕ → Bool
is_word image taken address =
    nat_le (address + 2) 65536
    && (is_free image taken address && (is_free image taken (address + 1) && is_target image (word_in (memory_of image.chunks) address)))

-- whether a table may have a JMP at an address: it stands there all in the code, and is reached or its three bytes are free
abbrev pub is_jump : Located → (reached taken : List Bool) → ℕ → Bool
is_jump image reached taken address =
    nat_le (address + 3) 65536
    && (slice_index (memory_of image.chunks) address == 195
    && (is_target image address
    && (marked reached address || (is_free image taken address && (is_free image taken (address + 1) && is_free image taken (address + 2))))))

-- where the word of an entry with a key stands, and its key
abbrev pub word_place : KeyOrder → ℕ → ℕ
word_place KeyFirst address = address + 1
word_place KeyLast address = address

abbrev pub key_place : KeyOrder → ℕ → ℕ
key_place KeyFirst address = address
key_place KeyLast address = address + 2

-- whether a key is the one that ends a table
abbrev pub ends_table : (last : Option ℕ) → (key : ℕ) → Bool
ends_table None key = false
ends_table (Some last) key = key == last

-- whether the key of an entry at an address is the one that ends the table
abbrev pub is_last : KeyOrder → (last : Option ℕ) → (memory : List ℕ) → ℕ → Bool
is_last order last memory address = ends_table last (slice_index memory (key_place order address))

-- whether a table may have a key and a word at an address: their three bytes are free, an instruction stands at the address that the word is,
-- and the key isn't the one that ends the table
abbrev pub is_keyed : Located → (taken : List Bool) → KeyOrder → (last : Option ℕ) → ℕ → Bool
is_keyed image taken order last address =
    nat_le (address + 3) 65536
    && ((is_free image taken address && (is_free image taken (address + 1) && is_free image taken (address + 2)))
    && (is_target image (word_in (memory_of image.chunks) (word_place order address)) && not (is_last order last (memory_of image.chunks) address)))

abbrev pub is_entry : TableKind → Located → (reached taken : List Bool) → ℕ → Bool
is_entry Words image reached taken address = is_word image taken address
is_entry Jumps image reached taken address = is_jump image reached taken address
is_entry (Keys order last) image reached taken address = is_keyed image taken order last address

-- the bytes of an entry
abbrev pub stride : TableKind → ℕ
stride Words = 2
stride Jumps = 3
stride (Keys _ _) = 3

-- where PCHL goes by the entry at an address: to the word there, to the JMP itself, or to the word beside the key
abbrev pub goal_of : TableKind → (memory : List ℕ) → ℕ → ℕ
goal_of Words memory address = word_in memory address
goal_of Jumps memory address = address
goal_of (Keys order _) memory address = word_in memory (word_place order address)

-- where PCHL goes by a table of a given number of entries
abbrev pub goals_of : TableKind → (memory : List ℕ) → (table count : ℕ) → List ℕ
goals_of kind memory table count = map (λ k. goal_of kind memory (table + stride kind * k)) (range_with_len 0 count)

-- the word that what was fetched loads, if it is an LXI
abbrev pub loaded_word : Result Fetched FetchFault → Option ℕ
loaded_word (Err _) = None
loaded_word (Ok found) = loaded found.instr
  where
    loaded : Instr → Option ℕ
    loaded (Lxi _ word) = Some word
    loaded _ = None

-- the byte that what was fetched compares A with, if it is a CPI
abbrev pub compared_byte : Result Fetched FetchFault → Option ℕ
compared_byte (Err _) = None
compared_byte (Ok found) = compared found.instr
  where
    compared : Instr → Option ℕ
    compared (Operate Compare (Immediate byte)) = Some byte
    compared _ = None

-- the key that ends a table, if what was fetched is a test for it: that of a CPI, or 0 of ORA A and ANA A
abbrev pub tested_key : Result Fetched FetchFault → Option ℕ
tested_key (Err _) = None
tested_key (Ok found) = tested found.instr
  where
    tested : Instr → Option ℕ
    tested (Operate Compare (Immediate byte)) = Some byte
    tested (Operate And (InRegister A)) = Some 0
    tested (Operate Or (InRegister A)) = Some 0
    tested _ = None

-- how often a loop may count down, if what was fetched loads the count: the byte of an MVI, 256 for 0
abbrev pub loaded_count : Result Fetched FetchFault → Option ℕ
loaded_count (Err _) = None
loaded_count (Ok found) = counted found.instr
  where
    counted : Instr → Option ℕ
    counted (Mvi _ byte) = Some (if byte == 0 then 256 else byte)
    counted _ = None

-- entries that stand one after another from an address on: before the first address that can't have one, or as many as a limit
pub record AreEntries (image : Located) (reached taken : List Bool) (kind : TableKind) (table limit : ℕ) (goals : List ℕ) : Type 0 where
  pub read : goals ≡ goals_of kind (memory_of image.chunks) table (length goals)
  pub each : (k : ℕ) → k < length goals → is_entry kind image reached taken (table + stride kind * k) ≡ true
  pub ends : (is_entry kind image reached taken (table + stride kind * length goals) ≡ false) ⊎ (length goals ≡ limit)

-- a limit is the byte of a CPI that stands before a PCHL, or more than there are entries
pub data IsLimit (image : Located) (reached : List Bool) (at limit : ℕ) : Type 0 where
  none : limit ≡ 65536 → IsLimit image reached at limit
  compared : (cpi : ℕ) → StandsBefore image reached cpi at → compared_byte (fetch_at image.regions (memory_of image.chunks) cpi) ≡ Some limit →
      IsLimit image reached at limit

-- a table is loaded before a PCHL: its address is that of an LXI that stands before it
pub record IsLoaded (image : Located) (reached : List Bool) (at table limit : ℕ) : Type 0 where
  pub lxi : ℕ
  pub before : StandsBefore image reached lxi at
  pub loaded : loaded_word (fetch_at image.regions (memory_of image.chunks) lxi) ≡ Some table
  pub is_limit : IsLimit image reached at limit

-- a limit is the count of an MVI that leads to a PCHL, or more than there are entries
pub data IsCount (image : Located) (reached : List Bool) (at limit : ℕ) : Type 0 where
  none : limit ≡ 65536 → IsCount image reached at limit
  counted : (mvi : ℕ) → LeadsTo image reached mvi at → loaded_count (fetch_at image.regions (memory_of image.chunks) mvi) ≡ Some limit →
      IsCount image reached at limit

-- a key ends the table of an LXI: it is that of a test before which the LXI stands
pub record IsTested (image : Located) (reached : List Bool) (lxi key : ℕ) : Type 0 where
  pub test : ℕ
  pub behind : StandsBefore image reached lxi test
  pub tested : tested_key (fetch_at image.regions (memory_of image.chunks) test) ≡ Some key

-- keys are looked up on the way to a PCHL, in a table at the address of an LXI that leads to it
pub record AreLookedUp (image : Located) (reached : List Bool) (at : ℕ) (last : Option ℕ) (table limit : ℕ) : Type 0 where
  pub lxi : ℕ
  pub leads : LeadsTo image reached lxi at
  pub loaded : loaded_word (fetch_at image.regions (memory_of image.chunks) lxi) ≡ Some table
  pub is_tested : IfSome last (IsTested image reached lxi)
  pub is_count : IsCount image reached at limit

-- a table is begun before a PCHL
pub data IsBegun (image : Located) (reached : List Bool) (at : ℕ) (kind : TableKind) (table limit : ℕ) : Type 0 where
  loads : (kind ≡ Words) ⊎ (kind ≡ Jumps) → IsLoaded image reached at table limit → IsBegun image reached at kind table limit
  looks_up : (order : KeyOrder) (last : Option ℕ) → kind ≡ Keys order last → AreLookedUp image reached at last table limit →
      IsBegun image reached at kind table limit

-- a case that is suggested: it is of a PCHL that isn't declared; its targets are where PCHL goes by a table that is begun before it, as a set
-- of addresses; and the table ends where it has to
pub record IsSuggested (image : Located) (reached taken : List Bool) (case : DeclaredCase) : Type 0 where
  pub undeclared : is_undeclared image case.at ≡ true
  pub rules : IsCase case
  pub in_code : All (λ target. in_code image.regions target ≡ true) case.targets
  pub table : ℕ
  pub kind : TableKind
  pub limit : ℕ
  pub begun : IsBegun image reached case.at kind table limit
  pub goals : List ℕ
  pub entries : AreEntries image reached taken kind table limit goals
  pub targets : (target : ℕ) → Contains case.targets target ↔ Contains goals target

-- whether CODE goes on at an address with a byte that belongs to nothing that is reached, and with one behind it
abbrev pub goes_on_behind : Located → (taken : List Bool) → ℕ → Bool
goes_on_behind image taken at = nat_lt at 65535 && (is_free image taken at && is_free image taken (at + 1))

-- whether the key that ends a table stands at an address, in place of one more entry
abbrev pub is_ended : TableKind → (memory : List ℕ) → ℕ → Bool
is_ended Words memory address = false
is_ended Jumps memory address = false
is_ended (Keys order last) memory address = nat_le (address + 3) 65536 && is_last order last memory address

-- a case that is suggested, with the address of its table and the one behind the table's last entry. The table may go on there if the
-- code does, and neither a number of entries nor a key has ended it
pub record IsSuggestedCase (image : Located) (reached taken : List Bool) (found : SuggestedCase) : Type 0 where
  pub suggested : IsSuggested image reached taken found.case
  pub table : found.table ≡ suggested.table
  pub «end» : found.«end» ≡ suggested.table + stride suggested.kind * length suggested.goals
  pub may_go_on : found.may_go_on ≡ (nat_lt (length suggested.goals) suggested.limit
      && (goes_on_behind image taken found.«end» && not (is_ended suggested.kind (memory_of image.chunks) found.«end»)))

-- what there is to say of the PCHL at an address: of one whose table may go on, where it is taken to end; of one without a case, that
-- no table is seen for it, or that it returns
abbrev pub IsNote : (at : ℕ) → Option SuggestedCase → Option Note → Type 0
IsNote at (Some found) note = note ≡ (if found.may_go_on then Some (MayEnd found.table found.«end») else None)
IsNote at None note = (note ≡ Some (Tableless at)) ⊎ (note ≡ Some (Returns at))

-- whether an address may have an entry of a table if no byte is taken
abbrev pub could_be_entry : TableKind → Located → ℕ → Bool
could_be_entry Words image address =
    nat_le (address + 2) 65536
    && (in_code image.regions address && (in_code image.regions (address + 1) && is_target image (word_in (memory_of image.chunks) address)))
could_be_entry Jumps image address =
    nat_le (address + 3) 65536 && (slice_index (memory_of image.chunks) address == 195 && is_target image address)
could_be_entry (Keys order last) image address =
    nat_le (address + 3) 65536
    && ((in_code image.regions address && (in_code image.regions (address + 1) && in_code image.regions (address + 2)))
    && (is_target image (word_in (memory_of image.chunks) (word_place order address)) && not (is_last order last (memory_of image.chunks) address)))

-- whether what was fetched is a PCHL
abbrev pub holds_pchl : Result Fetched FetchFault → Bool
holds_pchl (Err _) = false
holds_pchl (Ok found) = is_pchl found.instr

-- a PCHL for which no targets are declared goes by a table
pub record GoesByTable (image : Located) (reached : List Bool) (at : ℕ) (kind : TableKind) (table limit : ℕ) : Type 0 where
  pub is_pchl : holds_pchl (fetch_at image.regions (memory_of image.chunks) at) ≡ true
  pub undeclared : length (declared_targets image.regions at) ≡ 0
  pub begun : IsBegun image reached at kind table limit

-- an address to which an entry of such a table leads: it and those before it could be entries, and are within the limit
pub record IsTableTarget (image : Located) (reached : List Bool) (target : ℕ) : Type 0 where
  pub at : ℕ
  pub kind : TableKind
  pub table : ℕ
  pub limit : ℕ
  pub by : GoesByTable image reached at kind table limit
  pub number : ℕ
  pub inside : number < limit
  pub entries : (k : ℕ) → k ≤ number → could_be_entry kind image (table + stride kind * k) ≡ true
  pub goal : target ≡ goal_of kind (memory_of image.chunks) (table + stride kind * number)

-- where an image is gone through from: its start, further entries, and the targets of its tables
abbrev pub IsRoot : Located → (entries : List ℕ) → (reached : List Bool) → ℕ → Type 0
IsRoot image entries reached root = Contains (image.start ∷ entries) root ⊎ IsTableTarget image reached root

-- a walk that has reached its end, from the start, from further entries and from the targets of tables
pub record IsExplored (image : Located) (entries : List ℕ) (marks : List Bool) (order : List ℕ) : Type 0 where
  pub roots : List ℕ
  pub each : All (IsRoot image entries marks) roots
  pub begun : All (Contains roots) (image.start ∷ entries)
  pub done : IsDone image roots marks order

-- for each address whether it is reached, and whether it is in an instruction that is
pub record Searched : Type 0 where
  pub reached : List Bool
  pub taken : List Bool

-- what is found of an image that is gone through from its start, from further entries and from the targets of its tables: the addresses
-- that are reached, and the bytes of the instructions there
pub record IsSearched (image : Located) (entries : List ℕ) (reached taken : List Bool) : Type 0 where
  pub roots : List ℕ
  pub each : All (IsRoot image entries reached) roots
  pub begun : All (Contains roots) (image.start ∷ entries)
  pub exact : AreReachedFrom image roots reached
  pub covered : AreMarks (is_covered image reached) 65536 taken

-- whether an address holds a PCHL that is reached and not declared
abbrev pub is_open : Located → (reached : List Bool) → ℕ → Bool
is_open image reached at = marked reached at && is_undeclared image at

-- what is suggested of the addresses below one: cases by address, and PCHLs by address for which no table is seen; together they are
-- exactly the PCHLs there that are reached and not declared
pub record AreSuggestedBelow (image : Located) (reached taken : List Bool) (limit : ℕ) (cases : List DeclaredCase) (tableless : List ℕ) : Type 0 where
  pub each : All (IsSuggested image reached taken) cases
  pub by_address : AreByAddress cases
  pub below : All (λ case. case.at < limit) cases
  pub are_open : All (λ case. is_open image reached case.at ≡ true) cases
  pub others : All (λ at. is_open image reached at ≡ true) tableless
  pub others_by_address : AllPairs (λ a b. a < b) tableless
  pub others_below : All (λ at. at < limit) tableless
  pub all : (at : ℕ) → at < limit → is_open image reached at ≡ true → Contains (map (λ case. case.at) cases) at ⊎ Contains tableless at

-- what is found of a PCHL: its case, if a table is seen for it, and what there is to say of it
pub record Finding : Type 0 where
  pub at : ℕ
  pub found : Option SuggestedCase
  pub note : Option Note

pub record IsFinding (image : Located) (reached taken : List Bool) (finding : Finding) : Type 0 where
  pub found : IfSome finding.found (IsSuggestedCase image reached taken)
  pub at : IfSome finding.found (λ found. found.case.at ≡ finding.at)
  pub note : IsNote finding.at finding.found finding.note

-- the case, and the PCHL if there is none
abbrev pub case_of : Option SuggestedCase → Option DeclaredCase
case_of None = None
case_of (Some found) = Some found.case

abbrev pub tableless_of : (at : ℕ) → Option SuggestedCase → Option ℕ
tableless_of at None = Some at
tableless_of at (Some _) = None

-- notes are those of the PCHLs that have the cases, and of those without a table, by address: each has its own, or none
pub record AreNotesBelow (image : Located) (reached taken : List Bool) (limit : ℕ) (cases : List DeclaredCase) (tableless : List ℕ) (notes : List Note) : Type 0 where
  pub findings : List Finding
  pub each : All (IsFinding image reached taken) findings
  pub by_address : AllPairs (λ (a b : Finding). a.at < b.at) findings
  pub below : All (λ (finding : Finding). finding.at < limit) findings
  pub cases_are : cases ≡ filter_map (λ (finding : Finding). case_of finding.found) findings
  pub tableless_are : tableless ≡ filter_map (λ (finding : Finding). tableless_of finding.at finding.found) findings
  pub notes_are : notes ≡ filter_map (λ (finding : Finding). finding.note) findings

-- what is suggested of an image that is gone through from its start and from further entries
pub record AreSuggested (image : Located) (entries : List ℕ) (cases : List DeclaredCase) (tableless : List ℕ) (notes : List Note) : Type 0 where
  pub reached : List Bool
  pub taken : List Bool
  pub searched : IsSearched image entries reached taken
  pub suggested : AreSuggestedBelow image reached taken 65536 cases tableless
  pub are_notes : AreNotesBelow image reached taken 65536 cases tableless notes
