-- Why modules can't be linked: each cause as a test, and their order.
-- (ISIS-II User's Guide, LINK: multiply defined publics, segments that overflow, several main modules. Their order and numbers
-- are this project's own.)
use Rattle.std.specs.Prelude.{ℕ, ◌%◌, ◌==◌, nat_lt, Bool, false, not, ◌&&◌, if◌then◌else◌, Option, Some, None, option_map, List, [], ◌∷◌, ◌++◌, find, length}
use Rattle.std.specs.List.{list_any, enumerate_from}
use Rattle.std.specs.Option.{option_or}
use Rattle.omf_core.specs.Name.{same_name}
use Rattle.omf_core.specs.SegmentId.{code_id, data_id, stack_id}
use Rattle.omf_model.specs.declared.fixup.Fixup.{Fixup}
use Rattle.omf_model.specs.declared.fixup.Target.{Target}
use Rattle.omf_model.specs.declared.fixup.Target.TheVariants as target
use Rattle.omf_model.specs.declared.symbols.Public.{Public}
use Rattle.omf_model.specs.Contents.{ContentValue}
use Rattle.omf_model.specs.Modules.{ModuleValue}
use Rattle.omf_model.specs.HighReferences.{is_high}
use Rattle.link80.specs.declared.fault.LinkFault.{LinkFault}
use Rattle.link80.specs.declared.fault.LinkFault.TheVariants.{DuplicatePublic, SegmentTooLong, TwoMains, HighNotPaged, TooManyCommons, Memory, TooManyExternals}
use Rattle.link80.specs.Linked.{common_names, moved, linked_publics, unresolved, linked_length, starts}

-- the number of a fault
abbrev pub link_fault_code : LinkFault → ℕ
link_fault_code (DuplicatePublic name) = 1
link_fault_code (SegmentTooLong id) = 2
link_fault_code TwoMains = 3
link_fault_code HighNotPaged = 4
link_fault_code TooManyCommons = 5
link_fault_code Memory = 6
link_fault_code TooManyExternals = 7

-- one of these publics has the name
abbrev pub is_declared : List Public → List ℕ → Bool
is_declared publics name = list_any (λ q. same_name q.name name) publics

-- the first public, by module and then by record, whose name stands before (specs/DuplicateLaws.antt says it without the walk)
abbrev pub first_again : List Public → List Public → Option (List ℕ)
first_again before [] = None
first_again before (p ∷ ps) = if is_declared before p.name then Some p.name else first_again (before ++ p ∷ []) ps

abbrev pub duplicate_public : List ModuleValue → Option LinkFault
duplicate_public modules = option_map DuplicatePublic (first_again [] (linked_publics modules))

-- the parts of CODE, DATA or STACK add up to more than 65535 bytes: the least id
abbrev pub segment_too_long : List ModuleValue → Option LinkFault
segment_too_long modules =
    option_map SegmentTooLong (find (λ id. nat_lt 65535 (linked_length modules id)) (code_id ∷ data_id ∷ stack_id ∷ []))

abbrev pub two_mains : List ModuleValue → Option LinkFault
two_mains modules = if nat_lt 1 (length (starts modules)) then Some TwoMains else None

-- a high byte of a reference to a segment whose part doesn't start at a multiple of 256
abbrev pub is_off_page : List ModuleValue → ℕ → Target → Bool
is_off_page modules number (target.Segment id) = not (moved modules number id 0 % 256 == 0)
is_off_page modules number (target.External index) = false

abbrev pub is_high_off_page : List ModuleValue → ℕ → Fixup → Bool
is_high_off_page modules number f = is_high f.field && is_off_page modules number f.target

abbrev pub has_high_off_page : List ModuleValue → ℕ → List ContentValue → Bool
has_high_off_page modules number contents = list_any (λ c. list_any (is_high_off_page modules number) c.fixups) contents

abbrev pub any_high_off_page : List ModuleValue → Bool
any_high_off_page modules = list_any (λ m. has_high_off_page modules m.0 m.1.contents) (enumerate_from 0 modules)

abbrev pub high_not_paged : List ModuleValue → Option LinkFault
high_not_paged modules = if any_high_off_page modules then Some HighNotPaged else None

-- ids from 6 to 254 are 249
abbrev pub too_many_commons : List ModuleValue → Option LinkFault
too_many_commons modules = if nat_lt 249 (length (common_names modules)) then Some TooManyCommons else None

-- the indices of externals are words
abbrev pub too_many_externals : List ModuleValue → Option LinkFault
too_many_externals modules = if nat_lt 65536 (length (unresolved modules)) then Some TooManyExternals else None

-- the first of them that holds
abbrev pub link_fault : List ModuleValue → Option LinkFault
link_fault modules =
    option_or (duplicate_public modules)
    (option_or (segment_too_long modules)
    (option_or (two_mains modules)
    (option_or (high_not_paged modules)
    (option_or (too_many_commons modules)
    (too_many_externals modules)))))
