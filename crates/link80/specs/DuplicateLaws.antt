-- The duplicate that LINK reports, in other words: the first public whose name some earlier public has. (It follows from the
-- definitions.)
use Rattle.std.specs.Prelude.{◌≡◌, ◌↔◌, ℕ, Bool, not, None, Some, List, [], ◌∷◌, ◌++◌, IsTrue}
use Rattle.omf_model.specs.declared.symbols.Public.{Public}
use Rattle.omf_model.specs.Modules.{ModuleValue}
use Rattle.omf_model.specs.Rules.{each_after}
use Rattle.link80.specs.declared.fault.LinkFault.TheVariants.{DuplicatePublic}
use Rattle.link80.specs.Linked.{linked_publics}
use Rattle.link80.specs.LinkFault.{is_declared, first_again, duplicate_public}

-- no earlier public has the name of this one
abbrev pub has_new_name : List Public → Public → Bool
has_new_name earlier p = not (is_declared earlier p.name)

-- the name of a public that some earlier one has, and this is the first public of which that holds
pub record IsFirstAgain (publics : List Public) (name : List ℕ) : Type 0 where
  pub earlier : List Public
  pub again : Public
  pub later : List Public
  pub whole : publics ≡ earlier ++ again ∷ later
  pub named : again.name ≡ name
  pub declared : IsTrue (is_declared earlier again.name)
  pub others : IsTrue (each_after has_new_name [] earlier)

-- A name is answered exactly where it is that of the first public whose name some earlier one has, and none is exactly where
-- no public has the name of an earlier one.
abbrev pub FirstAgainIsTheFirst : Type 0
FirstAgainIsTheFirst = (publics : List Public) (name : List ℕ) → first_again [] publics ≡ Some name ↔ IsFirstAgain publics name

abbrev pub NoneAgainWhereAllAreNew : Type 0
NoneAgainWhereAllAreNew = (publics : List Public) → first_again [] publics ≡ None ↔ IsTrue (each_after has_new_name [] publics)

-- So it is of LINK's fault.
abbrev pub DuplicateIsTheFirst : Type 0
DuplicateIsTheFirst = (modules : List ModuleValue) (name : List ℕ)
    → duplicate_public modules ≡ Some (DuplicatePublic name) ↔ IsFirstAgain (linked_publics modules) name
