-- What LINK keeps of modules while it links them.
use Rattle.std.specs.Prelude.{◌≡◌, ℕ, None, List, map}
use Rattle.omf_model.specs.declared.symbols.Public.{Public}
use Rattle.omf_model.specs.Modules.{ModuleValue}
use Rattle.link80.specs.Linked.{linked_publics, unresolved}
use Rattle.link80.specs.LinkFault.{segment_too_long, too_many_externals}

-- the names of the publics and the publics, by their numbers, and the names that no module declares
pub record AreSymbolTables (modules : List ModuleValue) (declared : List (List ℕ)) (publics : List Public)
    (undeclared names : List (List ℕ)) : Type 0 where
  pub declared_are : declared ≡ map (λ p. p.name) (linked_publics modules)
  pub publics_are : publics ≡ linked_publics modules
  pub undeclared_are : undeclared ≡ unresolved modules
  pub names_are : names ≡ unresolved modules
  pub externals_fit : too_many_externals modules ≡ None
  pub segments_fit : segment_too_long modules ≡ None
