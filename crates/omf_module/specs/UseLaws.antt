-- When the records of a module use nothing that isn't there, in the words of the rules. (It follows from the definitions.)
use Rattle.std.specs.Prelude.{◌≡◌, ◌↔◌, ℕ, Bool, not, ◌||◌, None, List, [], IsTrue}
use Rattle.std.specs.List.{list_all, list_any}
use Rattle.omf_model.specs.declared.symbols.Common.{Common}
use Rattle.omf_module.specs.declared.module_file.PlacedBody.{PlacedBody}
use Rattle.omf_model.specs.Segments.{has_segment}
use Rattle.omf_model.specs.Rules.{each_after, keeps_rules}
use Rattle.omf_module.specs.Records.{ModuleRecords, SpellsModuleRecords, commons_of}
use Rattle.omf_module.specs.Gathered.{begins_content, parts_of}
use Rattle.omf_module.specs.Uses.{ids_in, is_reference, use_fault}

-- the segments that a record speaks of are there, also if it has no entries
abbrev pub has_its_segments : List Common → PlacedBody → Bool
has_its_segments commons p = list_all (has_segment commons) (ids_in p.body)

-- a content stands before the record, or it is none of fixups
abbrev pub is_after_content : List PlacedBody → PlacedBody → Bool
is_after_content before p = list_any (λ q. begins_content q.body) before || not (is_reference p.body)

-- All that the records use is there: what they say keeps the rules. Two things can't be seen in what they say, so they stand
-- apart: the segment of a record that has no entries, and fixups before the first content.
pub record UsesAreThere (r : ModuleRecords) : Type 0 where
  pub rules : IsTrue (keeps_rules (parts_of r))
  pub segments : IsTrue (list_all (has_its_segments (commons_of r.within)) r.within)
  pub contents : IsTrue (each_after is_after_content [] r.within)

-- The records of a module have no fault of use exactly where all that they use is there.
abbrev pub NoFaultExactlyWhereUsesAreThere : Type 0
NoFaultExactlyWhereUsesAreThere = (bytes : List ℕ) (after : ℕ) (r : ModuleRecords) → SpellsModuleRecords bytes after r
    → (use_fault r ≡ None ↔ UsesAreThere r)
