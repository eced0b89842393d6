-- All records of a module are looked at: header, those within, end.
use Rattle.std.proofs.Common.{◌≡◌, inl, inr, ℕ, Option, Some, None, List, [], map, sym, ap, subst, ◌∙◌}
use Rattle.std.specs.Prelude.{option_map}
use Rattle.std.specs.List.{flat_map}
use Rattle.std.specs.Option.{option_or, option_to_list}
use Rattle.omf_module.specs.declared.fault.Cause.{Cause}
use Rattle.omf_module.specs.declared.fault.ModuleFault.{ModuleFault}
use Rattle.omf_module.specs.declared.module_file.PlacedBody.{PlacedBody}
use Rattle.omf_model.specs.declared.symbols.Common.{Common}
use Rattle.omf_module.specs.Fault.{fault_of}
use Rattle.omf_model.specs.Contents.{ContentValue}
use Rattle.omf_model.specs.Modules.{ModuleValue}
use Rattle.omf_module.specs.Records.{ModuleRecords, SpellsModuleRecords, commons_of}
use Rattle.omf_module.specs.Gathered.{segments_in, publics_in, externals_in, start_in, contents_from, parts_of}
use Rattle.omf_module.specs.Uses.{unknown_id, bodies_fault, fault_by, end_fault, use_fault}
use Rattle.omf_module.specs.Spelled.{FaultsModule, in_uses}
use Rattle.omf_module.specs.Reading.{with_contents, OrNoMemory}
use Rattle.omf_module.proofs.WithinLemmas.{by_cause}

-- what records say, but for their contents
abbrev pub draft_of : ModuleRecords → ModuleValue
draft_of r = with_contents (parts_of r) []

-- the same, from what was read
abbrev pub draft_by : ModuleRecords → List Common → List PlacedBody → ModuleValue
draft_by r commons bodies = record {
  name = r.header.name;
  segments = segments_in r.header;
  commons = commons;
  publics = flat_map (λ p. publics_in p.body) bodies;
  externals = flat_map (λ p. externals_in p.body) bodies;
  contents = [];
  start = start_in r.end;
}

pub drafted : (r : ModuleRecords) (p : ModuleValue) (commons : List Common) (bodies : List PlacedBody)
    → p ≡ draft_by r commons bodies → commons ≡ commons_of r.within → bodies ≡ r.within → p ≡ draft_of r
drafted r p commons bodies is c b = is
    ∙ (ap (λ (x : List Common). draft_by r x bodies) c ∙ ap (λ (x : List PlacedBody). draft_by r (commons_of r.within) x) b)

abbrev header_ids : ModuleRecords → List ℕ
header_ids r = map (λ e. e.id) r.header.segments

abbrev start_ids : ModuleRecords → List ℕ
start_ids r = option_to_list (option_map (λ place. place.segment) r.end.start)

-- what holds whatever contents are added holds of the parts
whole : {A : Type 0} (f : ModuleValue → A) (r : ModuleRecords) (p : ModuleValue) (a : A) → p ≡ draft_of r
    → ((cs : List ContentValue) → f (with_contents p cs) ≡ a) → f (parts_of r) ≡ a
whole f r p a is e = subst (λ (q : ModuleValue). f (with_contents q (contents_from None r.within)) ≡ a) is
    (e (contents_from None r.within))

pub header_refused : (r : ModuleRecords) (p : ModuleValue) (why : Cause) → p ≡ draft_of r
    → ((cs : List ContentValue) → Some why ≡ unknown_id (with_contents p cs) (header_ids r))
    → OrNoMemory (λ fault. use_fault r ≡ Some fault) (fault_of r.at why)
header_refused r p why is e =
    by_cause (λ (fault : ModuleFault). use_fault r ≡ Some fault) r.at why
    (λ _. rw (whole (λ (m : ModuleValue). unknown_id m (header_ids r)) r p (Some why) is (λ cs. sym (e cs))))

past_header : (r : ModuleRecords) (p : ModuleValue) → p ≡ draft_of r
    → ((cs : List ContentValue) → None ≡ unknown_id (with_contents p cs) (header_ids r))
    → use_fault r ≡ option_or (bodies_fault (parts_of r) None r.within) (end_fault (parts_of r) r)
past_header r p is e = rw (whole (λ (m : ModuleValue). unknown_id m (header_ids r)) r p None is (λ cs. sym (e cs)))

pub contents_refused : (r : ModuleRecords) (p : ModuleValue) (fault : ModuleFault) → p ≡ draft_of r
    → ((cs : List ContentValue) → None ≡ unknown_id (with_contents p cs) (header_ids r))
    → OrNoMemory (λ fault. (cs : List ContentValue) → bodies_fault (with_contents p cs) None r.within ≡ Some fault) fault
    → OrNoMemory (λ fault. use_fault r ≡ Some fault) fault
contents_refused r p fault is header (inl none) = inl none
contents_refused r p fault is header (inr e) = inr (past_header r p is header
    ∙ ap (λ (o : Option ModuleFault). option_or o (end_fault (parts_of r) r))
    (whole (λ (m : ModuleValue). bodies_fault m None r.within) r p (Some fault) is e))

past_contents : (r : ModuleRecords) (p : ModuleValue) → p ≡ draft_of r
    → ((cs : List ContentValue) → None ≡ unknown_id (with_contents p cs) (header_ids r))
    → ((cs : List ContentValue) → bodies_fault (with_contents p cs) None r.within ≡ None) → use_fault r ≡ end_fault (parts_of r) r
past_contents r p is header bodies = past_header r p is header
    ∙ ap (λ (o : Option ModuleFault). option_or o (end_fault (parts_of r) r))
    (whole (λ (m : ModuleValue). bodies_fault m None r.within) r p None is bodies)

pub start_refused : (r : ModuleRecords) (p : ModuleValue) (why : Cause) → p ≡ draft_of r
    → ((cs : List ContentValue) → None ≡ unknown_id (with_contents p cs) (header_ids r))
    → ((cs : List ContentValue) → bodies_fault (with_contents p cs) None r.within ≡ None)
    → ((cs : List ContentValue) → Some why ≡ unknown_id (with_contents p cs) (start_ids r))
    → OrNoMemory (λ fault. use_fault r ≡ Some fault) (fault_of r.end_at why)
start_refused r p why is header bodies e = by_cause (λ (fault : ModuleFault). use_fault r ≡ Some fault) r.end_at why (λ _.
    past_contents r p is header bodies
    ∙ ap (λ (o : Option Cause). option_map (fault_by r.end_at) o)
    (whole (λ (m : ModuleValue). unknown_id m (start_ids r)) r p (Some why) is (λ cs. sym (e cs))))

pub all_used : (r : ModuleRecords) (p : ModuleValue) → p ≡ draft_of r
    → ((cs : List ContentValue) → None ≡ unknown_id (with_contents p cs) (header_ids r))
    → ((cs : List ContentValue) → bodies_fault (with_contents p cs) None r.within ≡ None)
    → ((cs : List ContentValue) → None ≡ unknown_id (with_contents p cs) (start_ids r))
    → use_fault r ≡ None
all_used r p is header bodies e =
    past_contents r p is header bodies
    ∙ ap (λ (o : Option Cause). option_map (fault_by r.end_at) o)
    (whole (λ (m : ModuleValue). unknown_id m (start_ids r)) r p None is (λ cs. sym (e cs)))

-- what goes wrong in the uses of a module's records goes wrong in the module
pub uses_then : (bytes : List ℕ) (at after : ℕ) (r : ModuleRecords) (fault : ModuleFault)
    → r.at ≡ at → SpellsModuleRecords bytes after r → OrNoMemory (λ fault. use_fault r ≡ Some fault) fault
    → OrNoMemory (FaultsModule bytes at) fault
uses_then bytes at after r fault begins s (inl none) = inl none
uses_then bytes at after r fault begins s (inr e) = inr (in_uses after r fault begins s e)
