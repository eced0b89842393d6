use Rattle.std.specs.Prelude.{◌≡◌, ◌<◌, ℕ, List, Option, map, is_some, is_none, length, slice_get, refl}
use Rattle.std.proofs.Common.{◌∙◌, ap, sym, arith, true≢false}
use Rattle.std.proofs.lemmas.Option.{slice_get_read}
use Rattle.omf_model.specs.declared.symbols.Public.{Public}
use Rattle.omf_model.specs.Modules.{ModuleValue}
use Rattle.link80.specs.FirstSight.{number_in}
use Rattle.link80.specs.Linked.{linked_publics, unresolved}
use Rattle.link80.specs.SymbolTables.{AreSymbolTables}
use Rattle.link80.proofs.UnresolvedLemmas.{borne, not_borne, left_open, is_unresolved, map_length}
use Rattle.link80.proofs.symbol_tables.SymbolTables.reference_to.Goals as goal

-- the number of a name in the tables of these modules
number_is : (modules joined : List ModuleValue) (declared : List (List ℕ)) (publics : List Public)
    (undeclared names : List (List ℕ)) (name : List ℕ) (number : Option ℕ) →
    joined ≡ modules → AreSymbolTables joined declared publics undeclared names → number ≡ number_in declared name
    → number_in (map (λ (p : Public). p.name) (linked_publics modules)) name ≡ number
number_is modules joined declared publics undeclared names name number same tables is =
    ap (λ l. number_in l name) (sym (tables.declared_are ∙ ap (λ ms. map (λ (p : Public). p.name) (linked_publics ms)) same))
    ∙ sym is

index_is : (modules joined : List ModuleValue) (declared : List (List ℕ)) (publics : List Public)
    (undeclared names : List (List ℕ)) (name : List ℕ) (number : Option ℕ) →
    joined ≡ modules → AreSymbolTables joined declared publics undeclared names → number ≡ number_in undeclared name
    → number_in (unresolved modules) name ≡ number
index_is modules joined declared publics undeclared names name number same tables is =
    ap (λ l. number_in l name) (sym (tables.undeclared_are ∙ ap unresolved same)) ∙ sym is

pub returns-in-Some : goal.returns-in-Some
returns-in-Some c =
    let modules : List ModuleValue = c.args.self.now in
    let number = number_is modules _ _ _ _ _ c.args.name.now c.number_of.result c.self.view_is c.self.invariant
    c.number_of.ensures.number ∙ c.in-Some.is in
    let publics_are : c.self.inside.publics.items ≡ linked_publics modules = c.self.invariant.publics_are
    ∙ ap linked_publics c.self.view_is in
    let names_are : c.self.inside.declared.now ≡ map (λ (p : Public). p.name) (linked_publics modules) =
    c.self.invariant.declared_are ∙ ap (λ ms. map (λ (p : Public). p.name) (linked_publics ms)) c.self.view_is in
    let within : c.in-Some.number < length c.self.inside.publics.items =
    omega (
      arith,
      c.in-Some.ensures.within,
      ap length names_are,
      map_length
          (linked_publics modules),
      ap length publics_are,
    ) in
    let at = slice_get_read c.self.inside.publics.items
    (length c.self.inside.publics.items) c.in-Some.number c.index-public.result.now refl within c.index-public.ensures in
    c.to_place.ensures ∙ sym
    (borne modules c.args.name.now c.in-Some.number c.index-public.result.now number
    (ap (λ ps. slice_get ps c.in-Some.number) (sym publics_are) ∙ at))

pub unreachable-requires : goal.unreachable-requires
unreachable-requires c =
    let modules : List ModuleValue = c.args.self.now in
    let number = number_is modules _ _ _ _ _ c.args.name.now c.number_of.result c.self.view_is c.self.invariant
    c.number_of.ensures.number ∙ c.in_default.is in
    let index = index_is modules _ _ _ _ _ c.args.name.now c.number_of-2.result c.self.view_is c.self.invariant
    c.number_of-2.ensures.number ∙ c.in-None.is in
    true≢false (sym (is_unresolved modules c.args.name.now c.requires (ap is_none (not_borne modules c.args.name.now number)))
    ∙ ap is_some index)

pub returns : goal.returns
returns c =
    let modules : List ModuleValue = c.args.self.now in
    let number = number_is modules _ _ _ _ _ c.args.name.now c.number_of.result c.self.view_is c.self.invariant
    c.number_of.ensures.number ∙ c.in_default.is in
    let index = index_is modules _ _ _ _ _ c.args.name.now c.number_of-2.result c.self.view_is c.self.invariant
    c.number_of-2.ensures.number ∙ c.in-Some-number_of.is in
    sym (left_open modules c.args.name.now c.in-Some-number_of.index (not_borne modules c.args.name.now number) index)
