use Rattle.plm80_regions.proofs.Names.{ℕ, List, [], ◌∷◌, ◌∙◌, ap, arith, refl, subst, sym, DeclaredCase, Located, Areas, cases_text, AddsCases, CanBeAdded}
use Rattle.plm80_regions.proofs.Names.{behind_file, prints, notes_status}
use Rattle.plm80_regions.proofs.FoundLemmas.{finds_can_be_added}
use Rattle.plm80_regions.proofs.cases.added_cases.Goals as goal

pub regions_with_cases-requires : goal.regions_with_cases-requires
regions_with_cases-requires c =
    let cases = c.in_ok-kept.kept.cases.items in
    subst (λ (areas : Areas). CanBeAdded areas c.deref.result.now) (sym (ap (λ (i : Located). i.regions) c.image.view_is))
    (subst (CanBeAdded c.args.image.now.regions) (sym c.deref.ensures.value)
    (finds_can_be_added c.found_cases_can_be_added.ensures c.args.image.now [] cases c.in_ok-kept.kept.notes.items c.in_ok-kept.ensures.found))

pub returns : goal.returns
returns c =
    let cases = c.in_ok-kept.kept.cases.items in
    let text = c.in_ok-text.text.items in
    record {
      cases = cases;
      notes = c.in_ok-kept.kept.notes.items;
      found = c.in_ok-kept.ensures.found;
      files = record { path = c.args.path.now; bytes = text } ∷ [];
      added = (
        text,
        subst (λ (areas : Areas). AddsCases areas cases text) (ap (λ (i : Located). i.regions) c.image.view_is)
            (subst (λ (ks : List DeclaredCase). AddsCases c.image.inside.regions ks text) c.deref.ensures.value c.in_ok-text.ensures),
        omega (arith, c.if-len-gt-TEXT_LIMIT.false, c.len.ensures, c.in_ok-text.text.ok.0),
        refl,
      );
      answer_is = c.behind_file.ensures ∙ ap (behind_file c.args.path.now text)
          (c.prints.ensures ∙ ap (λ (l : List ℕ). prints l c.notes_status-status.result) c.in_ok-kept.ensures.lines
          ∙ ap (λ (n : ℕ). prints (cases_text cases) n) (c.notes_status-status.ensures ∙ ap notes_status c.deref-2.ensures.value));
    }
