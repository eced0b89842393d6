use Rattle.std.proofs.Common.{◌≡◌, ◌∙◌, ap, refl, subst, sym}
use Rattle.std.proofs.lemmas.Result.{IfOk-from_err}
use Rattle.std.specs.Prelude.{All, ◌++◌, IsPermutation}
use Rattle.image80.specs.Case.{AreByAddress, IsCase}
use Rattle.image80.specs.Image.{Located}
use Rattle.image80.specs.Regions.{Areas}
use Rattle.verify80_cases.specs.Suggested.{AreSuggested}
use Rattle.verify80_suggest.specs.Bytes.{may_be_code}
use Rattle.verify80_suggest.proofs.OrderLemmas.{AreApart, all_apart, each_joined}
use Rattle.verify80_suggest.specs.Ranges.{Covers}
use Rattle.verify80_suggest.specs.Suggestion.{Found, IsArranged, IsFound, IsSuggestion, IsWanted, with_regions}
use Rattle.verify80_suggest.proofs.suggesting.suggest_regions.Goals as goal

pub with_cases-requires-2-clause-by_address : goal.with_cases-requires-2-clause-by_address
with_cases-requires-2-clause-by_address c = subst AreByAddress (sym c.deref-2.ensures.value) c.in_ok-cases.ensures.by_address

pub arrange-requires-clause-by_address : goal.arrange-requires-clause-by_address
arrange-requires-clause-by_address c = subst AreByAddress (sym c.deref-3.ensures.value) c.in_ok-cases.ensures.by_address

pub arrange-requires-2-clause-by_address : goal.arrange-requires-2-clause-by_address
arrange-requires-2-clause-by_address c = subst AreByAddress (sym c.deref-4.ensures.value) c.in_ok-cases.ensures.by_address

pub joined-requires : goal.joined-requires
joined-requires c =
    let given = c.args.known.cases.now in
    let tabled = c.in_ok-found.found.cases.items in
    subst (λ ks. AreApart (given ++ ks)) (sym c.deref.ensures.value)
    (all_apart c.in_ok-image-inside.field-0 given tabled (ap (λ (r : Areas). r.cases) c.in_ok-image-inside.ensures) c.requires.by_address c.in_ok-found.ensures.can_be_added)

pub with_cases-requires-2-clause-each : goal.with_cases-requires-2-clause-each
with_cases-requires-2-clause-each c =
    let tabled = c.in_ok-found.found.cases.items in
    let cases = c.in_ok-cases.cases.items in
    subst (All IsCase) (sym c.deref-2.ensures.value)
    (each_joined c.args.known.cases.now tabled cases c.requires.each c.in_ok-found.ensures.can_be_added.each
    (subst (λ ks. IsPermutation (c.args.known.cases.now ++ ks) cases) c.deref.ensures.value c.in_ok-cases.ensures.permutation))

pub arrange-requires-clause-each : goal.arrange-requires-clause-each
arrange-requires-clause-each c =
    let tabled = c.in_ok-found.found.cases.items in
    let cases = c.in_ok-cases.cases.items in
    subst (All IsCase) (sym c.deref-3.ensures.value)
    (each_joined c.args.known.cases.now tabled cases c.requires.each c.in_ok-found.ensures.can_be_added.each
    (subst (λ ks. IsPermutation (c.args.known.cases.now ++ ks) cases) c.deref.ensures.value c.in_ok-cases.ensures.permutation))

pub arrange-requires-2-clause-each : goal.arrange-requires-2-clause-each
arrange-requires-2-clause-each c =
    let tabled = c.in_ok-found.found.cases.items in
    let cases = c.in_ok-cases.cases.items in
    subst (All IsCase) (sym c.deref-4.ensures.value)
    (each_joined c.args.known.cases.now tabled cases c.requires.each c.in_ok-found.ensures.can_be_added.each
    (subst (λ ks. IsPermutation (c.args.known.cases.now ++ ks) cases) c.deref.ensures.value c.in_ok-cases.ensures.permutation))

pub returns-in_err-image-inside-4 : goal.returns-in_err-image-inside-4
returns-in_err-image-inside-4 c = IfOk-from_err c.from_residual-in_err-image-inside-4.result _ c.from_residual-in_err-image-inside-4.ensures.0

pub returns : goal.returns
returns c =
    let known = c.args.known in
    let given = known.cases.now in
    let rom = known.rom.now in
    let ram = known.ram.now in
    let bare = c.in_ok-base.base in
    let base = c.in_ok-image-inside.field-0 in
    let tabled = c.in_ok-found.found.cases.items in
    let tableless = c.in_ok-found.found.tableless.items in
    let notes = c.in_ok-found.found.notes.items in
    let cases = c.in_ok-cases.cases.items in
    let final = c.in_ok-image-inside-4.field-0 in
    let least = c.in_ok-image-inside-3.field-0 in
    let wanted = c.in_ok-wanted.wanted in
    let survey = c.in_ok-survey.survey in
    let begun : base ≡ record bare { cases = given } = c.in_ok-image-inside.ensures in
    let made : c.in_ok-image-inside-2.field-0 ≡ record base { cases = cases } =
    c.in_ok-image-inside-2.ensures ∙ ap (λ ks. record bare { cases = ks }) c.deref-2.ensures.value ∙ sym (ap (λ (r : Areas). record r { cases = cases }) begun) in
    let suggested : (i : Located) → i ≡ c.args.image.now → AreSuggested (with_regions i base) known.entries.now tabled tableless notes =
    λ i is. subst (λ (v : Located). AreSuggested (with_regions v base) known.entries.now tabled tableless notes) (c.image.view_is ∙ sym is) c.in_ok-found.ensures.suggested in
    let is_found : IsFound (with_regions c.args.image.now (record base { cases = cases })) known.entries.now ram survey =
    subst (λ (v : Located). IsFound (with_regions v (record base { cases = cases })) known.entries.now ram survey) c.image.view_is
    (subst (λ (r : Areas). IsFound (record { name = c.image.inside.name; chunks = c.image.inside.chunks.items; regions = r; start = c.image.inside.start }) known.entries.now ram survey) made c.in_ok-survey.ensures) in
    let is_least : IsArranged survey cases ram 16 least = subst (λ ks. IsArranged survey ks ram 16 least) c.deref-3.ensures.value c.in_ok-image-inside-3.ensures in
    let is_wanted : IsWanted (with_regions c.args.image.now least) wanted =
    subst (λ (v : Located). IsWanted (with_regions v least) wanted) c.image.view_is c.in_ok-wanted.ensures in
    let arranged : IsArranged survey cases ram wanted final = subst (λ ks. IsArranged survey ks ram wanted final) c.deref-4.ensures.value c.in_ok-image-inside-4.ensures in
    subst (λ (v : Located). IsSuggestion c.args.image.now known c.survey.inside.first c.survey.inside.second tableless notes (with_regions v final)) (sym c.image.view_is)
    (record {
      base = base;
      is_base = subst (λ (r : Areas). Covers (may_be_code c.args.image.now.chunks rom) r.code) (sym begun) c.in_ok-base.ensures.code;
      base_cases = ap (λ (r : Areas). r.cases) begun;
      tabled = tabled;
      suggested = suggested c.args.image.now refl;
      cases = cases;
      joined = subst (λ ks. IsPermutation (given ++ ks) cases) c.deref.ensures.value c.in_ok-cases.ensures.permutation;
      by_address = c.in_ok-cases.ensures.by_address;
      found = survey;
      is_found = is_found;
      is_first = ap (λ (f : Found). f.first) c.survey.view_is;
      is_second = ap (λ (f : Found). f.second) c.survey.view_is;
      least = least;
      is_least = is_least;
      wanted = wanted;
      is_wanted = is_wanted;
      arranged = arranged;
      same = refl;
    })
