use Rattle.plm80_regions.proofs.Names.{◌≡◌, ◌≤◌, List, length, ◌∙◌, ap, subst, Located, Note, IsSuggestion, regions_text, text_limit, with_regions, prints}
use Rattle.plm80_regions.proofs.Names.{ℕ, Option, Areas, Setter, notes_status}
use Rattle.std.specs.Prelude.{IfErr, IfNone, IfSome}
use Rattle.std.proofs.Common.{refl, rules}
use Rattle.std.proofs.lemmas.Result.{IfErr-weaker}
use Rattle.image80.specs.Regions.{in_code}
use Rattle.verify80_suggest.specs.Known.{FitsIn}
use Rattle.plm80_regions.specs.Suggest.{IsUnfit, advice_fault}
use Rattle.plm80_regions.specs.declared.suggest.AdviceFault.TheVariants.{Memory}
use Rattle.plm80_regions.proofs.OptionLemmas.{base_fits, fits_base, of_length}
use Rattle.verify80_suggest.specs.declared.known.Known.{Known}
use Rattle.plm80_regions.proofs.suggest.advise.Goals as goal

-- what is suggested of an image doesn't depend on the regions that it has
of_any_regions : (image : Located) (areas : Areas) (known : Known) (first second : Option Setter) (tableless : List ℕ)
    (notes : List Note) (new : Located) → IsSuggestion (with_regions image areas) known first second tableless notes new
    → IsSuggestion image known first second tableless notes new
of_any_regions image areas known first second tableless notes new s = record {
  base = s.base;
  is_base = s.is_base;
  base_cases = s.base_cases;
  tabled = s.tabled;
  suggested = s.suggested;
  cases = s.cases;
  joined = s.joined;
  by_address = s.by_address;
  found = s.found;
  is_found = s.is_found;
  is_first = s.is_first;
  is_second = s.is_second;
  least = s.least;
  is_least = s.is_least;
  wanted = s.wanted;
  is_wanted = s.is_wanted;
  arranged = s.arranged;
  same = s.same;
}

pub returns-clause-advised : goal.returns-clause-advised
returns-clause-advised c =
    let known = c.args.known in
    let areas = c.in_ok-image-inside.field-0 in
    let advice = c.in_ok-advice.advice in
    let new = c.suggest_regions.new.image in
    let found = subst
    (λ o. IfNone o (FitsIn (in_code areas) (with_regions c.args.image.now areas) known.entries.now known.cases.now)) c.in_default.is
    (subst (λ (i : Located). IfNone c.in_ok-fault.field-0 (FitsIn (in_code areas) (with_regions i areas) known.entries.now known.cases.now)) c.image.view_is
    c.in_ok-fault.ensures.fits) in
    record {
      new = new;
      suggested = of_any_regions c.args.image.now areas known advice.first advice.second advice.tableless.items advice.notes.items new
          (subst (λ (i : Located). IsSuggestion (with_regions i areas) known advice.first advice.second advice.tableless.items advice.notes.items new)
          c.image.view_is c.in_ok-advice.ensures);
      fits = fits_base (with_regions c.args.image.now areas) c.args.image.now areas known.rom.now known.entries.now known.cases.now
          c.in_ok-image-inside.ensures.code refl found;
      within = subst (λ (i : Located). length (regions_text i.regions) ≤ text_limit) c.image-2.view_is c.in_ok-answer.ensures.within;
      answer_is = c.in_ok-answer.ensures.answer
          ∙ ap (λ (i : Located). prints (regions_text i.regions) (notes_status c.deref.result.now)) c.image-2.view_is
          ∙ ap (λ (notes : List Note). prints (regions_text new.regions) (notes_status notes)) c.deref.ensures.value;
    }

pub returns-in-Some-clause-unfit : goal.returns-in-Some-clause-unfit
returns-in-Some-clause-unfit c = λ _ fits.
    let known = c.args.known in
    let areas = c.in_ok-image-inside.field-0 in
    let lacks = subst
    (λ o. IfSome o (λ _. FitsIn (in_code areas) (with_regions c.args.image.now areas) known.entries.now known.cases.now → ⊥)) c.in-Some.is
    (subst (λ (i : Located). IfSome c.in_ok-fault.field-0 (λ _. FitsIn (in_code areas) (with_regions i areas) known.entries.now known.cases.now → ⊥))
    c.image.view_is c.in_ok-fault.ensures.unfit) in
    lacks
    (base_fits (with_regions c.args.image.now areas) c.args.image.now areas known.rom.now known.entries.now known.cases.now
    c.in_ok-image-inside.ensures.code refl fits)

pub returns-in_err-advice-clause-unfit : goal.returns-in_err-advice-clause-unfit
returns-in_err-advice-clause-unfit c =
    let memory : IfErr c.from_residual-in_err-advice.result (λ fault. fault ≡ Memory) = search rules in
    IfErr-weaker c.from_residual-in_err-advice.result _ _ (λ fault is unfit. absurd (subst IsUnfit is unfit)) memory

pub returns-in_err-answer-clause-unfit : goal.returns-in_err-answer-clause-unfit
returns-in_err-answer-clause-unfit c =
    let length : IfErr c.from_residual-in_err-answer.result (λ fault. fault ≡ advice_fault c.in_err-answer.field-0.0) = search rules in
    IfErr-weaker c.from_residual-in_err-answer.result _ _ (λ fault is unfit. absurd (of_length c.in_err-answer.field-0.0 (subst IsUnfit is unfit))) length
