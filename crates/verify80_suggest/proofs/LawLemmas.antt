-- The code that is suggested.
use Rattle.std.proofs.Common.{◌≡◌, ◌<◌, ℕ, Bool, true, false, true≢false, List, refl, sym, ◌∙◌, arith}
use Rattle.std.specs.Prelude.{◌&&◌, nat_lt, Option}
use Rattle.std.proofs.lemmas.Bool.Decides.{nat_tests}
use Rattle.std.specs.Prelude.{◌++◌, Contains}
use Rattle.std.proofs.lemmas.List.Elements.{Contains-append_left}
use Rattle.std.proofs.lemmas.List.Sorted.{Contains-permutation}
use Rattle.std.proofs.Common.{subst}
use Rattle.image80.specs.Case.{DeclaredCase}
use Rattle.image80.specs.Image.{Located}
use Rattle.image80.specs.Range.{in_ranges}
use Rattle.image80.specs.Regions.{in_code}
use Rattle.verify80_suggest.specs.declared.known.Known.{Known}
use Rattle.verify80_suggest.specs.declared.setters.Setter.{Setter}
use Rattle.verify80_suggest.specs.Bytes.{may_be_code}
use Rattle.verify80_cases.specs.declared.search.Note.{Note}
use Rattle.verify80_cases.specs.Marks.{marked}
use Rattle.verify80_suggest.specs.Suggestion.{IsSuggestion, with_regions}
use Rattle.verify80_suggest.proofs.TableLemmas.{found_code}

both : (a b : Bool) → (a && b) ≡ true → (a ≡ true) × (b ≡ true)
both true b e = (refl, e)
both false b e = absurd (true≢false (sym e))

pub code_inside : (image : Located) (known : Known) (first second : Option Setter) (tableless : List ℕ) (notes : List Note) (new : Located) →
    IsSuggestion image known first second tableless notes new → (address : ℕ) → in_code new.regions address ≡ true → may_be_code image.chunks known.rom.now address ≡ true
code_inside image known first second tableless notes new is address here =
    let parts = both (nat_lt address 65536) (marked is.found.code address) (sym (is.arranged.code.exact address) ∙ here) in
    let low : address < 65536 = below parts.0 in
    let seen = with_regions image (record is.base { cases = is.cases }) in
    let code : in_ranges is.base.code address ≡ true = found_code seen known.entries.now known.ram.now is.found is.is_found address low parts.1 in
    (both (nat_lt address 65536) (may_be_code image.chunks known.rom.now address) (sym (is.is_base.exact address) ∙ code)).1
  where
    below : nat_lt address 65536 ≡ true → address < 65536
    below e = grind (arith, nat_tests)

-- the cases that are known are among those that are suggested
pub cases_stand : (image : Located) (known : Known) (first second : Option Setter) (tableless : List ℕ) (notes : List Note) (new : Located) →
    IsSuggestion image known first second tableless notes new → (case : DeclaredCase) → Contains known.cases.now case → Contains new.regions.cases case
cases_stand image known first second tableless notes new is case has =
    subst (λ cases. Contains cases case) (sym is.arranged.cases)
    (Contains-permutation (known.cases.now ++ is.tabled) is.cases case is.joined (Contains-append_left known.cases.now is.tabled case has))
