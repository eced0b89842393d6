-- What a refusal says of a program, by what was asked of its frames.
use Rattle.std.specs.Prelude.{◌≡◌, Bool, true, false, refl, Result, Ok, Err, IfErr}
use Rattle.std.proofs.Common.{ap, sym, subst, ◌∙◌, true≢false}
use Rattle.verify80_flow.specs.declared.refusal.Refusal.{Refusal}
use Rattle.verify80_flow.specs.declared.refusal.Refusal.TheVariants.{FetchOutside, UnusedOpcode, EnablesInterrupts, Sphl, Pchl, StackByByte, SetsStack}
use Rattle.verify80_flow.specs.declared.refusal.Refusal.TheVariants.{DirectStore, PopsBelow, ReturnFromMain, HeightsDiffer, UnevenArguments}
use Rattle.verify80_flow.specs.declared.refusal.Refusal.TheVariants.{ShortArguments, Recursion, StackTooSmall, ReturnNotOwn, TooManyPoints, Memory}
use Rattle.frames80.specs.Code.{Code}
use Rattle.verify80_flow.specs.Refusal.{rests_on_a_word}
use Rattle.verify80_flow.specs.Faults.{HoldsAnyway}
use Rattle.verify80_flow.specs.Known.{Known, Refused, is_exact, nothing_known}

-- one that doesn't rest on a word holds, whatever was asked
pub holds_by_counts : (exact : Bool) (code : Code) (refusal : Refusal) → rests_on_a_word refusal ≡ false → Refused exact code refusal → HoldsAnyway code refusal
holds_by_counts exact code (FetchOutside at) counts holds = holds
holds_by_counts exact code (UnusedOpcode at) counts holds = holds
holds_by_counts exact code (EnablesInterrupts at) counts holds = holds
holds_by_counts exact code (Sphl at) counts holds = holds
holds_by_counts exact code (Pchl at) counts holds = holds
holds_by_counts exact code (StackByByte at) counts holds = holds
holds_by_counts exact code (SetsStack at) counts holds = holds
holds_by_counts exact code (DirectStore at) counts holds = holds
holds_by_counts exact code (PopsBelow at) counts holds = holds
holds_by_counts exact code (ReturnFromMain at) counts holds = holds
holds_by_counts exact code (HeightsDiffer at) counts holds = holds
holds_by_counts exact code (UnevenArguments at) counts holds = holds
holds_by_counts exact code (ShortArguments at) counts holds = holds
holds_by_counts exact code (Recursion at) counts holds = holds
holds_by_counts exact code (StackTooSmall need has) counts holds = holds
holds_by_counts exact code (ReturnNotOwn at) counts holds = absurd (true≢false counts)
holds_by_counts exact code TooManyPoints counts holds = holds
holds_by_counts exact code Memory counts holds = holds

-- each holds if everything was asked
pub holds_exactly : (code : Code) (refusal : Refusal) → Refused true code refusal → HoldsAnyway code refusal
holds_exactly code (FetchOutside at) holds = holds
holds_exactly code (UnusedOpcode at) holds = holds
holds_exactly code (EnablesInterrupts at) holds = holds
holds_exactly code (Sphl at) holds = holds
holds_exactly code (Pchl at) holds = holds
holds_exactly code (StackByByte at) holds = holds
holds_exactly code (SetsStack at) holds = holds
holds_exactly code (DirectStore at) holds = holds
holds_exactly code (PopsBelow at) holds = holds
holds_exactly code (ReturnFromMain at) holds = holds
holds_exactly code (HeightsDiffer at) holds = holds
holds_exactly code (UnevenArguments at) holds = holds
holds_exactly code (ShortArguments at) holds = holds
holds_exactly code (Recursion at) holds = holds
holds_exactly code (StackTooSmall need has) holds = holds
holds_exactly code (ReturnNotOwn at) holds = holds refl
holds_exactly code TooManyPoints holds = holds
holds_exactly code Memory holds = holds

-- an empty table's frames forget as it was asked
pub nothing_is : (known : Known) (forgets : Bool) → known ≡ nothing_known forgets → known ≡ nothing_known known.forgets
nothing_is known forgets is = is ∙ ap nothing_known (sym (ap (λ (k : Known). k.forgets) is))

pub answers_exactly : {A : Type 0} (code : Code) (result : Result A Refusal) → IfErr result (Refused true code) → IfErr result (HoldsAnyway code)
answers_exactly code (Ok answer) refused = tt
answers_exactly code (Err refusal) refused = holds_exactly code refusal refused

pub answers_of : {A : Type 0} (code : Code) (known : Known) (forgets : Bool) (result : Result A Refusal) → known ≡ nothing_known forgets →
    IfErr result (Refused (is_exact known.forgets) code) → IfErr result (Refused (is_exact forgets) code)
answers_of code known forgets result is refused = subst (λ (f : Bool). IfErr result (Refused (is_exact f) code)) (ap (λ (k : Known). k.forgets) is) refused
