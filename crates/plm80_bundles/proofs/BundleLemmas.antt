-- What was sent of a bundle, and printed.
use Rattle.std.proofs.Common.{◌≡◌, ℕ, ◌≤◌, List, [], Option, None, Some, Result, Ok, Err, IfErr, IfOk, length, inl, inr, ◌∙◌, ap, subst, sym}
use Rattle.loader80.specs.{Texts.Texts, declared.replies.Outcome.Outcome}
use Rattle.loader80.specs.declared.fault.SessionFault.TheVariants.{Read, Write, Image, Regions, Inputs, Refused, Memory, TooLong}
use Rattle.loader80_text.specs.{Bundle.BundleSends, Bundle.bundle_limit, BundleText.bundle_texts}
use Rattle.loader80_text.specs.declared.bundles.fault.BundleFault.{BundleFault, TheVariants.BadBundle, TheVariants.Session}
use Rattle.plm80_console.specs.Journal.{IsTakenBack, Journal, and_input, and_printed}
use Rattle.plm80_bundles.specs.Bundles.{GivesBundle, GivesUpBundle, IsBundleDone, SendsBundle}

-- bytes that were known stay known
stays_known : (texts : Option Texts) (said : Result Outcome BundleFault) → BundleSends 65536 1000000 texts said (Some []) None → ⊥
stays_known (Some t) (Ok o) sends = sends.appended
stays_known (Some t) (Err BadBundle) sends = sends
stays_known (Some t) (Err (Session (Read k))) sends = sends.1
stays_known (Some t) (Err (Session Write)) sends = sends.appended
stays_known (Some t) (Err (Session (Image f))) sends = sends.appended
stays_known (Some t) (Err (Session (Regions f))) sends = sends.appended
stays_known (Some t) (Err (Session (Inputs n))) sends = sends.appended
stays_known (Some t) (Err (Session (Refused r))) sends = sends.appended
stays_known (Some t) (Err (Session Memory)) sends = sends.appended
stays_known (Some t) (Err (Session (TooLong k))) sends = sends.appended
stays_known None (Ok o) sends = sends
stays_known None (Err BadBundle) sends = sends
stays_known None (Err (Session (Read k))) sends = sends.1
stays_known None (Err (Session Write)) sends = sends
stays_known None (Err (Session (Image f))) sends = sends
stays_known None (Err (Session (Regions f))) sends = sends
stays_known None (Err (Session (Inputs n))) sends = sends
stays_known None (Err (Session (Refused r))) sends = sends
stays_known None (Err (Session Memory)) sends = sends
stays_known None (Err (Session (TooLong k))) sends = sends

-- standard input was read, and what is sent of it was written to an output, which was taken back
pub sends_bundle : (text : List ℕ) (said : Result Outcome BundleFault) (before after : Option (List ℕ)) (old read lent between : Journal)
    → length text ≤ bundle_limit → read ≡ and_input old text → lent ≡ read → before ≡ Some []
    → BundleSends 65536 1000000 (bundle_texts text) said before after → IsTakenBack after lent between → SendsBundle said old between
sends_bundle text said before (Some bytes) old read lent between within were same empty sends taken = record {
  bytes = text;
  within = within;
  printed = bytes;
  sends = subst (λ (w : Option (List ℕ)). BundleSends 65536 1000000 (bundle_texts text) said w (Some bytes)) empty sends;
  journal = taken.1 ∙ ap (and_printed lent) (sym taken.2) ∙ ap (λ (j : Journal). and_printed j bytes) (same ∙ were);
}
sends_bundle text said before None old read lent between within were same empty sends taken =
    absurd (stays_known (bundle_texts text) said (subst (λ (w : Option (List ℕ)). BundleSends 65536 1000000 (bundle_texts text) said w None) empty sends))

-- a bundle that was run ends with the status of its answer, or with 2
pub bundle_done : {E : Type 0} (done : Result ℕ E) (status : ℕ) (old new : Journal) → IfOk done (GivesBundle old new)
    → IfErr done (λ _. GivesUpBundle old new) → IfOk done (λ given. status ≡ given) → IfErr done (λ _. status ≡ 2) → IsBundleDone old new status
bundle_done (Ok given) status old new gives up is two = inl (subst (λ (n : ℕ). GivesBundle old new n) (sym is) gives)
bundle_done (Err e) status old new gives up is two = inr (two, up)
