-- What is answered for a bundle is what is answered for its three parts.
use Rattle.std.specs.Prelude.{◌≡◌, ℕ, ◌<◌, List, Option, Some, Result, Ok, Err, length, take}
use Rattle.std.specs.Io.KnownBytes.{Appends}
use Rattle.std.proofs.Common.{sym, subst}
use Rattle.loader80.specs.declared.replies.Outcome.{Outcome}
use Rattle.loader80.specs.declared.fault.SessionFault.{SessionFault}
use Rattle.loader80.specs.declared.fault.SessionFault.TheVariants.{Read, Write}
use Rattle.loader80.specs.Texts.{Texts}
use Rattle.loader80.specs.Session.{Says}
use Rattle.loader80.specs.Sends.{AreWithin, Sends}
use Rattle.loader80.specs.SendsLaws.{WrittenAnswersAreSent, PrefixesAreSent}
use Rattle.loader80_text.specs.declared.bundles.fault.BundleFault.{BundleFault}
use Rattle.loader80_text.specs.declared.bundles.fault.BundleFault.TheVariants.{Session}
use Rattle.loader80_text.specs.Bundle.{BundleSends, of_session}

-- a bundle of these parts whose answer's text was written whole
bundled : (limit steps : ℕ) (t : Texts) (answer : Result Outcome SessionFault) (text : List ℕ) (old new : Option (List ℕ)) → Says limit steps t answer text → Sends limit steps t answer old new → BundleSends limit steps (Some t) (of_session answer) old new
bundled limit steps t (Ok o) text old new says sends = sends
bundled limit steps t (Err (Read k)) text old new says sends = absurd says
bundled limit steps t (Err fault) text old new says sends = sends

-- what is answered, and what is found to be within the limit, of an image that was read is so of the bundle's
said_of : (limit steps : ℕ) (image : List ℕ) (t : Texts) (answer : Result Outcome SessionFault) (text : List ℕ) → image ≡ t.image → Says limit steps (record { image = image; regions = t.regions; inputs = t.inputs }) answer text → Says limit steps t answer text
said_of limit steps image t answer text same says =
    subst (λ (x : List ℕ). Says limit steps (record { image = x; regions = t.regions; inputs = t.inputs }) answer text) same says

within_of : (image : List ℕ) (t : Texts) → image ≡ t.image → AreWithin (record { image = image; regions = t.regions; inputs = t.inputs }) → AreWithin t
within_of image t same within = subst (λ (x : List ℕ). AreWithin (record { image = x; regions = t.regions; inputs = t.inputs })) same within

pub bundle_sends : WrittenAnswersAreSent → (limit steps : ℕ) (parted : Option Texts) (image : List ℕ) (t : Texts) (answer : Result Outcome SessionFault) (result : Result Outcome BundleFault) (text : List ℕ) (old new : Option (List ℕ)) → parted ≡ Some t → result ≡ of_session answer → image ≡ t.image →
    AreWithin (record { image = image; regions = t.regions; inputs = t.inputs }) → Says limit steps (record { image = image; regions = t.regions; inputs = t.inputs }) answer text → Appends old new text → BundleSends limit steps parted result old new
bundle_sends law limit steps parted image t answer result text old new some is same within says appended =
    let said : Says limit steps t answer text = said_of limit steps image t answer text same says in
    let sends : Sends limit steps t answer old new = law limit steps t answer text old new (within_of image t same within) said appended in
    subst (λ (p : Option Texts). BundleSends limit steps p result old new) (sym some)
    (subst (λ (x : Result Outcome BundleFault). BundleSends limit steps (Some t) x old new) (sym is) (bundled limit steps t answer text old new said sends))

pub bundle_sends_prefix : PrefixesAreSent → (limit steps : ℕ) (parted : Option Texts) (image : List ℕ) (t : Texts) (answer : Result Outcome SessionFault) (text : List ℕ) (count : ℕ) (old new : Option (List ℕ)) → parted ≡ Some t → image ≡ t.image →
    AreWithin (record { image = image; regions = t.regions; inputs = t.inputs }) → Says limit steps (record { image = image; regions = t.regions; inputs = t.inputs }) answer text → count < length text → Appends old new (take count text) → BundleSends limit steps parted (Err (Session Write)) old new
bundle_sends_prefix law limit steps parted image t answer text count old new some same within says part appended =
    subst (λ (p : Option Texts). BundleSends limit steps p (Err (Session Write)) old new) (sym some)
    (law limit steps t answer text count old new (within_of image t same within) (said_of limit steps image t answer text same says) part appended)
