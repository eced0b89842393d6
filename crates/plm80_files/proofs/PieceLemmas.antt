-- What comes of all pieces of a file.
use Rattle.std.proofs.Common.{◌≡◌, ◌≢◌, ◌⊎◌, inr, ℕ, ◌==◌, List, [], ◌∷◌, Option, Some, None, Bool, false, slice_get, refl, sym, ap, subst, ◌∙◌, arith}
use Rattle.std.proofs.lemmas.{Option.same_Some, Option.none-some, Bool.Decides.nat_tests}
use Rattle.omf_core.specs.{Kind.kind_byte, Lasting.Lasting, Lasting.last_now, declared.kind.RecordKind.TheVariants.LibraryHeader}
use Rattle.omf_module.specs.FileFeed.{FileFeedValue, LastingFileFault}
use Rattle.omf_library.specs.LibraryFeed.{LibraryFeedValue, LastingLibraryFault}
use Rattle.plm80_console.specs.Pieces.{HasTaken, HasTakenFile, HasTakenLibrary}
use Rattle.plm80_files.specs.LinkFiles.{begins_library, HasBegun}

-- ---- all pieces

-- a feed that has taken nothing
pub none_taken : {F : Type 0} (L : List ℕ → F → Type 0) (has : List ℕ) (kept : Option F) → has ≡ [] → kept ≡ None → HasTaken L has kept []
none_taken L has kept empty none = record { all = λ _. empty; lasts = λ fault some. absurd cc }

pub new_file : (feed : FileFeedValue) → feed ≡ record { bytes = []; kept = None } → HasTakenFile feed []
new_file feed is = none_taken LastingFileFault feed.bytes feed.kept (ap (λ (v : FileFeedValue). v.bytes) is) (ap (λ (v : FileFeedValue). v.kept) is)

pub new_library : (feed : LibraryFeedValue) → feed ≡ record { bytes = []; kept = None } → HasTakenLibrary feed []
new_library feed is = none_taken LastingLibraryFault feed.bytes feed.kept (ap (λ (v : LibraryFeedValue). v.bytes) is) (ap (λ (v : LibraryFeedValue). v.kept) is)

-- the fault that is answered of all pieces: out of memory, one of the bytes of the feed, or the one that it keeps
pub refused : {F : Type 0} (Faults : List ℕ → F → Type 0) (memory f : F) (has text : List ℕ) (kept : Option F) → ((g : F) → kept ≡ Some g → f ≡ g)
    → (kept ≡ None → (f ≡ memory) ⊎ Faults has f) → HasTaken (Lasting Faults) has kept text → (f ≡ memory) ⊎ Faults text f
refused Faults memory f has text None answered faults h = subst (λ (b : List ℕ). (f ≡ memory) ⊎ Faults b f) (h.all refl) (faults refl)
refused {F} Faults memory f has text (Some g) answered faults h =
    inr (subst (λ (x : F). Faults text x) (sym (answered g refl)) (last_now Faults text g (h.lasts g refl)))

-- ---- the first byte

pub begun_kind : (is_library : Bool) (bytes : List ℕ) → HasBegun is_library bytes → begins_library bytes ≡ is_library
begun_kind is_library bytes h = ap begins_library h.is ∙ h.kind

pub begun_by : (is_library : Bool) (bytes : List ℕ) (first : ℕ) → slice_get bytes 0 ≡ Some first → (first == kind_byte LibraryHeader) ≡ is_library → HasBegun is_library bytes
begun_by is_library [] first is kind = absurd (none-some first is)
begun_by is_library (byte ∷ bytes) first is kind = record { first = byte; rest = bytes; is = refl; kind = ap (λ b. b == kind_byte LibraryHeader) (same_Some byte first is) ∙ kind }

pub not_header : (byte : ℕ) → byte ≢ 0x2C → (byte == kind_byte LibraryHeader) ≡ false
not_header byte other = grind (arith, nat_tests, other)
