-- What the private functions append.
use Rattle.std.specs.Prelude.{◌≡◌, ℕ, Bool, not, if◌then◌else◌, List, [], ◌++◌, length, filter}
use Rattle.std.specs.List.{AllZip, concat, flat_map}
use Rattle.omf_model.specs.Modules.{ModuleValue}
use Rattle.rom80_find.specs.Dump.{DumpValue}
use Rattle.rom80_find.specs.declared.lines.finding.Finding.{Finding}
use Rattle.rom80_find.specs.Found.{IsPlaceText, IsPlacesText, IsFound, is_missing, has_place}

-- the text of a place is appended
pub record PrintsPlace (dump : DumpValue) (m : ModuleValue) (address : ℕ) (before after : List ℕ) : Type 0 where
  pub text : List ℕ
  pub is : IsPlaceText dump m address text
  pub after_is : after ≡ before ++ text

-- the texts of these places are appended
pub record PrintsEach (dump : DumpValue) (m : ModuleValue) (places before after : List ℕ) : Type 0 where
  pub texts : List (List ℕ)
  pub each : AllZip (IsPlaceText dump m) places texts
  pub after_is : after ≡ before ++ concat texts

-- the text of a module's places is appended
pub record PrintsPlaces (dump : DumpValue) (m : ModuleValue) (places before after : List ℕ) : Type 0 where
  pub text : List ℕ
  pub is : IsPlacesText dump m places text
  pub after_is : after ≡ before ++ text

-- the finding is what is found of a module, and its text is appended if the module has a place
pub record FindsModule (dump : DumpValue) (m : ModuleValue) (finding : Finding) (before after : List ℕ) : Type 0 where
  pub text : List ℕ
  pub is : IsFound dump m finding text
  pub after_is : after ≡ before ++ (if has_place finding then text else [])

-- the text of what is found of a module is appended
pub record PrintsModule (dump : DumpValue) (m : ModuleValue) (missing : Bool) (before after : List ℕ) : Type 0 where
  pub finding : Finding
  pub text : List ℕ
  pub is : IsFound dump m finding text
  pub missing_is : missing ≡ is_missing finding
  pub after_is : after ≡ before ++ text

-- the texts of the modules that have a place are appended, and the number is of those that have none
pub record PrintsFound (dump : DumpValue) (modules : List ModuleValue) (missing : ℕ) (before after : List ℕ) : Type 0 where
  pub findings : List (Finding × List ℕ)
  pub each : AllZip (λ m f. IsFound dump m f.0 f.1) modules findings
  pub missing_is : missing ≡ length (filter (λ f. not (has_place f.0)) findings)
  pub after_is : after ≡ before ++ flat_map (λ f. f.1) (filter (λ f. has_place f.0) findings)
