-- Contents that keep the rules are short.
use Rattle.std.proofs.Common.{◌≡◌, ℕ, ◌≤◌, true, List, [], ◌∷◌, length}
use Rattle.std.specs.List.{AllByRecursion, list_all}
use Rattle.std.proofs.lemmas.Bool.{and_parts}
use Rattle.omf_model.specs.declared.segment.Segment.{Segment}
use Rattle.omf_model.specs.declared.symbols.Common.{Common}
use Rattle.omf_model.specs.Contents.{ContentValue}
use Rattle.omf_model.specs.Modules.{ModuleValue}
use Rattle.omf_model.specs.Rules.{is_content, is_in_bounds, has_fitting, IsModule}
use Rattle.omf_model.specs.SoundParts.{sound_parts, in_bounds_parts}

-- each content that keeps the rules fits a record
pub contents_short : (s : List (ℕ × Segment)) (c : List Common) (externals : ℕ) (xs : List ContentValue)
    → list_all (is_content s c externals) xs ≡ true → AllByRecursion (λ (x : ContentValue). length x.bytes ≤ 65531) xs
contents_short s c externals [] all = tt
contents_short s c externals (x ∷ xs) all =
    let parts = and_parts (is_content s c externals x) (list_all (is_content s c externals) xs) all in (
      (in_bounds_parts s c x (and_parts (is_in_bounds s c x) (has_fitting c externals x) parts.0).0).short,
      contents_short s c
          externals xs parts.1,
    )

pub module_contents_short : (m : ModuleValue) → IsModule m
    → AllByRecursion (λ (x : ContentValue). length x.bytes ≤ 65531) m.contents
module_contents_short m is = contents_short m.segments m.commons (length m.externals) m.contents (sound_parts m is.sound).contents
