-- Fixups of a high byte: each needs a word that is a multiple of 256, since the carry out of the low byte is nowhere kept.
-- (ISIS-II User's Guide, LOCATE. That such a fixup is refused is this project's own.)
use Rattle.std.specs.Prelude.{ℕ, ◌%◌, ◌==◌, Bool, true, false, not, ◌&&◌, List}
use Rattle.std.specs.List.{list_any, enumerate_from}
use Rattle.omf_body.specs.declared.field.Field.{Field}
use Rattle.omf_body.specs.declared.field.Field.TheVariants.{Low, High, Both}
use Rattle.omf_model.specs.declared.fixup.Fixup.{Fixup}
use Rattle.omf_model.specs.declared.fixup.Target.{Target}
use Rattle.omf_model.specs.Modules.{ModuleValue}
use Rattle.omf_model.specs.Place.{Bases}
use Rattle.omf_model.specs.ImageByte.{target_word}

abbrev pub is_high : Field → Bool
is_high Low = false
is_high High = true
is_high Both = false

-- the fixup takes the high byte of a word that isn't a multiple of 256, if each target has a word
abbrev pub loses_with : (Target → ℕ) → Fixup → Bool
loses_with word f = is_high f.field && not (word f.target % 256 == 0)

abbrev pub loses_low_byte : Bases → List ModuleValue → ℕ × ModuleValue → Fixup → Bool
loses_low_byte bases modules m = loses_with (target_word bases modules m)

-- one of the modules' fixups does
abbrev pub any_loses_low_byte : Bases → List ModuleValue → Bool
any_loses_low_byte bases modules =
    list_any (λ m. list_any (λ c. list_any (loses_low_byte bases modules m) c.fixups) m.1.contents) (enumerate_from 0 modules)
