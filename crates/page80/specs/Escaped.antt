-- Text in a page: each byte as it is, or as a reference.
-- (HTML Living Standard, 13.1.4 Character references. The bytes without a character are those that are no printable ASCII.)
use Rattle.std.specs.Prelude.{◌≡◌, ◌≢◌, ◌<◌, ℕ, ◌==◌, ◌||◌, Bool, if◌then◌else◌, List, [], ◌∷◌, ◌++◌, All, codes}
use Rattle.text80.specs.Digits.{byte_text}
use Rattle.page80.specs.Reading.{is_printable, text, reading_after, shown_from}

-- a byte that could be read as markup: a quote, an ampersand, an apostrophe, or what begins or ends a tag
abbrev pub is_markup : ℕ → Bool
is_markup byte = (byte == 34 || byte == 38) || (byte == 39 || (byte == 60 || byte == 62))

abbrev pub escaped : ℕ → List ℕ
escaped byte =
    if is_markup byte then codes "&#x" ++ (byte_text byte ++ codes ";")
    else (if is_printable byte then byte ∷ [] else codes "&#xE0" ++ (byte_text byte ++ codes ";"))

-- no byte of a text ends a tag or an attribute, or begins a tag
pub record IsHarmless (byte : ℕ) : Type 0 where
  pub no_tag : byte ≢ 60
  pub no_end : byte ≢ 62
  pub no_quote : byte ≢ 34
  pub no_apostrophe : byte ≢ 39

-- Each byte is shown as itself, and what stands for it in the page is harmless.
pub record EscapedIsShown : Type 0 where
  pub shown : (byte : ℕ) → byte < 256 → shown_from text (escaped byte) ≡ byte ∷ []
  pub whole : (byte : ℕ) → byte < 256 → reading_after text (escaped byte) ≡ text
  pub harmless : (byte : ℕ) → byte < 256 → All IsHarmless (escaped byte)
