-- Characters that would make a line, command a terminal, or let a text read as another one.
-- (Unicode, general category Cc; the soft hyphen, separators of lines and paragraphs, and format characters: those without width and
-- those of UAX 9, which change the order in which others are shown. Which of the category Cf count is this project's own.)
use Rattle.std.specs.Prelude.{ℕ, ◌==◌, Bool, ◌||◌}
use Rattle.std.specs.{Char.is_control, Int.is_in_range}

abbrev pub is_format : (character : ℕ) → Bool
is_format character =
    (character == 0xAD || character == 0x61C)
    || ((is_in_range 0x200B 0x200F character || is_in_range 0x2028 0x202E character)
    || (is_in_range 0x2060 0x206F character || character == 0xFEFF))

abbrev pub is_hidden : (character : ℕ) → Bool
is_hidden character = is_control character || is_format character
