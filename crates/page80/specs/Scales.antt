-- What a strip of memory shows below its shapes: addresses, and what the colors stand for. (This project's own.)
use Rattle.std.specs.Prelude.{ℕ, List, codes}

abbrev pub scale_text : List ℕ
scale_text = codes "0000 4000 8000 C000 FFFF\nCODE STACK DATA\n"
