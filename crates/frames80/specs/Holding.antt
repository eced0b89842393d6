-- What a frame's words are to a pop and to a return. (This project's own.)
use Rattle.std.specs.Prelude.{List, [], ◌∷◌}
use Rattle.frames80.specs.declared.word.Word.{Word}
use Rattle.frames80.specs.declared.word.Word.TheVariants.{Own, Any}
use Rattle.frames80.specs.declared.holding.Holding.{Holding}
use Rattle.frames80.specs.declared.holding.Holding.TheVariants.{Nothing, ReturnAddress, Others}

-- nothing, the return address alone, or any others
abbrev pub holding_of : List Word → Holding
holding_of [] = Nothing
holding_of (Own ∷ []) = ReturnAddress
holding_of (Own ∷ word ∷ words) = Others
holding_of (Any ∷ words) = Others
