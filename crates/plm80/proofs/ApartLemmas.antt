-- What holds unless arguments are refused.
use Rattle.std.specs.Prelude.{Result, Ok, Err, OnOk}

-- what holds of an answer holds of it by a consequence, too
pub unless_refused : {T E : Type 0} {A B : Type 0} (answer : Result T E) → OnOk answer A → (A → B) → OnOk answer B
unless_refused (Ok x) holds so = so holds
unless_refused (Err e) holds so = tt
