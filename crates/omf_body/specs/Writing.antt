-- What a call that appends a record does. (8080 Object Module Formats, record layout.)
use Rattle.std.specs.Prelude.{◌≡◌, ℕ, ◌≤◌, ◌<◌, Option, Some, None, List, [], ◌∷◌, ◌++◌, length, Result, OnOk, OnErr, IsErrOf}
use Rattle.omf_core.specs.declared.fault.PutFault.{PutFault}
use Rattle.omf_core.specs.declared.fault.PutFault.TheVariants.{TooLong}
use Rattle.omf_body.specs.declared.body.Place.{Place}
use Rattle.omf_body.specs.declared.body.Body.{Body}
use Rattle.omf_body.specs.Bodies.{body_bytes, record_bytes}

-- The record of this body is appended if it fits, else nothing is: TooLong only if the body has more than 65534 bytes.
pub record Appends (body : Body) (old new : List ℕ) (result : Result (Unit {0}) PutFault) : Type 0 where
  pub appended : OnOk result (new ≡ old ++ record_bytes body)
  pub fits : OnOk result (length (body_bytes body) ≤ 65534)
  pub too_long : IsErrOf result TooLong → 65534 < length (body_bytes body)
  pub refused : OnErr result (new ≡ old)

-- An end without a start is filled up to the length of one that has a start.
abbrev pub end_filling : Option Place → List ℕ
end_filling None = 0 ∷ 0 ∷ 0 ∷ []
end_filling (Some start) = []
