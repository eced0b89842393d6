-- Files that couldn't be written.
use Rattle.std.proofs.Common.{ℕ, List, [], ◌∷◌, inl, refl}
use Rattle.plm80_console.specs.{Answer.StopsWriting, Journal.Journal, Journal.file_value, Replaced.NotSettled}

-- the only file wasn't written
pub one_unwritten : (path bytes : List ℕ) (old new : Journal) → NotSettled path old new → StopsWriting (file_value path bytes ∷ []) old new
one_unwritten path bytes old new fault = record {
  done = [];
  failed = file_value path bytes;
  rest = [];
  are = inl refl;
  spoiled = fault.0;
  journal = fault.1;
}
