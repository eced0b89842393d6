-- A name is text, so it is read as one.
use Rattle.std.proofs.Common.{subst, sym}
use Rattle.std.specs.Str.{IsUtf8}
use Rattle.omf_core.proofs.NameText.{IsUtf8-name}
use Rattle.omf_core.proofs.name.NameDisplay.fmt.Goals as goal

pub unreachable-requires : goal.unreachable-requires
unreachable-requires g c = c.in-Err.ensures.cases.0 (subst IsUtf8 (sym c.bytes.ensures.value) (IsUtf8-name c.args.self.now c.bytes.ensures.name))
