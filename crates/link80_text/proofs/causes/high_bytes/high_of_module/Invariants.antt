use Rattle.std.proofs.Common.{◌≡◌, drop}
use Rattle.link80_text.specs.HighBytes.{first_given, high_of_content}
use Rattle.link80_text.proofs.causes.high_bytes.high_of_module.Given as goal

-- the first of the contents that are left is the first of all
abbrev pub invariant-loop-content : goal.invariant-loop-content
invariant-loop-content l =
    first_given (high_of_content l.starts.0 l.number) (drop l.content-index l.contents)
    ≡ first_given (high_of_content l.starts.0 l.number) l.contents
