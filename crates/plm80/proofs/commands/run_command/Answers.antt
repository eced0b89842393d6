use Rattle.std.specs.Prelude.{◌≡◌, ◌⊎◌, ℕ, List, map, string_bytes}
use Rattle.std.proofs.Common.{ap, inl, inr, rules, subst, ◌∙◌}
use Rattle.plm80_console.specs.{Journal.Blames, Journal.Blames.other, Journal.Blames.wrong, Journal.Journal, Journal.and_blamed, Journal.and_reported}
use Rattle.plm80.specs.CommandLine.{IsUntaken}
use Rattle.plm80.proofs.commands.run_command.Goals as goal

-- what is wrong is blamed, or a fault is only reported
blamed_or_reported : (Wrong : Type 0) (old new : Journal) → Wrong → (new ≡ and_blamed old) ⊎ (new ≡ and_reported old) → Blames Wrong old new
blamed_or_reported Wrong old new is (inl blamed) = wrong is blamed
blamed_or_reported Wrong old new is (inr reported) = other reported

pub returns-in-Err-Untaken : goal.returns-in-Err-Untaken
returns-in-Err-Untaken g c =
    let untaken = subst (λ (words : List (List ℕ)). IsUntaken words) (ap (λ words. map string_bytes words) c.deref.ensures.value ∙ c.in-Ok.ensures)
    (c.in-Err-Untaken.ensures.untaken (search rules)) in
    inl (c.status-in-Err-Untaken.ensures, blamed_or_reported _ _ _ untaken c.blame_usage.ensures)
