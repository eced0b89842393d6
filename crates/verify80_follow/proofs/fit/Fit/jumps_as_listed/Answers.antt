use Rattle.std.specs.Prelude.{List, Option, ℕ, [], Contains}
use Rattle.std.specs.Option.{option_map_or}
use Rattle.std.proofs.Common.{ap, inl, subst, sym}
use Rattle.verify80_follow.proofs.fit.Fit.jumps_as_listed.Goals as goal

pub returns-then-is_target : goal.returns-then-is_target
returns-then-is_target c is declared =
    inl (λ to within. subst (λ (l : List ℕ). Contains l to) (sym (ap (λ (o : Option (List ℕ)). option_map_or (λ targets. targets) o []) c.in-Some.ensures.declared)) (c.is_target.ensures is to within))
