use Rattle.std.specs.Prelude.{◌≡◌, Option, Some, IfSome, length, refl}
use Rattle.std.proofs.Common.{◌∙◌, subst}
use Rattle.std.proofs.lemmas.List.{length-map}
use Rattle.link80_text.specs.declared.reasons.search.Need.{Need}
use Rattle.link80_text.proofs.ReasonLemmas.{lead_to_roots}
use Rattle.link80_text.proofs.reasons.reason_lines.Reasons.find.Goals as goal

of_some : {A : Type 0} (P : A → Type 0) (o : Option A) (x : A) → o ≡ Some x → IfSome o P → P x
of_some P o x is given = subst (λ (p : Option _). IfSome p P) is given

pub returns-in-Some : goal.returns-in-Some
returns-in-Some c =
    let are = of_some _ c.in_ok-needs.field-0 c.in-Some.needs c.in-Some.is c.in_ok-needs.ensures in
    record {
      roots_are = refl;
      libraries_are = refl;
      taken_are = refl;
      lead = lead_to_roots (length c.args.roots.now) c.in-Some.needs.items (λ k need at. are.nearer k need at);
      len = length-map c.in-Some.needs.items (λ (need : Need). need.by) ∙ are.len;
    }
