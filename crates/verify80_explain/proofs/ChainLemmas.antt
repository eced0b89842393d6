-- Chains of calls.
use Rattle.std.proofs.Common.{◌≡◌, ℤ, pos, List, [], ◌∷◌, ◌++◌, reverse, refl, sym, ◌∙◌, ap, subst}
use Rattle.std.specs.Prelude.{◌+ℤ◌}
use Rattle.std.proofs.lemmas.List.{reverse-append}
use Rattle.verify80_bounds.specs.declared.graph.CallSite.{CallSite}
use Rattle.frames80.specs.declared.procedure.Procedure.{Procedure}
use Rattle.frames80.specs.declared.procedure.Procedure.TheVariants.{Main, Entry}
use Rattle.frames80.specs.Code.{Code}
use Rattle.verify80_flow.specs.Use.{Use, last, through}
use Rattle.verify80_explain.specs.declared.chain.Standing.{Standing}
use Rattle.verify80_explain.specs.Chains.{CallsAt, ChainsAreUses, IsChain}

uses : (code : Code) (p : Procedure) (calls : List CallSite) (standing : Standing) (sum : ℤ) → IsChain code p calls standing sum → Use code p sum
uses code p [] standing sum c =
    subst (λ q. Use code q sum) c.0 (last standing.procedure sum (record { at = standing.at; frame = c.1.frame; walk = c.1.walk; sum = c.2 ∙ c.1.depth }))
uses code p (call ∷ rest) standing sum c =
    let at = c.1 in
    let below = c.2.0 in
    subst (λ q. Use code q sum) c.0 (through call.caller call.target below sum (uses code (Entry call.target) rest standing below c.2.1)
    (record { at = call.at; next = at.next; frame = at.frame; walk = at.walk; call = at.calls; sum = c.2.2 ∙ ap (λ d. (d +ℤ pos 2) +ℤ below) at.depth }))

pub chains-are-uses : ChainsAreUses
chains-are-uses code bytes chain c = uses code Main chain.calls.items chain.last (pos bytes) c

-- a chain has one call more before its others, which are listed last first
pub chain-before : (code : Code) (p : Procedure) (back : List CallSite) (standing : Standing) (below sum : ℤ) (call : CallSite) → IsChain code p (reverse back) standing below → CallsAt code call → p ≡ Entry call.target →
    sum ≡ (call.depth +ℤ pos 2) +ℤ below → IsChain code call.caller (reverse (back ++ call ∷ [])) standing sum
chain-before code p back standing below sum call c at of is = subst (λ calls. IsChain code call.caller calls standing sum) (sym (reverse-append back (call ∷ [])))
    (refl, at, (below, subst (λ q. IsChain code q (reverse back) standing below) of c, is))
