-- A program that is measured is accepted where its stack is large enough, and overruns it otherwise.
use Rattle.std.proofs.Common.{◌≢◌, ◌<◌, ◌≤◌, ℕ, List, refl, arith}
use Rattle.std.specs.Prelude.{pos}
use Rattle.std.proofs.lemmas.Int.{ints}
use Rattle.verify80_flow.specs.declared.report.ProcRow.{ProcRow}
use Rattle.verify80_flow.specs.declared.refusal.Refusal.{Refusal}
use Rattle.verify80_flow.specs.declared.refusal.Refusal.TheVariants.{HeightsDiffer, Recursion, StackTooSmall, Memory}
use Rattle.frames80.specs.Code.{Code}
use Rattle.verify80_flow.specs.Faults.{Holds, Overruns}
use Rattle.verify80_flow.specs.Accepted.{IsMeasured, IsAccepted}

module _ (code : Code) (rows : List ProcRow) (bytes : ℕ) (is : IsMeasured code rows bytes) where
  -- the program needs more of the stack than there is
  pub overruns : code.stack < bytes → Holds code (StackTooSmall bytes code.stack)
  overruns less = record {
    agrees = λ at. is.none_holds (HeightsDiffer at) (λ same. absurd cc);
    ends = λ at. is.none_holds (Recursion at) (λ same. absurd cc);
    bound = is.bound;
    stack = refl;
    less = less;
  }

  not_more : (need has : ℕ) → bytes ≤ code.stack → Overruns code need has → ⊥
  not_more need has enough over =
      let least = is.bound.above (pos need) over.bound.reached in
      absurd (omega (arith, ints, least, enough, over.stack, over.less))

  no_refusal : bytes ≤ code.stack → (refusal : Refusal) → refusal ≢ Memory → Holds code refusal → ⊥
  no_refusal enough (StackTooSmall need has) = λ apart holds. not_more need has enough holds
  no_refusal enough refusal = is.none_holds refusal

  -- so the program is accepted
  pub accepted : bytes ≤ code.stack → IsAccepted code rows bytes
  accepted enough = record { fitted = is.fitted; bound = is.bound; within = enough; rows = is.rows; none_holds = no_refusal enough }
