-- What shows what is sought for a refusal shows the refusal.
use Rattle.std.proofs.Common.{◌≡◌, ℕ, Ok, Err, refl, subst}
use Rattle.frames80.specs.declared.fault.FrameFault.{FrameFault}
use Rattle.frames80.specs.declared.procedure.Procedure.TheVariants.{Entry}
use Rattle.frames80.specs.declared.code.LookFault.{LookFault}
use Rattle.frames80.specs.Code.{Code}
use Rattle.verify80_flow.specs.declared.refusal.Refusal.{Refusal}
use Rattle.verify80_flow.specs.declared.refusal.Refusal.TheVariants.{HeightsDiffer, UnevenArguments, ShortArguments, Recursion}
use Rattle.verify80_flow.specs.Faults.{LooksWrong, MovesWrong}
use Rattle.verify80_flow.specs.Walks.{Calls, Returns}
use Rattle.verify80_explain.specs.declared.explanation.Explanation.{Explanation}
use Rattle.verify80_explain.specs.declared.explanation.Explanation.TheVariants.{Way as OneWay, Ways as TwoWays, Ring}
use Rattle.verify80_explain.specs.declared.evidence.Fault.TheVariants.{Look, Frame}
use Rattle.verify80_explain.specs.declared.evidence.Clash.TheVariants.{Heights, Returns as Returning, Shortage}
use Rattle.verify80_explain.specs.declared.sought.Kind.TheVariants.{Fault, Clash, Ring as OfRing}
use Rattle.verify80_explain.specs.Evidence.{IsSoughtFor}
use Rattle.verify80_explain.specs.Shows.{Shows, ToPoint}
use Rattle.verify80_walks.specs.Ways.{point_of}
use Rattle.verify80_explain.proofs.ShownLemmas.{reached, recurs, to_point}

module _ (refusal : Refusal) (at : ℕ) where
  pub look-sought : (fault : LookFault) → ((code : Code) (shown : Explanation) (wrong : LooksWrong code at fault) → ToPoint code (point_of wrong.procedure at wrong.frame) shown → Shows code refusal shown) →
      IsSoughtFor refusal (record { at = at; kind = Fault (Look fault) })
  look-sought fault shows code (OneWay route) e =
      let leads = to_point code route e.last e.last.procedure at e.is_route refl e.there.0 in
      shows code (OneWay route) (record { procedure = e.last.procedure; frame = e.last.frame; walk = reached code route (point_of e.last.procedure at e.last.frame) leads; looked = subst (λ a. code.look a ≡ Err fault) e.there.0 e.there.1 }) leads
  look-sought fault shows code (TwoWays route other) e = absurd e
  look-sought fault shows code (Ring calls ring) e = absurd e

  pub frame-sought : (fault : FrameFault) → ((code : Code) (shown : Explanation) (wrong : MovesWrong code at fault) → ToPoint code (point_of wrong.procedure at wrong.frame) shown → Shows code refusal shown) →
      IsSoughtFor refusal (record { at = at; kind = Fault (Frame fault) })
  frame-sought fault shows code (OneWay route) e =
      let leads = to_point code route e.last e.last.procedure at e.is_route refl e.there.0 in
      let stuck = e.there.1 in
      shows code (OneWay route) (record { procedure = e.last.procedure; frame = e.last.frame; found = stuck.found; walk = reached code route (point_of e.last.procedure at e.last.frame) leads; looked = subst (λ a. code.look a ≡ Ok stuck.found) e.there.0 stuck.looked; moved = stuck.moved }) leads
  frame-sought fault shows code (TwoWays route other) e = absurd e
  frame-sought fault shows code (Ring calls ring) e = absurd e

pub heights-sought : (at : ℕ) → IsSoughtFor (HeightsDiffer at) (record { at = at; kind = Clash Heights })
heights-sought at code (TwoWays route second) e =
    let p = e.last.procedure in
    let one = to_point code route e.last p at e.is_route refl e.there.one_at in
    let other = to_point code second e.other_last p at e.other_route e.there.procedure e.there.other_at in
    record {
      fault = record {
        procedure = p;
        one = e.last.frame;
        other = e.other_last.frame;
        walk_one = reached code route (point_of p at e.last.frame) one;
        walk_other = reached code second (point_of p at e.other_last.frame) other;
        differ = e.there.differ;
      };
      leads = (one, other);
    }
heights-sought at code (OneWay route) e = absurd e
heights-sought at code (Ring calls ring) e = absurd e

pub returns-sought : (at : ℕ) → IsSoughtFor (UnevenArguments at) (record { at = at; kind = Clash Returning })
returns-sought at code (TwoWays route second) e =
    let p = e.last.procedure in
    let two = e.other_last in
    let one = to_point code route e.last p at e.is_route refl e.there.one_at in
    let other = to_point code second two p two.at e.other_route e.there.procedure refl in
    record {
      fault = record {
        procedure = p;
        other = two.at;
        frame = e.last.frame;
        other_frame = two.frame;
        taken = e.there.taken;
        other_taken = e.there.other_taken;
        walk = reached code route (point_of p at e.last.frame) one;
        returns = subst (λ a. Returns code p a e.last.frame e.there.taken) e.there.one_at e.there.returns;
        walk_other = reached code second (point_of p two.at two.frame) other;
        returns_other = subst (λ q. Returns code q two.at two.frame e.there.other_taken) e.there.procedure e.there.other_returns;
        differ = e.there.differ;
      };
      leads = (one, other);
    }
returns-sought at code (OneWay route) e = absurd e
returns-sought at code (Ring calls ring) e = absurd e

pub shortage-sought : (at : ℕ) → IsSoughtFor (ShortArguments at) (record { at = at; kind = Clash Shortage })
shortage-sought at code (TwoWays route second) e =
    let p = e.last.procedure in
    let two = e.other_last in
    let target = e.there.target in
    let one = to_point code route e.last p at e.is_route refl e.there.one_at in
    let other = to_point code second two (Entry target) two.at e.other_route e.there.procedure refl in
    record {
      fault = record {
        procedure = p;
        frame = e.last.frame;
        target = target;
        next = e.there.next;
        inside = two.at;
        callee = two.frame;
        walk = reached code route (point_of p at e.last.frame) one;
        call = subst (λ a. Calls code p a e.last.frame target e.there.next) e.there.one_at e.there.call;
        walk_callee = reached code second (point_of (Entry target) two.at two.frame) other;
        short = e.there.short;
      };
      leads = (one, other);
    }
shortage-sought at code (OneWay route) e = absurd e
shortage-sought at code (Ring calls ring) e = absurd e

pub ring-sought : (at : ℕ) → IsSoughtFor (Recursion at) (record { at = at; kind = OfRing })
ring-sought at code shown e = record { fault = recurs code at shown e; leads = e }
