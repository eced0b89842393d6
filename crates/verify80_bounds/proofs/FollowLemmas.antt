-- The walk along calls, one of each procedure, until a procedure is met twice.
use Rattle.std.proofs.Common.{◌≡◌, ◌<◌, ◌+◌, inl, inr, ℕ, Bool, true, false, List, [], ◌∷◌, ◌++◌, length, get_or, set, take, refl, sym, ap, subst, ◌∙◌, arith}
use Rattle.std.specs.Prelude.{Contains, sum_by}
use Rattle.std.proofs.lemmas.List.{get_or-set_same, get_or-set_other, length-set, take_more, get_or_read}
use Rattle.std.proofs.lemmas.List.Elements.{Contains-push_cases, Contains-get_or}
use Rattle.std.proofs.lemmas.List.Sums.{sum_by-set}
use Rattle.std.proofs.lemmas.Bool.{cases_eq, false≢true}
use Rattle.frames80.specs.declared.procedure.Procedure.{Procedure}
use Rattle.frames80.specs.declared.procedure.Procedure.TheVariants.{Entry}
use Rattle.verify80_bounds.specs.declared.graph.CallSite.{CallSite}
use Rattle.verify80_bounds.specs.Chains.{CallsBy, Reaches, here, further, Cycles}
use Rattle.frames80.specs.Procedures.{slot_of}
use Rattle.verify80_bounds.specs.Sums.{AreStuck, AreFollowed, IsFollowed, IsFollowing}
use Rattle.verify80_bounds.proofs.BoundLemmas.{slot_apart}
use Rattle.verify80_bounds.proofs.SumLemmas.{no_call}

-- the table

pub follow_none : (calls table : List CallSite) → AreFollowed calls [] table
follow_none calls table = record { next = λ p call by. absurd (omega (arith, by.there.1)) }

pub follow_more : (calls seen table : List CallSite) (call : CallSite) (i : ℕ) → i ≡ slot_of call.caller → i < length table → Contains calls call →
    AreFollowed calls seen table → AreFollowed calls (seen ++ call ∷ []) (set table i call)
follow_more calls seen table call i at within there are = record {
  next = λ p e by d. elim (cases_eq (slot_of p) i) [
    | inl same ↦ subst (λ (x : CallSite). CallsBy calls p x)
        (sym (ap (λ (k : ℕ). get_or (set table i call) k d) same ∙ get_or-set_same table i call d within))
        (record { there = there; caller = slot_apart call.caller p (sym at ∙ sym same) })
    | inr ne ↦ subst (λ (x : CallSite). CallsBy calls p x) (sym (get_or-set_other table i (slot_of p) call d ne))
        (elim (Contains-push_cases seen call e by.there) [
          | inl before ↦ are.next p e (record { there = before; caller = by.caller }) d
          | inr is ↦ absurd (ne (ap slot_of (sym by.caller) ∙ ap (λ (x : CallSite). slot_of x.caller) (sym is) ∙ sym at))
        ])
  ];
}

pub follow_at : (calls table : List CallSite) (i at : ℕ) → i < length calls → at ≡ slot_of (get_or calls i no_call).caller → at < length table →
    AreFollowed calls (take i calls) table → AreFollowed calls (take (i + 1) calls) (set table at (get_or calls i no_call))
follow_at calls table i at within is inside are =
    subst (λ (l : List CallSite). AreFollowed calls l (set table at (get_or calls i no_call))) (sym (take_more calls i no_call within))
    (follow_more calls (take i calls) table (get_or calls i no_call) at is inside (Contains-get_or calls i no_call within) are)

-- the walk

-- the table's call of a procedure that has one
pub follow_to : (calls table : List CallSite) (p : Procedure) (one : CallSite) (at : ℕ) (call : CallSite) → AreFollowed calls calls table → CallsBy calls p one →
    at ≡ slot_of p → at < length table → call ≡ get_or table at call → (call.caller ≡ p) × IsFollowed calls table call
follow_to calls table p one at call are by is inside read =
    let by_table : CallsBy calls p call =
    subst (λ (x : CallSite). CallsBy calls p x) (ap (λ (k : ℕ). get_or table k call) (sym is) ∙ sym read) (are.next p one by call) in (
      by_table.caller,
      record {
        by = record { there = by_table.there; caller = refl };
        now = λ d. ap (λ (q : Procedure). get_or table (slot_of q) d) by_table.caller ∙ ap (λ (k : ℕ). get_or table k d) (sym is)
            ∙ sym (get_or_read table at call inside read d);
      },
    )

pub following_first : (calls table : List CallSite) (met : List Bool) (one : CallSite) (at : ℕ) (call : CallSite) → AreFollowed calls calls table → Contains calls one →
    at ≡ slot_of one.caller → at < length table → call ≡ get_or table at call → ((k : ℕ) → get_or met k false ≡ false) → length table ≡ 65537 → length met ≡ 65537 →
    IsFollowing calls table met call
following_first calls table met one at call are there is inside read none places met_places = record {
  followed = are;
  at = (follow_to calls table one.caller one at call are (record { there = there; caller = refl }) is inside read).1;
  back = λ p marked d. absurd (false≢true (sym (none (slot_of p)) ∙ marked));
  places = places;
  met_places = met_places;
}

pub following_next : (calls table : List CallSite) (met : List Bool) (call : CallSite) (i at : ℕ) (after : CallSite) → AreStuck calls → IsFollowing calls table met call →
    i ≡ slot_of call.caller → i < length met → at ≡ slot_of (Entry call.target) → at < length table → after ≡ get_or table at after →
    IsFollowing calls table (set met i true) after
following_next calls table met call i at after stuck are i_is i_inside is inside read =
    let one = stuck.next call are.at.by.there in
    let to = follow_to calls table (Entry call.target) one.0 at after are.followed one.1 is inside read in
    record {
      followed = are.followed;
      at = to.1;
      back = λ p marked d. subst (λ (q : Procedure). Reaches calls (Entry (get_or table (slot_of p) d).target) q) (sym to.0) (elim (cases_eq (slot_of p) i) [
        | inl same ↦ here _ _ (ap (λ (x : CallSite). Entry x.target) (ap (λ (k : ℕ). get_or table k d) (same ∙ i_is) ∙ are.at.now d))
        | inr ne ↦ further _ call.caller _ call (are.back p (sym (get_or-set_other met i (slot_of p) true false ne) ∙ marked) d) are.at.by refl
      ]);
      places = are.places;
      met_places = length-set met i true ∙ are.met_places;
    }

pub following_end : (calls table : List CallSite) (met : List Bool) (call : CallSite) (i : ℕ) → IsFollowing calls table met call → i ≡ slot_of call.caller →
    get_or met i false ≡ true → Cycles calls call.at
following_end calls table met call i are is marked = record {
  call = call;
  there = are.at.by.there;
  is = refl;
  back = subst (λ (x : CallSite). Reaches calls (Entry x.target) call.caller) (are.at.now call)
      (are.back call.caller (ap (λ (k : ℕ). get_or met k false) (sym is) ∙ marked) call);
}

-- how many procedures have not been met
abbrev pub unmet : Bool → ℕ
unmet true = 0
unmet false = 1

pub fewer_unmet : (met : List Bool) (i : ℕ) → i < length met → get_or met i false ≡ false → sum_by unmet (set met i true) < sum_by unmet met
fewer_unmet met i within is =
    let sum = sum_by-set unmet met i true false within in
    let one : unmet (get_or met i false) ≡ 1 = ap unmet is in
    omega arith

-- what leads back among some of the calls leads back among all
reaches_of : (calls some : List CallSite) → ((call : CallSite) → Contains some call → Contains calls call) → (p q : Procedure) → Reaches some p q → Reaches calls p q
reaches_of calls some of _ _ (here p q same) = here p q same
reaches_of calls some of _ _ (further p q r call before by is) =
    further p q r call (reaches_of calls some of p q before) (record { there = of call by.there; caller = by.caller }) is

pub cycles_of : (calls some : List CallSite) (at : ℕ) → ((call : CallSite) → Contains some call → Contains calls call) → Cycles some at → Cycles calls at
cycles_of calls some at of cycle = record {
  call = cycle.call;
  there = of cycle.call cycle.there;
  is = cycle.is;
  back = reaches_of calls some of (Entry cycle.call.target) cycle.call.caller cycle.back;
}
