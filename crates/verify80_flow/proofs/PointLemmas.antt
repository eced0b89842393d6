-- Elements of a list by index after a write, and what the store of points keeps through each of its changes.
use Rattle.std.proofs.Common.{◌≡◌, ◌<◌, ℕ, zero, suc, Bool, true, false, nat_eq, ◌⊎◌, inl, inr, List, [], ◌∷◌, ◌++◌}
use Rattle.std.proofs.Common.{Option, Some, None, IfSome, length, slice_get, slice_set, refl, sym, ◌∙◌, ap, subst, arith}
use Rattle.std.specs.Option.{option_map}
use Rattle.std.specs.Cmp.{unsigned_Decides, first_so, second_so}
use Rattle.std.proofs.lemmas.Option.{slice_get-map, same_Some, none-some}
use Rattle.std.proofs.lemmas.List.{map_push, map-set}
use Rattle.frames80.specs.Lists.{slice_get-append, slice_get-last, slice_get-push}
use Rattle.frames80.specs.StackFrame.{StackFrame}
use Rattle.frames80.specs.declared.procedure.Procedure.{Procedure}
use Rattle.frames80.specs.declared.procedure.Procedure.TheVariants.{Main, Entry}
use Rattle.verify80_flow.specs.declared.points.StoredPoint.{StoredPoint}
use Rattle.frames80_interned.specs.Frames.{frame_at, IsFrame, StayNumbered}
use Rattle.verify80_flow.proofs.FrameLemmas.{stays_there, stays_at}
use Rattle.verify80_flow.specs.Points.{Point, StoredPoints, with_frame, AreApart, AreAddresses, IsPointAt, IsNoPoint, Reframes}
use Rattle.frames80.specs.declared.point_numbers.PointNumbers.{PointNumbers}
use Rattle.frames80.specs.PointNumbers.{procedure_number, number_at, same_place, SameNumbers, Puts, NumbersAreOfAddresses}
use Rattle.verify80_flow.specs.PointStore.{point_of, points_of, IsStoredAt, AreStored}

module _ {X : Type 0} where
  -- a write leaves all but the one that is written
  pub slice_get-set : (xs : List X) (i : ℕ) (y : X) (j : ℕ) (x : X) → slice_get (slice_set xs i y) j ≡ Some x → ((j ≡ i) × (x ≡ y)) ⊎ (slice_get xs j ≡ Some x)
  slice_get-set [] i y j x e = absurd (none-some x e)
  slice_get-set (z ∷ xs) zero y zero x e = inl (refl, sym (same_Some y x e))
  slice_get-set (z ∷ xs) zero y (suc j) x e = inr e
  slice_get-set (z ∷ xs) (suc i) y zero x e = inr e
  slice_get-set (z ∷ xs) (suc i) y (suc j) x e = on (slice_get-set xs i y j x e)
    where
      on : ((j ≡ i) × (x ≡ y)) ⊎ (slice_get xs j ≡ Some x) → ((suc j ≡ suc i) × (x ≡ y)) ⊎ (slice_get xs j ≡ Some x)
      on (inl here) = inl (ap suc here.0, here.1)
      on (inr other) = inr other

  pub slice_get-kept : (xs : List X) (i : ℕ) (y : X) (j : ℕ) (x : X) → slice_get xs j ≡ Some x → ((j ≡ i) × (slice_get (slice_set xs i y) j ≡ Some y)) ⊎ (slice_get (slice_set xs i y) j ≡ Some x)
  slice_get-kept [] i y j x e = absurd (none-some x e)
  slice_get-kept (z ∷ xs) zero y zero x e = inl (refl, refl)
  slice_get-kept (z ∷ xs) zero y (suc j) x e = inr e
  slice_get-kept (z ∷ xs) (suc i) y zero x e = inr e
  slice_get-kept (z ∷ xs) (suc i) y (suc j) x e = on (slice_get-kept xs i y j x e)
    where
      on : ((j ≡ i) × (slice_get (slice_set xs i y) j ≡ Some y)) ⊎ (slice_get (slice_set xs i y) j ≡ Some x) → ((suc j ≡ suc i) × (slice_get (slice_set xs i y) j ≡ Some y)) ⊎ (slice_get (slice_set xs i y) j ≡ Some x)
      on (inl here) = inl (ap suc here.0, here.1)
      on (inr other) = inr other

-- where two procedures and two addresses are the same
procedure_same : (p q : Procedure) → procedure_number p ≡ procedure_number q → p ≡ q
procedure_same Main Main e = refl
procedure_same Main (Entry b) e = absurd (omega arith)
procedure_same (Entry a) Main e = absurd (omega arith)
procedure_same (Entry a) (Entry b) e = let f : a ≡ b = omega arith in ap Entry f

module _ (p q : Procedure) (a b : ℕ) (e : same_place p a q b ≡ true) where
  pub procedures_same : p ≡ q
  procedures_same = procedure_same p q ((unsigned_Decides (procedure_number p) (procedure_number q)).0 (first_so (nat_eq (procedure_number p) (procedure_number q)) (nat_eq a b) e))

  pub addresses_same : a ≡ b
  addresses_same = (unsigned_Decides a b).0 (second_so (nat_eq (procedure_number p) (procedure_number q)) (nat_eq a b) e)

-- a frame that has a number is found by it, also when there are more
module _ (old new : List StackFrame) (s : StayNumbered old new) where
  pub points_of-stays : (stored : List StoredPoint) → ((i : ℕ) (point : StoredPoint) → slice_get stored i ≡ Some point → point.frame < length old) → points_of new stored ≡ points_of old stored
  points_of-stays [] framed = refl
  points_of-stays (point ∷ stored) framed =
      let with : StackFrame → Point = λ f. record { procedure = point.procedure; at = point.at; frame = f } in
      let here : point_of new point ≡ point_of old point = ap with (stays_at old new s point.frame (framed 0 point refl)) in
      let rest = points_of-stays stored (λ i q e. framed (suc i) q e) in
      λ j. here j ∷ rest j

  -- and what is stored is seen as before
  module _ (stored : List StoredPoint) (numbers : PointNumbers) (h : AreStored old stored numbers) (seen : StoredPoints) (view_is : record { points = points_of old stored; frames = old } ≡ seen) where
    pub stored_stay : AreStored new stored numbers
    stored_stay = record { framed = λ i point e. stays_there old new s point.frame (h.framed i point e); numbered = h.numbered; stands = h.stands }

    pub points_stay : points_of new stored ≡ seen.points
    points_stay = points_of-stays stored h.framed ∙ ap (λ (v : StoredPoints). v.points) view_is

    pub frames_stay : StayNumbered seen.frames new
    frames_stay = subst (λ (v : StoredPoints). StayNumbered v.frames new) view_is s

-- a stored point and the point that it stands for
pub point_at : (frames : List StackFrame) (stored : List StoredPoint) (i : ℕ) (point : StoredPoint) → slice_get stored i ≡ Some point → slice_get (points_of frames stored) i ≡ Some (point_of frames point)
point_at frames stored i point e = slice_get-map (point_of frames) stored i ∙ ap (option_map (point_of frames)) e

pub stored_at : (frames : List StackFrame) (stored : List StoredPoint) (i : ℕ) (point : Point) → slice_get (points_of frames stored) i ≡ Some point → (q : StoredPoint) × (slice_get stored i ≡ Some q) × (point_of frames q ≡ point)
stored_at frames [] i point e = absurd (none-some point e)
stored_at frames (q ∷ stored) zero point e = (q, refl, same_Some (point_of frames q) point e)
stored_at frames (q ∷ stored) (suc i) point e = stored_at frames stored i point e

module _ (frames : List StackFrame) (stored : List StoredPoint) (numbers : PointNumbers) (h : AreStored frames stored numbers) where
  pub AreStored-same : (after : PointNumbers) → SameNumbers numbers after → AreStored frames stored after
  AreStored-same after s = record {
    framed = h.framed;
    numbered = λ i point e. s.same point.procedure point.at ∙ h.numbered i point e;
    stands = λ procedure at i e. h.stands procedure at i (sym (s.same procedure at) ∙ e);
  }

  -- the number of each point's address
  number_of : (i : ℕ) (point : Point) → slice_get (points_of frames stored) i ≡ Some point → number_at numbers point.procedure point.at ≡ Some i
  number_of i point e =
      let q = stored_at frames stored i point e in
      subst (λ (r : Point). number_at numbers r.procedure r.at ≡ Some i) q.2 (h.numbered i q.0 q.1)

  pub AreApart-stored : AreApart (points_of frames stored)
  AreApart-stored = record {
    apart = λ i j a b ea eb ep et.
        same_Some i j (sym (number_of i a ea) ∙ ap (λ p. number_at numbers p a.at) ep ∙ ap (λ t. number_at numbers b.procedure t) et ∙ number_of j b eb);
  }

  pub AreAddresses-stored : NumbersAreOfAddresses → AreAddresses (points_of frames stored)
  AreAddresses-stored below = record { within = λ i point there. below numbers point.procedure point.at i (number_of i point there) }

  pub IsPointAt-number : (procedure : Procedure) (at i : ℕ) → number_at numbers procedure at ≡ Some i → IsPointAt (points_of frames stored) procedure at i
  IsPointAt-number procedure at i e =
      let s = h.stands procedure at i e in
      record { point = point_of frames s.point; stands = point_at frames stored i s.point s.stands; in_procedure = s.in_procedure; at_address = s.at_address }

  pub IsNoPoint-number : (procedure : Procedure) (at : ℕ) → number_at numbers procedure at ≡ None → IsNoPoint (points_of frames stored) procedure at
  IsNoPoint-number procedure at e = record {
    none = λ i point there ep et.
        none-some i (sym e ∙ sym (ap (λ p. number_at numbers p point.at) ep ∙ ap (λ t. number_at numbers procedure t) et) ∙ number_of i point there);
  }

  module _ (after : PointNumbers) (point : StoredPoint) (framed : point.frame < length frames) (puts : Puts numbers after point.procedure point.at (length stored))
      (new : IsNoPoint (points_of frames stored) point.procedure point.at) where
    pub AreStored-added : AreStored frames (stored ++ point ∷ []) after
    AreStored-added = record { framed = within; numbered = own; stands = found }
      where
        within : (i : ℕ) (q : StoredPoint) → slice_get (stored ++ point ∷ []) i ≡ Some q → q.frame < length frames
        within i q e = by (slice_get-push stored point i q e)
          where
            by : (slice_get stored i ≡ Some q) ⊎ ((i ≡ length stored) × (q ≡ point)) → q.frame < length frames
            by (inl before) = h.framed i q before
            by (inr last) = subst (λ (r : StoredPoint). r.frame < length frames) (sym last.1) framed

        own : (i : ℕ) (q : StoredPoint) → slice_get (stored ++ point ∷ []) i ≡ Some q → number_at after q.procedure q.at ≡ Some i
        own i q e = by (slice_get-push stored point i q e)
          where
            test : (b : Bool) → same_place point.procedure point.at q.procedure q.at ≡ b → slice_get stored i ≡ Some q → number_at after q.procedure q.at ≡ Some i
            test true same before =
                absurd (new.none i (point_of frames q) (point_at frames stored i q before) (sym (procedures_same point.procedure q.procedure point.at q.at same)) (sym (addresses_same point.procedure q.procedure point.at q.at same)))
            test false other before = puts.others q.procedure q.at other ∙ h.numbered i q before

            by : (slice_get stored i ≡ Some q) ⊎ ((i ≡ length stored) × (q ≡ point)) → number_at after q.procedure q.at ≡ Some i
            by (inl before) = test (same_place point.procedure point.at q.procedure q.at) refl before
            by (inr last) = ap (λ (r : StoredPoint). number_at after r.procedure r.at) last.1 ∙ puts.put ∙ ap Some (sym last.0)

        found : (procedure : Procedure) (at i : ℕ) → number_at after procedure at ≡ Some i → IsStoredAt (stored ++ point ∷ []) procedure at i
        found procedure at i e = test (same_place point.procedure point.at procedure at) refl
          where
            test : (b : Bool) → same_place point.procedure point.at procedure at ≡ b → IsStoredAt (stored ++ point ∷ []) procedure at i
            test true same =
                let ep = sym (procedures_same point.procedure procedure point.at at same) in
                let et = sym (addresses_same point.procedure procedure point.at at same) in
                let ei = same_Some (length stored) i (sym puts.put ∙ sym (ap (λ p. number_at after p at) ep ∙ ap (λ t. number_at after point.procedure t) et) ∙ e) in
                record { point = point; stands = subst (λ k. slice_get (stored ++ point ∷ []) k ≡ Some point) ei (slice_get-last stored point); in_procedure = sym ep; at_address = sym et }
            test false other =
                let s = h.stands procedure at i (sym (puts.others procedure at other) ∙ e) in
                record { point = s.point; stands = slice_get-append stored (point ∷ []) i s.point s.stands; in_procedure = s.in_procedure; at_address = s.at_address }

  module _ (i : ℕ) (point next : StoredPoint) (there : slice_get stored i ≡ Some point) (ep : next.procedure ≡ point.procedure) (et : next.at ≡ point.at) (framed : next.frame < length frames) where
    pub AreStored-reframed : AreStored frames (slice_set stored i next) numbers
    AreStored-reframed = record { framed = within; numbered = own; stands = found }
      where
        within : (j : ℕ) (q : StoredPoint) → slice_get (slice_set stored i next) j ≡ Some q → q.frame < length frames
        within j q e = by (slice_get-set stored i next j q e)
          where
            by : ((j ≡ i) × (q ≡ next)) ⊎ (slice_get stored j ≡ Some q) → q.frame < length frames
            by (inl here) = subst (λ (r : StoredPoint). r.frame < length frames) (sym here.1) framed
            by (inr other) = h.framed j q other

        own : (j : ℕ) (q : StoredPoint) → slice_get (slice_set stored i next) j ≡ Some q → number_at numbers q.procedure q.at ≡ Some j
        own j q e = by (slice_get-set stored i next j q e)
          where
            by : ((j ≡ i) × (q ≡ next)) ⊎ (slice_get stored j ≡ Some q) → number_at numbers q.procedure q.at ≡ Some j
            by (inl here) =
                ap (λ (r : StoredPoint). number_at numbers r.procedure r.at) here.1 ∙ ap (λ p. number_at numbers p next.at) ep ∙ ap (λ t. number_at numbers point.procedure t) et ∙ h.numbered i point there ∙ ap Some (sym here.0)
            by (inr other) = h.numbered j q other

        found : (procedure : Procedure) (at j : ℕ) → number_at numbers procedure at ≡ Some j → IsStoredAt (slice_set stored i next) procedure at j
        found procedure at j e = by (h.stands procedure at j e)
          where
            by : IsStoredAt stored procedure at j → IsStoredAt (slice_set stored i next) procedure at j
            by s = on (slice_get-kept stored i next j s.point s.stands)
              where
                on : ((j ≡ i) × (slice_get (slice_set stored i next) j ≡ Some next)) ⊎ (slice_get (slice_set stored i next) j ≡ Some s.point) → IsStoredAt (slice_set stored i next) procedure at j
                on (inl here) =
                    let same = same_Some point s.point (sym there ∙ ap (λ k. slice_get stored k) (sym here.0) ∙ s.stands) in
                    record {
                      point = next;
                      stands = here.1;
                      in_procedure = ep ∙ ap (λ (r : StoredPoint). r.procedure) same ∙ s.in_procedure;
                      at_address = et ∙ ap (λ (r : StoredPoint). r.at) same ∙ s.at_address;
                    }
                on (inr other) = record { point = s.point; stands = other; in_procedure = s.in_procedure; at_address = s.at_address }

-- the points after a push and after a write
module _ (frames : List StackFrame) (stored : List StoredPoint) (next : StoredPoint) where
  pub points_of-added : points_of frames (stored ++ next ∷ []) ≡ points_of frames stored ++ record { procedure = next.procedure; at = next.at; frame = frame_at frames next.frame } ∷ []
  points_of-added = map_push (point_of frames) stored next

  pub points_of-reframed : (i : ℕ) (point : StoredPoint) → slice_get stored i ≡ Some point → next.procedure ≡ point.procedure → next.at ≡ point.at
      → Reframes (points_of frames stored) (points_of frames (slice_set stored i next)) i (frame_at frames next.frame)
  points_of-reframed i point there ep et = record {
    reframed = λ (was : Point) e.
        let eq = same_Some (point_of frames point) was (sym (point_at frames stored i point there) ∙ e) in
        let now : point_of frames next ≡ with_frame (frame_at frames next.frame) was = λ j. record {
          procedure = (ep ∙ ap (λ (r : Point). r.procedure) eq) j;
          at = (et ∙ ap (λ (r : Point). r.at) eq) j;
          frame = frame_at frames next.frame;
        } in
        map-set (point_of frames) stored i next ∙ ap (λ r. slice_set (points_of frames stored) i r) now;
  }

-- the frame of a point that is stored has the number that is stored
pub framed_at : (frames : List StackFrame) (stored : List StoredPoint) (numbers : PointNumbers) → AreStored frames stored numbers → (i : ℕ) (q : StoredPoint) → slice_get stored i ≡ Some q →
    IfSome (slice_get (points_of frames stored) i) (λ (p : Point). IsFrame frames q.frame p.frame)
framed_at frames stored numbers h i q there =
    subst (λ (o : Option Point). IfSome o (λ (p : Point). IsFrame frames q.frame p.frame)) (sym (point_at frames stored i q there))
    (record { there = h.framed i q there; is = refl })
