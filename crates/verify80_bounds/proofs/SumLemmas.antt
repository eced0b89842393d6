-- The steps of the loops over depths and calls.
use Rattle.std.proofs.Common.{◌≡◌, ◌<◌, ◌≤◌, ◌+◌, ◌-◌, ◌⊎◌, eqb, inl, inr, ℕ, true, List, [], ◌∷◌, ◌++◌, length, get_or, set, take, refl, sym, ap, subst, ◌∙◌, arith}
use Rattle.std.specs.Prelude.{ℤ, pos, ◌≤ℤ◌, All, slice_index}
use Rattle.std.proofs.lemmas.List.{get_or-set_same, get_or-set_other, take_more, get_or_past, nil_from_length}
use Rattle.std.proofs.lemmas.List.Elements.{Contains-append_left, Contains-push_cases, Contains-push}
use Rattle.std.proofs.lemmas.Bool.{cases_eq, eqb-true}
use Rattle.std.proofs.lemmas.Int.{ints}
use Rattle.frames80.specs.declared.procedure.Procedure.{Procedure}
use Rattle.frames80.specs.declared.procedure.Procedure.TheVariants.{Main, Entry}
use Rattle.verify80_bounds.specs.declared.graph.Depth.{Depth}
use Rattle.verify80_bounds.specs.declared.graph.CallSite.{CallSite}
use Rattle.verify80_bounds.specs.Chains.{bytes_of, HasLast, through_call, IsModest}
use Rattle.frames80.specs.Procedures.{slot_of}
use Rattle.verify80_bounds.specs.Sums.{AreDepths, IsRaised, IsSumAfter}
use Rattle.verify80_bounds.proofs.BoundLemmas.{slot_apart}

-- depths

pub no_depths : (sums : List ℕ) → ((k : ℕ) → get_or sums k 0 ≡ 0) → AreDepths [] sums
no_depths sums zero_at = record {
  reached = λ slot. inl (zero_at slot);
  deep = λ d there. absurd (omega (arith, there.1));
  small = λ slot. omega (arith, zero_at slot);
}

pub depth_more : (seen : List Depth) (sums : List ℕ) (d : Depth) (i n : ℕ) → i ≡ slot_of d.procedure → i < length sums → IsRaised (get_or sums i 0) d.depth n →
    IsModest d.depth → AreDepths seen sums → AreDepths (seen ++ d ∷ []) (set sums i n)
depth_more seen sums d i n at within raise modest are = record {
  reached = λ slot. elim (cases_eq slot i) [
    | inl here ↦ elim raise.one_of [
      | inl same ↦ old slot (now_at slot here ∙ same ∙ ap (λ (k : ℕ). get_or sums k 0) (sym here))
      | inr is ↦ inr (λ p slot_is. record {
        depth = d;
        there = Contains-push seen d;
        procedure = slot_apart d.procedure p (sym at ∙ sym here ∙ sym slot_is);
        is = ap pos (now_at slot here) ∙ is;
      })
    ]
    | inr ne ↦ old slot (get_or-set_other sums i slot n 0 ne)
  ];
  deep = λ e there. elim (Contains-push_cases seen d e there) [
    | inl before ↦ le_then e.depth _ _ (are.deep e before) (no_less (slot_of e.procedure))
    | inr same ↦ subst (λ (x : Depth). x.depth ≤ℤ pos (bytes_of (set sums i n) x.procedure)) same
        (subst (λ (k : ℕ). d.depth ≤ℤ pos k) (sym (ap (λ (k : ℕ). get_or (set sums i n) k 0) (sym at) ∙ get_or-set_same sums i n 0 within)) raise.above)
  ];
  small = λ slot. elim (cases_eq slot i) [
    | inl here ↦ elim raise.one_of [
      | inl same ↦ small_same _ _ _ (now_at slot here) same (are.small i)
      | inr is ↦ small_new d.depth _ _ (now_at slot here) is modest.high
    ]
    | inr ne ↦ small_same _ _ _ (get_or-set_other sums i slot n 0 ne) refl (are.small slot)
  ];
}
  where
    now_at : (slot : ℕ) → slot ≡ i → get_or (set sums i n) slot 0 ≡ n
    now_at slot here = ap (λ (k : ℕ). get_or (set sums i n) k 0) here ∙ get_or-set_same sums i n 0 within

    wider : (p : Procedure) (bytes : ℤ) → HasLast seen p bytes → HasLast (seen ++ d ∷ []) p bytes
    wider p bytes has = record { depth = has.depth; there = Contains-append_left seen (d ∷ []) has.depth has.there; procedure = has.procedure; is = has.is }

    old : (slot : ℕ) → get_or (set sums i n) slot 0 ≡ get_or sums slot 0 →
        (slice_index (set sums i n) slot ≡ 0) ⊎ ((p : Procedure) → slot_of p ≡ slot → HasLast (seen ++ d ∷ []) p (pos (slice_index (set sums i n) slot)))
    old slot e = elim (are.reached slot) [
      | inl none ↦ inl (e ∙ none)
      | inr has ↦ inr (λ p slot_is. wider p _ (subst (λ (k : ℕ). HasLast seen p (pos k)) (sym e) (has p slot_is)))
    ]

    no_less : (k : ℕ) → get_or sums k 0 ≤ get_or (set sums i n) k 0
    no_less k = elim (cases_eq k i) [
      | inl e ↦ omega (arith, now_at k e, raise.no_less, ap (λ (j : ℕ). get_or sums j 0) e)
      | inr ne ↦ omega (arith, get_or-set_other sums i k n 0 ne)
    ]

    le_then : (x : ℤ) (m k : ℕ) → x ≤ℤ pos m → m ≤ k → x ≤ℤ pos k
    le_then x m k h le = omega (arith, ints)

    small_same : (v m k : ℕ) → v ≡ m → m ≡ k → k ≤ 4194304 → v ≤ 4194304
    small_same v m k e f h = omega arith

    small_new : (x : ℤ) (v m : ℕ) → v ≡ m → pos m ≡ x → x ≤ℤ pos 2097152 → v ≤ 4194304
    small_new x v m e f h = omega (arith, ints)

-- calls

pub sum_after : (sums : List ℕ) (call : CallSite) (at to : ℕ) (bytes : ℤ) (n : ℕ) → at ≡ slot_of call.caller → to ≡ slot_of (Entry call.target) → at < length sums →
    bytes ≡ through_call call (pos (get_or sums to 0)) → IsRaised (get_or sums at 0) bytes n → IsSumAfter sums call (set sums at n)
sum_after sums call at to bytes n here there inside is raise = record {
  bytes = n;
  raised = subst (λ (b : ℤ). IsRaised (bytes_of sums call.caller) b n) (is ∙ ap (λ (k : ℕ). through_call call (pos (get_or sums k 0))) there)
      (subst (λ (k : ℕ). IsRaised (get_or sums k 0) bytes n) here raise);
  is = ap (λ (k : ℕ). set sums k n) here;
  within = subst (λ (k : ℕ). k < length sums) here inside;
}

-- the same at an index

abbrev pub no_call : CallSite
no_call = record { caller = Main; at = 0; depth = pos 0; target = 0 }

abbrev pub no_depth : Depth
no_depth = record { procedure = Main; depth = pos 0 }

pub depth_at : (depths : List Depth) (sums : List ℕ) (i at n old : ℕ) (bytes : ℤ) → i < length depths → at ≡ slot_of (get_or depths i no_depth).procedure → at < length sums →
    old ≡ get_or sums at 0 → bytes ≡ (get_or depths i no_depth).depth → IsRaised old bytes n → IsModest (get_or depths i no_depth).depth →
    AreDepths (take i depths) sums → AreDepths (take (i + 1) depths) (set sums at n)
depth_at depths sums i at n old bytes within is inside was same raise modest are =
    subst (λ (l : List Depth). AreDepths l (set sums at n)) (sym (take_more depths i no_depth within))
    (depth_more (take i depths) sums (get_or depths i no_depth) at n is inside
    (subst (λ (b : ℤ). IsRaised (get_or sums at 0) b n) same (subst (λ (k : ℕ). IsRaised k bytes n) was raise)) modest are)

pub none_of : {X : Type 0} (xs : List X) (x : X) → All (λ (y : X). y ≡ x) xs → (k : ℕ) → get_or xs k x ≡ x
none_of xs x each k = elim (cases_eq (length xs - k) 0) [
  | inl past ↦ get_or_past xs k x (omega arith)
  | inr inside ↦ each k x (omega arith)
]

-- a Vec of no elements
pub no_items : {X : Type 0} (items : List X) (n : ℕ) → n ≡ length items → eqb n 0 ≡ true → items ≡ []
no_items items n is none = nil_from_length items (sym is ∙ eqb-true n 0 none)
