-- The steps of the worklist: the calls grouped, a call absorbed or a procedure taken off, and the calls that are left.
use Rattle.std.proofs.Common.{◌≡◌, ◌≢◌, ◌<◌, ◌≤◌, ◌+◌, ◌-◌, ◌*◌, ◌⊎◌, inl, inr, ℕ, zero, suc, eqb, List, [], ◌∷◌, ◌++◌, length, map, get_or, set, take, refl, sym, ap, subst, ◌∙◌, arith}
use Rattle.std.specs.Prelude.{pos, Contains, All, slice_index}
use Rattle.std.proofs.lemmas.List.{get_or-set_same, get_or-set_other, length-set, length-append, take_more, get_or_past, length-take-le}
use Rattle.std.proofs.lemmas.List.Elements.{All-contains, Contains-get_or, Contains-append_left, Contains-push_cases, Contains-push, All-from_get_or, All-head, All-tail}
use Rattle.std.proofs.lemmas.List.Sums.{count_by-le-length}
use Rattle.std.proofs.lemmas.Bool.{cases_eq}
use Rattle.frames80.specs.declared.procedure.Procedure.{Procedure}
use Rattle.frames80.specs.declared.procedure.Procedure.TheVariants.{Entry}
use Rattle.verify80_bounds.specs.declared.graph.Depth.{Depth}
use Rattle.verify80_bounds.specs.declared.graph.CallSite.{CallSite}
use Rattle.verify80_bounds.specs.Chains.{HasLast, CallsBy, last, IsModest}
use Rattle.frames80.specs.Procedures.{slot_of}
use Rattle.verify80_bounds.specs.Sums.{AreSums, AreDepths, AreCounted, IsSettled, AreSmall, IsSumAfter, AreStuck, joined, calls_of, AreGrouped, AreIdle, IsWorklist, IsAdvance, AreLeft}
use Rattle.verify80_bounds.proofs.BoundLemmas.{slot_apart, absorbed, small_then}
use Rattle.verify80_bounds.proofs.SumLemmas.{no_call}
use Rattle.verify80_bounds.proofs.ListLemmas.{HasOneMore, one_pushed, one_popped, more_contains, more_contains_it, more_cases}
use Rattle.verify80_bounds.proofs.ListLemmas.{more_length, contains_joined, some_calls, call_of, counted_more, counted_less}

-- the calls are grouped

none_joined : (lists : List (List CallSite)) → ((slot : ℕ) → get_or lists slot [] ≡ []) → (call : CallSite) → Contains (joined lists) call → {X : Type 0} → X
none_joined lists none call there {X} =
    let at = contains_joined lists call there in
    let some : Contains {X = CallSite} [] call = subst (λ (l : List CallSite). Contains l call) (none at.0) at.2 in
    absurd (omega (arith, some.1))

pub no_lists : {X : Type 0} (f : X → List CallSite) (xs : List X) → All (λ (x : X). f x ≡ []) xs → (slot : ℕ) → get_or (map f xs) slot [] ≡ []
no_lists f [] each slot = get_or_past [] slot [] (omega arith)
no_lists f (x ∷ xs) each zero = All-head (λ x. f x ≡ []) x xs each
no_lists f (x ∷ xs) each (suc slot) = no_lists f xs (All-tail (λ x. f x ≡ []) x xs each) slot

-- a procedure without calls has the count 0
counted_none : (lists : List (List CallSite)) → ((slot : ℕ) → get_or lists slot [] ≡ []) → (slot : ℕ) → calls_of slot (joined lists) ≡ 0
counted_none lists none slot = elim (cases_eq (calls_of slot (joined lists)) 0) [
  | inl is ↦ is
  | inr ne ↦ let one = call_of slot (joined lists) (omega arith) in none_joined lists none one.0 one.1
]

pub grouped_first : (lists : List (List CallSite)) (counts : List ℕ) → length lists ≡ 65537 → length counts ≡ 65537 → ((slot : ℕ) → get_or lists slot [] ≡ []) →
    ((slot : ℕ) → get_or counts slot 0 ≡ 0) → AreGrouped [] lists counts
grouped_first lists counts places count_places none zero_at = record {
  counted = record {
    callee = λ slot call there.
        let some : Contains {X = CallSite} [] call = subst (λ (l : List CallSite). Contains l call) (none slot) there in
        absurd (omega (arith, some.1));
    counted = λ slot. zero_at slot ∙ sym (counted_none lists none slot);
    places = places;
    count_places = count_places;
  };
  all = λ call there. absurd (omega (arith, there.1));
  of_list = λ call there. none_joined lists none call there;
  as_many = elim (cases_eq (length (joined lists)) 0) [
    | inl is ↦ is
    | inr ne ↦ none_joined lists none (get_or (joined lists) 0 no_call) (Contains-get_or (joined lists) 0 no_call (omega arith))
  ];
}

-- where a list is set, each call in it or in another one calls the procedure of its slot
callees_set : (lists : List (List CallSite)) (at : ℕ) (list : List CallSite) → ((slot : ℕ) (e : CallSite) → Contains (get_or lists slot []) e → slot_of (Entry e.target) ≡ slot) →
    at < length lists → ((e : CallSite) → Contains list e → slot_of (Entry e.target) ≡ at) → (slot : ℕ) (e : CallSite) →
    Contains (get_or (set lists at list) slot []) e → slot_of (Entry e.target) ≡ slot
callees_set lists at list callee within here slot e there = elim (cases_eq slot at) [
  | inl same ↦ here e (subst (λ (l : List CallSite). Contains l e) (ap (λ (k : ℕ). get_or (set lists at list) k []) same ∙ get_or-set_same lists at list [] within) there) ∙ sym same
  | inr ne ↦ callee slot e (subst (λ (l : List CallSite). Contains l e) (get_or-set_other lists at slot list [] ne) there)
]

pub grouped_more : (seen : List CallSite) (lists : List (List CallSite)) (counts : List ℕ) (call : CallSite) (at caller : ℕ) → at ≡ slot_of (Entry call.target) →
    caller ≡ slot_of call.caller → at < 65537 → caller < 65537 → AreGrouped seen lists counts →
    AreGrouped (seen ++ call ∷ []) (set lists at (get_or lists at [] ++ call ∷ [])) (set counts caller (get_or counts caller 0 + 1))
grouped_more seen lists counts call at caller at_is caller_is at_within caller_within are =
    let within : at < length lists = omega (arith, are.counted.places) in
    let count_within : caller < length counts = omega (arith, are.counted.count_places) in
    let more : List CallSite = joined (set lists at (get_or lists at [] ++ call ∷ [])) in
    let has : HasOneMore (joined lists) more call = one_pushed lists at call within in
    record {
      counted = record {
        callee = callees_set lists at (get_or lists at [] ++ call ∷ []) are.counted.callee within (λ e there. elim (Contains-push_cases (get_or lists at []) call e there) [
          | inl before ↦ are.counted.callee at e before
          | inr same ↦ ap (λ (x : CallSite). slot_of (Entry x.target)) (sym same) ∙ sym at_is
        ]);
        counted = counted_more (joined lists) more call counts caller has caller_is count_within are.counted.counted;
        places = length-set lists at (get_or lists at [] ++ call ∷ []) ∙ are.counted.places;
        count_places = length-set counts caller (get_or counts caller 0 + 1) ∙ are.counted.count_places;
      };
      all = λ e there. elim (Contains-push_cases seen call e there) [
        | inl before ↦ more_contains (joined lists) more call has e (are.all e before)
        | inr same ↦ subst (λ (x : CallSite). Contains more x) same (more_contains_it (joined lists) more call has)
      ];
      of_list = λ e there. elim (more_cases (joined lists) more call has e there) [
        | inl same ↦ subst (λ (x : CallSite). Contains (seen ++ call ∷ []) x) same (Contains-push seen call)
        | inr before ↦ Contains-append_left seen (call ∷ []) e (are.of_list e before)
      ];
      as_many = more_length (joined lists) more call has ∙ ap (λ (n : ℕ). n + 1) are.as_many ∙ sym (length-append seen (call ∷ []));
    }

pub grouped_at : (calls : List CallSite) (lists : List (List CallSite)) (counts : List ℕ) (i at caller : ℕ) (list : List CallSite) (count : ℕ) → i < length calls →
    at ≡ slot_of (Entry (get_or calls i no_call).target) → caller ≡ slot_of (get_or calls i no_call).caller → at < 65537 → caller < 65537 →
    list ≡ get_or lists at [] ++ get_or calls i no_call ∷ [] → count ≡ get_or counts caller 0 → AreGrouped (take i calls) lists counts →
    AreGrouped (take (i + 1) calls) (set lists at list) (set counts caller (count + 1))
grouped_at calls lists counts i at caller list count within at_is caller_is at_within caller_within list_is count_is are =
    subst (λ (l : List CallSite). AreGrouped (take (i + 1) calls) (set lists at l) (set counts caller (count + 1))) (sym list_is)
    (subst (λ (n : ℕ). AreGrouped (take (i + 1) calls) (set lists at (get_or lists at [] ++ get_or calls i no_call ∷ [])) (set counts caller (n + 1))) (sym count_is)
    (subst (λ (l : List CallSite). AreGrouped l (set lists at (get_or lists at [] ++ get_or calls i no_call ∷ [])) (set counts caller (get_or counts caller 0 + 1)))
    (sym (take_more calls i no_call within))
    (grouped_more (take i calls) lists counts (get_or calls i no_call) at caller at_is caller_is at_within caller_within are)))

pub count_few : (calls : List CallSite) (lists : List (List CallSite)) (counts : List ℕ) (i caller : ℕ) → i < length calls → length calls ≤ 262144 →
    AreGrouped (take i calls) lists counts → get_or counts caller 0 ≤ 262144
count_few calls lists counts i caller within few are =
    let most : calls_of caller (joined lists) ≤ length (joined lists) = count_by-le-length (λ (e : CallSite). eqb (slot_of e.caller) caller) (joined lists) in
    omega (arith, most, are.counted.counted caller, are.as_many, length-take-le i calls (omega arith))

-- the procedures without calls

pub idle_more : (lists : List (List CallSite)) (counts slots : List ℕ) (i : ℕ) → get_or counts i 0 ≡ 0 → AreIdle lists counts i slots →
    AreIdle lists counts (i + 1) (slots ++ i ∷ [])
idle_more lists counts slots i zero_here are = record {
  none = λ slot there. elim (Contains-push_cases slots i slot there) [
    | inl before ↦ let was = are.none slot before in (omega (arith, was.0), was.1)
    | inr same ↦ (omega (arith, same), ap (λ (k : ℕ). get_or counts k 0) (sym same) ∙ zero_here)
  ];
  all = λ slot below is. elim (cases_eq slot i) [
    | inl same ↦ inl (subst (λ (k : ℕ). Contains (slots ++ i ∷ []) k) (sym same) (Contains-push slots i))
    | inr ne ↦ elim (are.all slot (omega arith) is) [ inl there ↦ inl (Contains-append_left slots (i ∷ []) slot there) | inr empty ↦ inr empty ]
  ];
}

pub idle_same : (lists : List (List CallSite)) (counts slots : List ℕ) (i : ℕ) → (get_or counts i 0 ≡ 0 → get_or lists i [] ≡ []) → AreIdle lists counts i slots →
    AreIdle lists counts (i + 1) slots
idle_same lists counts slots i none_here are = record {
  none = λ slot there. let was = are.none slot there in (omega (arith, was.0), was.1);
  all = λ slot below is. elim (cases_eq slot i) [
    | inl same ↦ inr (ap (λ (k : ℕ). get_or lists k []) same ∙ none_here (ap (λ (k : ℕ). get_or counts k 0) (sym same) ∙ is))
    | inr ne ↦ are.all slot (omega arith) is
  ];
}

-- the worklist at first

pub worklist_first : (depths : List Depth) (calls : List CallSite) (sums : List ℕ) (lists : List (List CallSite)) (counts settled : List ℕ) → AreDepths depths sums → length sums ≡ 65537 →
    AreGrouped calls lists counts → AreIdle lists counts (length counts) settled → All (λ (call : CallSite). IsModest call.depth) calls → length calls ≤ 262144 →
    AreSums depths calls sums (joined lists) × IsWorklist sums lists counts settled
worklist_first depths calls sums lists counts settled are places grouped idle modest few = (
  record {
    reached = λ entered p first. elim (are.reached (slot_of p)) [
      | inl none ↦ last p _ (subst (λ (k : ℕ). HasLast depths p (pos k)) (sym none) first)
      | inr has ↦ last p _ (has p refl)
    ];
    deep = are.deep;
    call = λ call there. inl (grouped.all call there);
    of_list = grouped.of_list;
  },
  record {
    counted = grouped.counted;
    small = record { small = λ slot. first_small _ _ _ (are.small slot) grouped.as_many few };
    modest = All-from_get_or (λ (call : CallSite). IsModest call.depth) (joined lists) no_call (λ i within.
        All-contains (λ (call : CallSite). IsModest call.depth) calls (get_or (joined lists) i no_call) modest
        (grouped.of_list (get_or (joined lists) i no_call) (Contains-get_or (joined lists) i no_call within)));
    places = places;
    none = λ slot there. let was = idle.none slot there in (omega (arith, was.0, grouped.counted.count_places), was.1);
    all = λ slot is. elim (cases_eq (65537 - slot) 0) [
      | inl past ↦ inr (get_or_past lists slot [] (omega (arith, grouped.counted.places)))
      | inr inside ↦ idle.all slot (omega (arith, grouped.counted.count_places)) is
    ];
  },
)
  where
    first_small : (v n m : ℕ) → v ≤ 4194304 → n ≡ m → m ≤ 262144 → v + 4194304 * n ≤ 4194304 * 262145
    first_small v n m h e few = omega arith

-- a call is absorbed

-- a procedure is appended to the settled ones, or not, as its count says
pub record IsAppended (settled after counts : List ℕ) (caller : ℕ) : Type 0 where
  pub new : slice_index counts caller ≡ 0 → Contains after caller
  pub still : (slot : ℕ) → Contains settled slot → Contains after slot
  pub of : (slot : ℕ) → Contains after slot → Contains settled slot ⊎ ((slot ≡ caller) × (slice_index counts caller ≡ 0))
  pub longer : length after ≤ length settled + 1

pub appended : (settled counts : List ℕ) (caller : ℕ) → slice_index counts caller ≡ 0 → IsAppended settled (settled ++ caller ∷ []) counts caller
appended settled counts caller is = record {
  new = λ _. Contains-push settled caller;
  still = λ slot there. Contains-append_left settled (caller ∷ []) slot there;
  of = λ slot there. elim (Contains-push_cases settled caller slot there) [ inl before ↦ inl before | inr same ↦ inr (sym same, is) ];
  longer = omega (arith, length-append settled (caller ∷ []));
}

pub not_appended : (settled counts : List ℕ) (caller : ℕ) → slice_index counts caller ≢ 0 → IsAppended settled settled counts caller
not_appended settled counts caller ne = record {
  new = λ is. absurd (ne is);
  still = λ slot there. there;
  of = λ slot there. inl there;
  longer = omega arith;
}

-- the last call to a settled procedure
pub record IsLastCall (sums : List ℕ) (lists : List (List CallSite)) (counts settled : List ℕ) (callee : ℕ) (rest : List CallSite) (call : CallSite) : Type 0 where
  pub are : IsWorklist sums lists counts settled
  pub settled_is : Contains settled callee
  pub list : get_or lists callee [] ≡ rest ++ call ∷ []

module _ (sums : List ℕ) (lists : List (List CallSite)) (counts settled : List ℕ) (callee : ℕ) (rest : List CallSite) (call : CallSite)
    (is : IsLastCall sums lists counts settled callee rest call) where
  abbrev lists_after : List (List CallSite)
  lists_after = set lists callee rest

  abbrev counts_after : ℕ → List ℕ
  counts_after caller = set counts caller (get_or counts caller 0 - 1)

  callee_within : callee < length lists
  callee_within = omega (arith, (is.are.none callee is.settled_is).0, is.are.counted.places)

  has_one : HasOneMore (joined lists_after) (joined lists) call
  has_one = one_popped lists callee rest call callee_within is.list

  pub last_modest : IsModest call.depth
  last_modest = All-contains (λ (e : CallSite). IsModest e.depth) (joined lists) call is.are.modest (more_contains_it _ _ call has_one)

  pub last_counted : (caller : ℕ) → caller ≡ slot_of call.caller → 1 ≤ get_or counts caller 0
  last_counted caller caller_is =
      let some = some_calls caller (joined lists) call (more_contains_it _ _ call has_one) (sym caller_is) in
      omega (arith, is.are.counted.counted caller, some)

  -- its callee has no call that is left
  last_settled : IsSettled (joined lists) (Entry call.target)
  last_settled = record {
    none = λ e by.
        let there : Contains (get_or lists callee []) call = subst (λ (l : List CallSite). Contains l call) (sym is.list) (Contains-push rest call) in
        let some = some_calls callee (joined lists) e by.there (ap slot_of by.caller ∙ is.are.counted.callee callee call there) in
        omega (arith, some, is.are.counted.counted callee, (is.are.none callee is.settled_is).1);
  }

  counted_after : (caller : ℕ) → caller ≡ slot_of call.caller → caller < 65537 → AreCounted lists_after (counts_after caller)
  counted_after caller caller_is caller_within = record {
    callee = callees_set lists callee rest is.are.counted.callee callee_within (λ e there. is.are.counted.callee callee e
        (subst (λ (l : List CallSite). Contains l e) (sym is.list) (Contains-append_left rest (call ∷ []) e there)));
    counted = counted_less (joined lists_after) (joined lists) call counts caller has_one caller_is (omega (arith, caller_within, is.are.counted.count_places))
        is.are.counted.counted;
    places = length-set lists callee rest ∙ is.are.counted.places;
    count_places = length-set counts caller (get_or counts caller 0 - 1) ∙ is.are.counted.count_places;
  }

  modest_after : All (λ (e : CallSite). IsModest e.depth) (joined lists_after)
  modest_after = All-from_get_or (λ (e : CallSite). IsModest e.depth) (joined lists_after) no_call (λ i below.
      All-contains (λ (e : CallSite). IsModest e.depth) (joined lists) (get_or (joined lists_after) i no_call) is.are.modest
      (more_contains _ _ call has_one (get_or (joined lists_after) i no_call) (Contains-get_or (joined lists_after) i no_call below)))

  -- its caller's count is lowered, and no other
  same_count : (caller slot : ℕ) → slot ≢ caller → get_or (counts_after caller) slot 0 ≡ get_or counts slot 0
  same_count caller slot ne = get_or-set_other counts caller slot (get_or counts caller 0 - 1) 0 ne

  none_after : (settled_after : List ℕ) (caller : ℕ) → caller ≡ slot_of call.caller → caller < 65537 → IsAppended settled settled_after (counts_after caller) caller →
      (slot : ℕ) → Contains settled_after slot → (slot < 65537) × (slice_index (counts_after caller) slot ≡ 0)
  none_after settled_after caller caller_is caller_within appends slot there = elim (appends.of slot there) [
    | inl before ↦
        let was = is.are.none slot before in
        let some = last_counted caller caller_is in
        (was.0, same_count caller slot (λ same. omega (arith, some, ap (λ (k : ℕ). get_or counts k 0) same, was.1)) ∙ was.1)
    | inr new ↦ (omega (arith, new.0, caller_within), ap (λ (k : ℕ). get_or (counts_after caller) k 0) new.0 ∙ new.1)
  ]

  all_after : (settled_after : List ℕ) (caller : ℕ) → IsAppended settled settled_after (counts_after caller) caller → (slot : ℕ) →
      slice_index (counts_after caller) slot ≡ 0 → Contains settled_after slot ⊎ (get_or lists_after slot [] ≡ [])
  all_after settled_after caller appends slot zero_now = elim (cases_eq slot caller) [
    | inl same ↦ inl (subst (λ (k : ℕ). Contains settled_after k) (sym same) (appends.new (ap (λ (k : ℕ). get_or (counts_after caller) k 0) (sym same) ∙ zero_now)))
    | inr ne ↦ elim (is.are.all slot (sym (same_count caller slot ne) ∙ zero_now)) [
      | inl before ↦ inl (appends.still slot before)
      | inr none ↦ elim (cases_eq slot callee) [
        | inl here ↦ inl (appends.still slot (subst (λ (k : ℕ). Contains settled k) (sym here) is.settled_is))
        | inr other ↦ inr (get_or-set_other lists callee slot rest [] other ∙ none)
      ]
    ]
  ]

  small_after : (sums_after : List ℕ) → IsSumAfter sums call sums_after → AreSmall sums_after (length (joined lists_after))
  small_after sums_after then =
      subst (λ (s : List ℕ). AreSmall s (length (joined lists_after))) (sym then.is)
      (subst (λ (l : List CallSite). AreSmall (set sums (slot_of call.caller) then.bytes) (length l)) (sym has_one.few_is)
      (small_then sums has_one.front call has_one.back then.bytes then.within then.raised last_modest
      (subst (λ (l : List CallSite). AreSmall sums (length l)) has_one.more_is is.are.small)))

  hold_after : (sums_after : List ℕ) → IsSumAfter sums call sums_after → (depths : List Depth) (calls : List CallSite) → AreSums depths calls sums (joined lists) →
      AreSums depths calls sums_after (joined lists_after)
  hold_after sums_after then depths calls was =
      subst (λ (s : List ℕ). AreSums depths calls s (joined lists_after)) (sym then.is)
      (subst (λ (l : List CallSite). AreSums depths calls (set sums (slot_of call.caller) then.bytes) l) (sym has_one.few_is)
      (absorbed depths calls sums has_one.front call has_one.back then.bytes (record {
        are = subst (λ (l : List CallSite). AreSums depths calls sums l) has_one.more_is was;
        settled = subst (λ (l : List CallSite). IsSettled l (Entry call.target)) has_one.more_is last_settled;
        within = then.within;
        raise = then.raised;
      })))

  pub absorbs : (sums_after settled_after : List ℕ) (caller : ℕ) → caller ≡ slot_of call.caller → caller < 65537 → IsSumAfter sums call sums_after →
      IsAppended settled settled_after (counts_after caller) caller → IsAdvance sums lists settled sums_after lists_after (counts_after caller) settled_after
  absorbs sums_after settled_after caller caller_is caller_within then appends = record {
    worklist = record {
      counted = counted_after caller caller_is caller_within;
      small = small_after sums_after then;
      modest = modest_after;
      places = ap length then.is ∙ length-set sums (slot_of call.caller) then.bytes ∙ is.are.places;
      none = none_after settled_after caller caller_is caller_within appends;
      all = all_after settled_after caller appends;
    };
    hold = hold_after sums_after then;
    fewer = omega (arith, more_length _ _ call has_one, appends.longer);
  }

-- a procedure without callers is taken off
pub taken_off : (sums : List ℕ) (lists lists_after : List (List CallSite)) (counts settled after : List ℕ) (callee : ℕ) → IsWorklist sums lists counts settled →
    settled ≡ after ++ callee ∷ [] → get_or lists callee [] ≡ [] → lists_after ≡ lists → IsAdvance sums lists settled sums lists_after counts after
taken_off sums lists lists_after counts settled after callee are is none same =
    subst (λ (l : List (List CallSite)). IsAdvance sums lists settled sums l counts after) (sym same) (record {
      worklist = record {
        counted = are.counted;
        small = are.small;
        modest = are.modest;
        places = are.places;
        none = λ slot there. are.none slot (subst (λ (l : List ℕ). Contains l slot) (sym is) (Contains-append_left after (callee ∷ []) slot there));
        all = λ slot zero_now. elim (are.all slot zero_now) [
          | inl there ↦ elim (Contains-push_cases after callee slot (subst (λ (l : List ℕ). Contains l slot) is there)) [
            | inl before ↦ inl before
            | inr here ↦ inr (ap (λ (k : ℕ). get_or lists k []) (sym here) ∙ none)
          ]
          | inr empty ↦ inr empty
        ];
      };
      hold = λ depths calls was. was;
      fewer = omega (arith, ap length is, length-append after (callee ∷ []));
    })

-- the calls that are left

pub left_kept : (calls : List CallSite) (counts : List ℕ) (pending : List CallSite) (i to : ℕ) → i < length calls → to ≡ slot_of (Entry (get_or calls i no_call).target) →
    0 < get_or counts to 0 → AreLeft (take i calls) counts pending → AreLeft (take (i + 1) calls) counts (pending ++ get_or calls i no_call ∷ [])
left_kept calls counts pending i to within is some are =
    subst (λ (l : List CallSite). AreLeft l counts (pending ++ get_or calls i no_call ∷ [])) (sym (take_more calls i no_call within)) (record {
      of_list = λ e there. elim (Contains-push_cases pending (get_or calls i no_call) e there) [
        | inl before ↦ Contains-append_left (take i calls) (get_or calls i no_call ∷ []) e (are.of_list e before)
        | inr same ↦ subst (λ (x : CallSite). Contains (take i calls ++ get_or calls i no_call ∷ []) x) same (Contains-push (take i calls) (get_or calls i no_call))
      ];
      counted = λ e there. elim (Contains-push_cases pending (get_or calls i no_call) e there) [
        | inl before ↦ are.counted e before
        | inr same ↦ subst (λ (k : ℕ). 0 < get_or counts k 0) (is ∙ ap (λ (x : CallSite). slot_of (Entry x.target)) same) some
      ];
      all = λ e there left. elim (Contains-push_cases (take i calls) (get_or calls i no_call) e there) [
        | inl before ↦ Contains-append_left pending (get_or calls i no_call ∷ []) e (are.all e before left)
        | inr same ↦ subst (λ (x : CallSite). Contains (pending ++ get_or calls i no_call ∷ []) x) same (Contains-push pending (get_or calls i no_call))
      ];
    })

pub left_absorbed : (calls : List CallSite) (counts : List ℕ) (pending : List CallSite) (i to : ℕ) → i < length calls → to ≡ slot_of (Entry (get_or calls i no_call).target) →
    get_or counts to 0 ≤ 0 → AreLeft (take i calls) counts pending → AreLeft (take (i + 1) calls) counts pending
left_absorbed calls counts pending i to within is none are =
    subst (λ (l : List CallSite). AreLeft l counts pending) (sym (take_more calls i no_call within)) (record {
      of_list = λ e there. Contains-append_left (take i calls) (get_or calls i no_call ∷ []) e (are.of_list e there);
      counted = are.counted;
      all = λ e there left. elim (Contains-push_cases (take i calls) (get_or calls i no_call) e there) [
        | inl before ↦ are.all e before left
        | inr same ↦ absurd (omega (arith, left, none, ap (λ (k : ℕ). get_or counts k 0) (is ∙ ap (λ (x : CallSite). slot_of (Entry x.target)) same)))
      ];
    })

-- at the end

-- the worklist is empty, and the calls that are left were found
pub record IsDone (depths : List Depth) (calls : List CallSite) (sums : List ℕ) (lists : List (List CallSite)) (counts : List ℕ) (pending : List CallSite) : Type 0 where
  pub are : AreSums depths calls sums (joined lists)
  pub worklist : IsWorklist sums lists counts []
  pub left : AreLeft calls counts pending

module _ (depths : List Depth) (calls : List CallSite) (sums : List ℕ) (lists : List (List CallSite)) (counts : List ℕ) (pending : List CallSite)
    (done : IsDone depths calls sums lists counts pending) where
  is_pending : (call : CallSite) → Contains (joined lists) call → Contains pending call
  is_pending call there =
      let at = contains_joined lists call there in
      let slot_is : slot_of (Entry call.target) ≡ at.0 = done.worklist.counted.callee at.0 call at.2 in
      done.left.all call (done.are.of_list call there) (elim (cases_eq (slice_index counts (slot_of (Entry call.target))) 0) [
        | inl none ↦ elim (done.worklist.all at.0 (ap (λ (k : ℕ). get_or counts k 0) (sym slot_is) ∙ none)) [
          | inl in_none ↦ absurd (omega (arith, in_none.1))
          | inr empty ↦
              let some : Contains {X = CallSite} [] call = subst (λ (l : List CallSite). Contains l call) empty at.2 in
              absurd (omega (arith, some.1))
        ]
        | inr ne ↦ omega arith
      ])

  -- a call of a procedure that has some
  a_call : (p : Procedure) → 0 < slice_index counts (slot_of p) → (call : CallSite) × CallsBy (joined lists) p call
  a_call p some =
      let one = call_of (slot_of p) (joined lists) (omega (arith, some, done.worklist.counted.counted (slot_of p))) in
      (one.0, record { there = one.1; caller = slot_apart one.0.caller p one.2 })

  is_left : (call : CallSite) → Contains pending call → Contains (joined lists) call
  is_left call there = elim (done.are.call call (done.left.of_list call there)) [
    | inl still ↦ still
    | inr absorbed ↦
        let one = a_call (Entry call.target) (done.left.counted call there) in
        absurd (absorbed.settled.none one.0 one.1)
  ]

  pub sums_at_end : AreSums depths calls sums pending
  sums_at_end = record {
    reached = done.are.reached;
    deep = done.are.deep;
    call = λ call there. elim (done.are.call call there) [
      | inl still ↦ inl (is_pending call still)
      | inr absorbed ↦ inr (record {
        settled = record { none = λ e by. absorbed.settled.none e (record { there = is_left e by.there; caller = by.caller }) };
        ends = absorbed.ends;
        above = absorbed.above;
      })
    ];
    of_list = done.left.of_list;
  }

  pub stuck_at_end : AreStuck pending
  stuck_at_end = record {
    next = λ call there.
        let one = a_call (Entry call.target) (done.left.counted call there) in
        (one.0, record { there = is_pending one.0 one.1.there; caller = one.1.caller });
  }
