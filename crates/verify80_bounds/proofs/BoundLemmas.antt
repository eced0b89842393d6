-- What the sums of the procedures' bytes keep while calls are absorbed, and what they are at the end.
use Rattle.std.proofs.Common.{◌≡◌, ◌≢◌, ◌<◌, ◌≤◌, ◌+◌, ◌*◌, ◌⊎◌, inl, inr, ℕ, List, [], ◌∷◌, ◌++◌, length, get_or, set, refl, sym, ap, subst, ◌∙◌, arith}
use Rattle.std.specs.Prelude.{ℤ, pos, ◌+ℤ◌, ◌≤ℤ◌, Contains, slice_index}
use Rattle.std.proofs.lemmas.List.{get_or-set_same, get_or-set_other, length-append}
use Rattle.std.proofs.lemmas.List.Elements.{Contains-append_left, Contains-append_right, Contains-append_cases, Contains-push_cases, Contains-push}
use Rattle.std.proofs.lemmas.Bool.{cases_eq}
use Rattle.std.proofs.lemmas.Int.{ints}
use Rattle.frames80.specs.declared.procedure.Procedure.{Procedure}
use Rattle.frames80.specs.declared.procedure.Procedure.TheVariants.{Main, Entry}
use Rattle.verify80_bounds.specs.declared.graph.Depth.{Depth}
use Rattle.verify80_bounds.specs.declared.graph.CallSite.{CallSite}
use Rattle.verify80_bounds.specs.Chains.{bytes_of, HasLast, through_call, Chain, last, through, AreEntered, IsModest}
use Rattle.frames80.specs.Procedures.{slot_of}
use Rattle.verify80_bounds.specs.Sums.{Ends, ends, IsSettled, IsAbsorbed, AreSums, IsRaised, AreSmall}

-- no two procedures have one slot
pub slot_apart : (p q : Procedure) → slot_of p ≡ slot_of q → p ≡ q
slot_apart Main Main e = refl
slot_apart Main (Entry b) e = absurd (omega arith)
slot_apart (Entry a) Main e = absurd (omega arith)
slot_apart (Entry a) (Entry b) e = ap Entry (omega arith)

-- one element more in the middle
pub contains_more : {X : Type 0} (xs : List X) (y : X) (ys : List X) (x : X) → Contains (xs ++ ys) x → Contains (xs ++ (y ∷ ys)) x
contains_more xs y ys x h = elim (Contains-append_cases xs ys x h) [
  | inl a ↦ Contains-append_left xs (y ∷ ys) x a
  | inr b ↦ Contains-append_right xs (y ∷ ys) x (Contains-append_right (y ∷ []) ys x b)
]

pub contains_less : {X : Type 0} (xs : List X) (y : X) (ys : List X) (x : X) → Contains (xs ++ (y ∷ ys)) x → (y ≡ x) ⊎ Contains (xs ++ ys) x
contains_less xs y ys x h = elim (Contains-append_cases xs (y ∷ ys) x h) [
  | inl a ↦ inr (Contains-append_left xs ys x a)
  | inr b ↦ elim (Contains-append_cases (y ∷ []) ys x b) [
    | inl s ↦ elim (Contains-push_cases [] y x s) [ inl n ↦ absurd (omega (arith, n.1)) | inr e ↦ inl e ]
    | inr c ↦ inr (Contains-append_right xs ys x c)
  ]
]

pub contains_middle : {X : Type 0} (xs : List X) (y : X) (ys : List X) → Contains (xs ++ (y ∷ ys)) y
contains_middle xs y ys = Contains-append_right xs (y ∷ ys) y (Contains-append_left (y ∷ []) ys y (Contains-push [] y))

pub longer : {X : Type 0} (xs : List X) (y : X) (ys : List X) → length (xs ++ (y ∷ ys)) ≡ length (xs ++ ys) + 1
longer xs y ys = omega (arith, length-append xs (y ∷ ys), length-append xs ys)

-- a sum that is raised
raised : (sums : List ℕ) (i n k : ℕ) → i < length sums → get_or sums i 0 ≤ n → get_or sums k 0 ≤ get_or (set sums i n) k 0
raised sums i n k h le = elim (cases_eq k i) [
  | inl e ↦ grind (arith, get_or-set_same)
  | inr ne ↦ let o = get_or-set_other sums i k n 0 ne in omega arith
]

-- a procedure with no pending call: its calls are absorbed, so its chains end
pub ends_settled : (depths : List Depth) (calls : List CallSite) (sums : List ℕ) (pending : List CallSite) → AreSums depths calls sums pending →
    (p : Procedure) → IsSettled pending p → Ends calls p
ends_settled depths calls sums pending are p settled = ends p (λ call by. elim (are.call call by.there) [
  | inl there ↦ absurd (settled.none call (record { there = there; caller = by.caller }))
  | inr absorbed ↦ absorbed.ends
])

settled_less : (kept : List CallSite) (call : CallSite) (rest : List CallSite) (p : Procedure) →
    IsSettled (kept ++ (call ∷ rest)) p → IsSettled (kept ++ rest) p
settled_less kept call rest p settled = record { none = λ e by. settled.none e (record { there = contains_more kept call rest e by.there; caller = by.caller }) }

-- a call is absorbed
pub record Absorbs (depths : List Depth) (calls : List CallSite) (sums : List ℕ) (kept : List CallSite) (call : CallSite) (rest : List CallSite) (n : ℕ) : Type 0 where
  pub are : AreSums depths calls sums (kept ++ (call ∷ rest))
  pub settled : IsSettled (kept ++ (call ∷ rest)) (Entry call.target)
  pub within : slot_of call.caller < length sums
  pub raise : IsRaised (bytes_of sums call.caller) (through_call call (pos (bytes_of sums (Entry call.target)))) n

-- only the caller's sum is another
other_sum : (depths : List Depth) (calls : List CallSite) (sums : List ℕ) (kept : List CallSite) (call : CallSite) (rest : List CallSite) (n : ℕ) →
    Absorbs depths calls sums kept call rest n → (p : Procedure) → call.caller ≢ p → bytes_of (set sums (slot_of call.caller) n) p ≡ bytes_of sums p
other_sum depths calls sums kept call rest n a p ne =
    get_or-set_other sums (slot_of call.caller) (slot_of p) n 0 (λ e. ne (slot_apart call.caller p (sym e)))

no_less : (depths : List Depth) (calls : List CallSite) (sums : List ℕ) (kept : List CallSite) (call : CallSite) (rest : List CallSite) (n : ℕ) →
    Absorbs depths calls sums kept call rest n → (p : Procedure) → bytes_of sums p ≤ bytes_of (set sums (slot_of call.caller) n) p
no_less depths calls sums kept call rest n a p = raised sums (slot_of call.caller) n (slot_of p) a.within a.raise.no_less

-- a settled callee's sum is as it was
callee_sum : (depths : List Depth) (calls : List CallSite) (sums : List ℕ) (kept : List CallSite) (call : CallSite) (rest : List CallSite) (n : ℕ) →
    Absorbs depths calls sums kept call rest n → (p : Procedure) → IsSettled (kept ++ (call ∷ rest)) p →
    bytes_of (set sums (slot_of call.caller) n) p ≡ bytes_of sums p
callee_sum depths calls sums kept call rest n a p settled =
    other_sum depths calls sums kept call rest n a p (λ e. settled.none call (record { there = contains_middle kept call rest; caller = e }))

absorbed_then : (depths : List Depth) (calls : List CallSite) (sums : List ℕ) (kept : List CallSite) (call : CallSite) (rest : List CallSite) (n : ℕ) →
    Absorbs depths calls sums kept call rest n → (e : CallSite) → IsAbsorbed calls sums (kept ++ (call ∷ rest)) e →
    IsAbsorbed calls (set sums (slot_of call.caller) n) (kept ++ rest) e
absorbed_then depths calls sums kept call rest n a e absorbed =
    let same = callee_sum depths calls sums kept call rest n a (Entry e.target) absorbed.settled in
    let more = no_less depths calls sums kept call rest n a e.caller in
    record {
      settled = settled_less kept call rest (Entry e.target) absorbed.settled;
      ends = absorbed.ends;
      above = raise_above e.depth _ _ _ _ same more absorbed.above;
    }
  where
    raise_above : (d : ℤ) (m m' k k' : ℕ) → m' ≡ m → k ≤ k' → ((d +ℤ pos 2) +ℤ pos m) ≤ℤ pos k → ((d +ℤ pos 2) +ℤ pos m') ≤ℤ pos k'
    raise_above d m m' k k' e le h = omega (arith, ints)

absorbed_now : (depths : List Depth) (calls : List CallSite) (sums : List ℕ) (kept : List CallSite) (call : CallSite) (rest : List CallSite) (n : ℕ) →
    Absorbs depths calls sums kept call rest n → IsAbsorbed calls (set sums (slot_of call.caller) n) (kept ++ rest) call
absorbed_now depths calls sums kept call rest n a =
    let same = callee_sum depths calls sums kept call rest n a (Entry call.target) a.settled in
    let now = get_or-set_same sums (slot_of call.caller) n 0 a.within in
    record {
      settled = settled_less kept call rest (Entry call.target) a.settled;
      ends = ends_settled depths calls sums (kept ++ (call ∷ rest)) a.are (Entry call.target) a.settled;
      above = at_caller call.depth _ _ _ _ same now a.raise.above;
    }
  where
    at_caller : (d : ℤ) (m m' k k' : ℕ) → m' ≡ m → k' ≡ k → ((d +ℤ pos 2) +ℤ pos m) ≤ℤ pos k → ((d +ℤ pos 2) +ℤ pos m') ≤ℤ pos k'
    at_caller d m m' k k' e f h = omega (arith, ints)

reached_then : (depths : List Depth) (calls : List CallSite) (sums : List ℕ) (kept : List CallSite) (call : CallSite) (rest : List CallSite) (n : ℕ) →
    Absorbs depths calls sums kept call rest n → AreEntered depths calls → (p : Procedure) → HasLast depths p (pos 0) →
    Chain depths calls p (pos (bytes_of (set sums (slot_of call.caller) n) p))
reached_then depths calls sums kept call rest n a entered p first = elim (cases_eq (slot_of p) (slot_of call.caller)) [
  | inl e ↦
      let here : bytes_of (set sums (slot_of call.caller) n) p ≡ n =
      ap (λ (k : ℕ). get_or (set sums (slot_of call.caller) n) k 0) e ∙ get_or-set_same sums (slot_of call.caller) n 0 a.within in
      subst (λ (k : ℕ). Chain depths calls p (pos k)) (sym here) (elim a.raise.one_of [
        | inl same ↦ subst (λ (k : ℕ). Chain depths calls p (pos k)) (ap (λ (k : ℕ). get_or sums k 0) e ∙ sym same) (a.are.reached entered p first)
        | inr is ↦ through p call (pos (bytes_of sums (Entry call.target))) (pos n)
            (record { there = a.are.of_list call (contains_middle kept call rest); caller = sym (slot_apart p call.caller e) })
            (a.are.reached entered (Entry call.target) (entered.entered call (a.are.of_list call (contains_middle kept call rest)))) is
      ])
  | inr ne ↦ subst (λ (k : ℕ). Chain depths calls p (pos k)) (sym (get_or-set_other sums (slot_of call.caller) (slot_of p) n 0 ne)) (a.are.reached entered p first)
]

-- and they stay small
pub small_then : (sums : List ℕ) (kept : List CallSite) (call : CallSite) (rest : List CallSite) (n : ℕ) → slot_of call.caller < length sums →
    IsRaised (bytes_of sums call.caller) (through_call call (pos (bytes_of sums (Entry call.target)))) n → IsModest call.depth →
    AreSmall sums (length (kept ++ (call ∷ rest))) → AreSmall (set sums (slot_of call.caller) n) (length (kept ++ rest))
small_then sums kept call rest n within raise modest are =
    let fewer : length (kept ++ (call ∷ rest)) ≡ length (kept ++ rest) + 1 = longer kept call rest in
    record {
      small = λ slot. elim (cases_eq slot (slot_of call.caller)) [
        | inl e ↦
            let now : slice_index (set sums (slot_of call.caller) n) slot ≡ n = ap (λ (k : ℕ). get_or (set sums (slot_of call.caller) n) k 0) e ∙ get_or-set_same sums (slot_of call.caller) n 0 within in
            let callee = are.small (slot_of (Entry call.target)) in
            let caller = are.small (slot_of call.caller) in
            elim raise.one_of [
              | inl same ↦ within_caller _ _ _ _ _ now same fewer caller
              | inr is ↦ within_callee call.depth _ _ _ _ _ now is fewer callee modest.high
            ]
        | inr ne ↦
            let o = get_or-set_other sums (slot_of call.caller) slot n 0 ne in
            within_caller _ _ _ _ _ o refl fewer (are.small slot)
      ];
    }
  where
    within_caller : (v n s long short : ℕ) → v ≡ n → n ≡ s → long ≡ short + 1 → s + 4194304 * long ≤ 4194304 * 262145 → v + 4194304 * short ≤ 4194304 * 262145
    within_caller v n s long short e f g h = omega arith

    within_callee : (d : ℤ) (v n s long short : ℕ) → v ≡ n → pos n ≡ (d +ℤ pos 2) +ℤ pos s → long ≡ short + 1 → s + 4194304 * long ≤ 4194304 * 262145 →
        d ≤ℤ pos 2097152 → v + 4194304 * short ≤ 4194304 * 262145
    within_callee d v n s long short e f g h le = omega (arith, ints)

-- the sums after a call is absorbed
pub absorbed : (depths : List Depth) (calls : List CallSite) (sums : List ℕ) (kept : List CallSite) (call : CallSite) (rest : List CallSite) (n : ℕ) →
    Absorbs depths calls sums kept call rest n → AreSums depths calls (set sums (slot_of call.caller) n) (kept ++ rest)
absorbed depths calls sums kept call rest n a = record {
  reached = reached_then depths calls sums kept call rest n a;
  deep = λ d there. le_then d.depth _ _ (a.are.deep d there) (no_less depths calls sums kept call rest n a d.procedure);
  call = λ e there. elim (a.are.call e there) [
    | inl pending ↦ elim (contains_less kept call rest e pending) [
      | inl same ↦ inr (subst (λ (x : CallSite). IsAbsorbed calls (set sums (slot_of call.caller) n) (kept ++ rest) x) same (absorbed_now depths calls sums kept call rest n a))
      | inr still ↦ inl still
    ]
    | inr was ↦ inr (absorbed_then depths calls sums kept call rest n a e was)
  ];
  of_list = λ e there. a.are.of_list e (contains_more kept call rest e there);
}
  where
    le_then : (d : ℤ) (m k : ℕ) → d ≤ℤ pos m → m ≤ k → d ≤ℤ pos k
    le_then d m k h le = omega (arith, ints)

-- at the end no sum over a chain is greater
pub chain_below : (depths : List Depth) (calls : List CallSite) (sums : List ℕ) → AreSums depths calls sums [] → (p : Procedure) (bytes : ℤ) →
    Chain depths calls p bytes → bytes ≤ℤ pos (bytes_of sums p)
chain_below depths calls sums are _ _ (last p bytes has) =
    let deep = are.deep has.depth has.there in
    at_last _ _ _ _ has.is (ap (bytes_of sums) has.procedure) deep
  where
    at_last : (b d : ℤ) (m k : ℕ) → b ≡ d → m ≡ k → d ≤ℤ pos m → b ≤ℤ pos k
    at_last b d m k e f h = subst (λ (x : ℤ). x ≤ℤ pos k) (sym e) (subst (λ (x : ℕ). d ≤ℤ pos x) f h)
chain_below depths calls sums are _ _ (through p call below bytes by rest is) =
    let deeper = chain_below depths calls sums are (Entry call.target) below rest in
    elim (are.call call by.there) [
      | inl none ↦ absurd (omega (arith, none.1))
      | inr absorbed ↦ at_call call.depth below bytes _ _ _ is deeper absorbed.above (ap (bytes_of sums) by.caller)
    ]
  where
    at_call : (d below bytes : ℤ) (m k k' : ℕ) → bytes ≡ (d +ℤ pos 2) +ℤ below → below ≤ℤ pos m → ((d +ℤ pos 2) +ℤ pos m) ≤ℤ pos k → k ≡ k' → bytes ≤ℤ pos k'
    at_call d below bytes m k k' e le h f = omega (arith, ints)

-- at the end every procedure's chains end
pub all_end : (depths : List Depth) (calls : List CallSite) (sums : List ℕ) → AreSums depths calls sums [] → (p : Procedure) → Ends calls p
all_end depths calls sums are p = ends_settled depths calls sums [] are p (record { none = λ call by. absurd (omega (arith, by.there.1)) })
