-- Lists of calls joined, with one call more or less, and how many of them a procedure has.
use Rattle.std.proofs.Common.{◌≡◌, ◌≢◌, ◌<◌, ◌+◌, ◌-◌, ◌⊎◌, inl, inr, ℕ, suc, cond, eqb, List, [], ◌∷◌, ◌++◌, length}
use Rattle.std.proofs.Common.{map, Vec, Global, get_or, set, take, drop, refl, sym, ap, subst, ◌∙◌, arith, append_assoc}
use Rattle.std.specs.Prelude.{Contains, sum_by, slice_index}
use Rattle.std.proofs.lemmas.List.{get_or-set_same, get_or-set_other, set_split, set-get_or, get_or-map}
use Rattle.std.proofs.lemmas.List.Concat.{flat_map-append}
use Rattle.std.proofs.lemmas.List.Elements.{Contains-append_left, Contains-append_right, Contains-append_cases}
use Rattle.std.proofs.lemmas.List.Sums.{sum_by-append, sum_by-cons, get_or-le-sum_by}
use Rattle.std.proofs.lemmas.Bool.{cases_eq}
use Rattle.std.proofs.lemmas.Bool.Decides.{nat_tests}
use Rattle.verify80_bounds.specs.declared.graph.CallSite.{CallSite}
use Rattle.frames80.specs.Procedures.{slot_of}
use Rattle.verify80_bounds.specs.Sums.{joined, calls_of}
use Rattle.verify80_bounds.proofs.BoundLemmas.{contains_more, contains_less, contains_middle, longer}

-- one list has the call that the other has not
pub record HasOneMore (few more : List CallSite) (call : CallSite) : Type 0 where
  pub front : List CallSite
  pub back : List CallSite
  pub few_is : few ≡ front ++ back
  pub more_is : more ≡ front ++ (call ∷ back)

joined_with : (lists : List (List CallSite)) (i : ℕ) (calls : List CallSite) → i < length lists →
    joined (set lists i calls) ≡ joined (take i lists) ++ (calls ++ joined (drop (suc i) lists))
joined_with lists i calls within =
    ap joined (set_split lists i calls within) ∙ flat_map-append (λ (l : List CallSite). l) (take i lists) (calls ∷ drop (suc i) lists)

pub one_more : (lists : List (List CallSite)) (i : ℕ) (calls : List CallSite) (call : CallSite) → i < length lists →
    HasOneMore (joined (set lists i calls)) (joined (set lists i (calls ++ call ∷ []))) call
one_more lists i calls call within =
    let front : List CallSite = joined (take i lists) in
    let back : List CallSite = joined (drop (suc i) lists) in
    record {
      front = front ++ calls;
      back = back;
      few_is = joined_with lists i calls within ∙ sym (append_assoc front calls back);
      more_is = joined_with lists i (calls ++ call ∷ []) within ∙ ap (λ (l : List CallSite). front ++ l) (append_assoc calls (call ∷ []) back)
          ∙ sym (append_assoc front calls (call ∷ back));
    }

-- a call at the end of a list is appended, or removed
pub one_pushed : (lists : List (List CallSite)) (i : ℕ) (call : CallSite) → i < length lists →
    HasOneMore (joined lists) (joined (set lists i (get_or lists i [] ++ call ∷ []))) call
one_pushed lists i call within =
    subst (λ (l : List (List CallSite)). HasOneMore (joined l) (joined (set lists i (get_or lists i [] ++ call ∷ []))) call) (set-get_or lists i [])
    (one_more lists i (get_or lists i []) call within)

pub one_popped : (lists : List (List CallSite)) (i : ℕ) (rest : List CallSite) (call : CallSite) → i < length lists → get_or lists i [] ≡ rest ++ call ∷ [] →
    HasOneMore (joined (set lists i rest)) (joined lists) call
one_popped lists i rest call within is =
    subst (λ (l : List (List CallSite)). HasOneMore (joined (set lists i rest)) (joined l) call)
    (ap (λ (calls : List CallSite). set lists i calls) (sym is) ∙ set-get_or lists i []) (one_more lists i rest call within)

-- what is in the lists

pub more_contains : (few more : List CallSite) (call : CallSite) → HasOneMore few more call → (e : CallSite) → Contains few e → Contains more e
more_contains few more call has e there = subst (λ (l : List CallSite). Contains l e) (sym has.more_is)
    (contains_more has.front call has.back e (subst (λ (l : List CallSite). Contains l e) has.few_is there))

pub more_contains_it : (few more : List CallSite) (call : CallSite) → HasOneMore few more call → Contains more call
more_contains_it few more call has = subst (λ (l : List CallSite). Contains l call) (sym has.more_is) (contains_middle has.front call has.back)

pub more_cases : (few more : List CallSite) (call : CallSite) → HasOneMore few more call → (e : CallSite) → Contains more e → (call ≡ e) ⊎ Contains few e
more_cases few more call has e there = elim (contains_less has.front call has.back e (subst (λ (l : List CallSite). Contains l e) has.more_is there)) [
  | inl same ↦ inl same
  | inr still ↦ inr (subst (λ (l : List CallSite). Contains l e) (sym has.few_is) still)
]

pub more_length : (few more : List CallSite) (call : CallSite) → HasOneMore few more call → length more ≡ length few + 1
more_length few more call has = ap length has.more_is ∙ longer has.front call has.back ∙ ap (λ (l : List CallSite). length l + 1) (sym has.few_is)

pub contains_joined : (lists : List (List CallSite)) (call : CallSite) → Contains (joined lists) call → (i : ℕ) × (i < length lists) × Contains (get_or lists i []) call
contains_joined [] call there = absurd (omega (arith, there.1))
contains_joined (l ∷ lists) call there = elim (Contains-append_cases l (joined lists) call there) [
  | inl here ↦ (0, omega arith, here)
  | inr further ↦ let rest = contains_joined lists call further in (suc rest.0, omega (arith, rest.1), rest.2)
]

-- how many calls a procedure has

abbrev pub at_slot : ℕ → ℕ → ℕ
at_slot a k = cond (eqb a k) 1 0

one_at : (a k : ℕ) → a ≡ k → at_slot a k ≡ 1
one_at a k e = grind (arith, nat_tests)

none_at : (a k : ℕ) → a ≢ k → at_slot a k ≡ 0
none_at a k ne = grind (arith, nat_tests)

pub more_calls : (few more : List CallSite) (call : CallSite) → HasOneMore few more call → (slot : ℕ) →
    calls_of slot more ≡ calls_of slot few + at_slot (slot_of call.caller) slot
more_calls few more call has slot =
    let f : CallSite → ℕ = λ e. at_slot (slot_of e.caller) slot in
    at_all _ _ _ _ _ _ (ap (λ (l : List CallSite). sum_by f l) has.more_is ∙ sum_by-append f has.front (call ∷ has.back)) (sum_by-cons f call has.back)
    (ap (λ (l : List CallSite). sum_by f l) has.few_is ∙ sum_by-append f has.front has.back)
  where
    at_all : (all some front back rest x : ℕ) → all ≡ front + rest → rest ≡ x + back → some ≡ front + back → all ≡ some + x
    at_all all some front back rest x e f g = omega arith

pub some_calls : (slot : ℕ) (calls : List CallSite) (call : CallSite) → Contains calls call → slot_of call.caller ≡ slot → 0 < calls_of slot calls
some_calls slot calls call there is =
    let f : CallSite → ℕ = λ e. at_slot (slot_of e.caller) slot in
    let one : f (get_or calls there.0 call) ≡ 1 = ap f there.2 ∙ one_at (slot_of call.caller) slot is in
    omega (arith, get_or-le-sum_by f calls there.0 call there.1, one)

pub call_of : (slot : ℕ) (calls : List CallSite) → 0 < calls_of slot calls → (call : CallSite) × Contains calls call × (slot_of call.caller ≡ slot)
call_of slot [] some = absurd (omega arith)
call_of slot (call ∷ calls) some = elim (cases_eq (slot_of call.caller) slot) [
  | inl is ↦ (call, Contains-append_left (call ∷ []) calls call (0, omega arith, refl), is)
  | inr ne ↦
      let f : CallSite → ℕ = λ e. at_slot (slot_of e.caller) slot in
      let rest = call_of slot calls (omega (arith, some, sum_by-cons f call calls, none_at (slot_of call.caller) slot ne)) in
      (rest.0, Contains-append_right (call ∷ []) calls rest.0 rest.1, rest.2)
]

-- the counts after a call is appended, or removed

pub counted_more : (few more : List CallSite) (call : CallSite) (counts : List ℕ) (caller : ℕ) → HasOneMore few more call → caller ≡ slot_of call.caller → caller < length counts →
    ((slot : ℕ) → slice_index counts slot ≡ calls_of slot few) → (slot : ℕ) → slice_index (set counts caller (get_or counts caller 0 + 1)) slot ≡ calls_of slot more
counted_more few more call counts caller has is within counted slot = elim (cases_eq slot caller) [
  | inl here ↦ at_caller _ _ _ _ _ _ (ap (λ (k : ℕ). get_or (set counts caller (get_or counts caller 0 + 1)) k 0) here ∙ get_or-set_same counts caller (get_or counts caller 0 + 1) 0 within)
      (counted caller) (ap (λ (k : ℕ). calls_of k few) here) (more_calls few more call has slot) (one_at (slot_of call.caller) slot (sym is ∙ sym here))
  | inr ne ↦ at_other _ _ _ _ _ (get_or-set_other counts caller slot (get_or counts caller 0 + 1) 0 ne) (counted slot) (more_calls few more call has slot)
      (none_at (slot_of call.caller) slot (λ e. ne (sym e ∙ sym is)))
]
  where
    at_caller : (v was few_here few_there more_here x : ℕ) → v ≡ was + 1 → was ≡ few_there → few_here ≡ few_there → more_here ≡ few_here + x → x ≡ 1 → v ≡ more_here
    at_caller v was few_here few_there more_here x a b c d e = omega arith

    at_other : (v was few_here more_here x : ℕ) → v ≡ was → was ≡ few_here → more_here ≡ few_here + x → x ≡ 0 → v ≡ more_here
    at_other v was few_here more_here x a b c d = omega arith

pub counted_less : (few more : List CallSite) (call : CallSite) (counts : List ℕ) (caller : ℕ) → HasOneMore few more call → caller ≡ slot_of call.caller → caller < length counts →
    ((slot : ℕ) → slice_index counts slot ≡ calls_of slot more) → (slot : ℕ) → slice_index (set counts caller (get_or counts caller 0 - 1)) slot ≡ calls_of slot few
counted_less few more call counts caller has is within counted slot = elim (cases_eq slot caller) [
  | inl here ↦ at_caller _ _ _ _ _ _ (ap (λ (k : ℕ). get_or (set counts caller (get_or counts caller 0 - 1)) k 0) here ∙ get_or-set_same counts caller (get_or counts caller 0 - 1) 0 within)
      (counted caller) (ap (λ (k : ℕ). calls_of k more) here) (more_calls few more call has slot) (one_at (slot_of call.caller) slot (sym is ∙ sym here))
  | inr ne ↦ at_other _ _ _ _ _ (get_or-set_other counts caller slot (get_or counts caller 0 - 1) 0 ne) (counted slot) (more_calls few more call has slot)
      (none_at (slot_of call.caller) slot (λ e. ne (sym e ∙ sym is)))
]
  where
    at_caller : (v was more_here more_there few_here x : ℕ) → v ≡ was - 1 → was ≡ more_there → more_here ≡ more_there → more_here ≡ few_here + x → x ≡ 1 → v ≡ few_here
    at_caller v was more_here more_there few_here x a b c d e = omega arith

    at_other : (v was more_here few_here x : ℕ) → v ≡ was → was ≡ more_here → more_here ≡ few_here + x → x ≡ 0 → v ≡ few_here
    at_other v was more_here few_here x a b c d = omega arith

-- the lists of the code's lists

abbrev pub items_of : Vec CallSite Global → List CallSite
items_of v = v.items

abbrev pub lists_of : List (Vec CallSite Global) → List (List CallSite)
lists_of callers = map items_of callers

pub list_at : (callers : List (Vec CallSite Global)) (slot : ℕ) (v : Vec CallSite Global) → slot < length callers → get_or (lists_of callers) slot [] ≡ items_of (get_or callers slot v)
list_at callers slot v within = get_or-map items_of callers slot v [] within
