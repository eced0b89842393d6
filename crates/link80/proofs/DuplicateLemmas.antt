-- The first public whose name some earlier one has.
use Rattle.std.specs.Prelude.{◌≡◌, ℕ, Bool, true, false, not, if◌then◌else◌, Option, Some, None, option_map, List, [], ◌∷◌, ◌++◌, refl}
use Rattle.std.proofs.Common.{◌∙◌, ap, sym, append_assoc}
use Rattle.std.proofs.lemmas.Bool.{and_parts, and_from}
use Rattle.std.proofs.lemmas.List.{append-nil}
use Rattle.omf_model.specs.declared.symbols.Public.{Public}
use Rattle.omf_model.specs.Rules.{each_after}
use Rattle.link80.specs.declared.fault.LinkFault.TheVariants.{DuplicatePublic}
use Rattle.link80.specs.Linked.{linked_publics}
use Rattle.link80.specs.LinkFault.{is_declared, first_again}
use Rattle.link80.specs.DuplicateLaws.{has_new_name, IsFirstAgain, FirstAgainIsTheFirst, NoneAgainWhereAllAreNew, DuplicateIsTheFirst}

-- the first public whose name these or some earlier one have
record AgainAfter (before ps : List Public) (name : List ℕ) : Type 0 where
  pub front : List Public
  pub again : Public
  pub later : List Public
  pub whole : ps ≡ front ++ again ∷ later
  pub named : again.name ≡ name
  pub declared : is_declared (before ++ front) again.name ≡ true
  pub others : each_after has_new_name before front ≡ true

not_declared : (b : Bool) → not b ≡ true → b ≡ false
not_declared true e = absurd cc
not_declared false e = refl

-- ---- what is answered is the first

again_step : (before : List Public) (p : Public) (ps : List Public) (name : List ℕ) (b : Bool) → is_declared before p.name ≡ b
    → (first_again (before ++ p ∷ []) ps ≡ Some name → AgainAfter (before ++ p ∷ []) ps name)
    → (if b then Some p.name else first_again (before ++ p ∷ []) ps) ≡ Some name → AgainAfter before (p ∷ ps) name
again_step before p ps name true is later e = record {
  front = [];
  again = p;
  later = ps;
  whole = refl;
  named = cc;
  declared = ap (λ (l : List Public). is_declared l p.name) (append-nil before) ∙ is;
  others = refl;
}
again_step before p ps name false is later e =
    let r : AgainAfter (before ++ p ∷ []) ps name = later e in
    record {
      front = p ∷ r.front;
      again = r.again;
      later = r.later;
      whole = ap (λ (l : List Public). p ∷ l) r.whole;
      named = r.named;
      declared = ap (λ (l : List Public). is_declared l r.again.name) (sym (append_assoc before (p ∷ []) r.front)) ∙ r.declared;
      others = and_from (has_new_name before p) (each_after has_new_name (before ++ p ∷ []) r.front) (ap not is) r.others;
    }

again_found : (ps before : List Public) (name : List ℕ) → first_again before ps ≡ Some name → AgainAfter before ps name
again_found [] before name e = absurd cc
again_found (p ∷ ps) before name e =
    again_step before p ps name (is_declared before p.name) refl (again_found ps (before ++ p ∷ []) name) e

-- ---- the first is answered

chosen : (before : List Public) (p : Public) (ps : List Public) (b : Bool) → is_declared before p.name ≡ b
    → first_again before (p ∷ ps) ≡ (if b then Some p.name else first_again (before ++ p ∷ []) ps)
chosen before p ps b is = ap (λ (t : Bool). if t then Some p.name else first_again (before ++ p ∷ []) ps) is

past_new : (before : List Public) (p : Public) (ps : List Public) → has_new_name before p ≡ true
    → first_again before (p ∷ ps) ≡ first_again (before ++ p ∷ []) ps
past_new before p ps new = chosen before p ps false (not_declared (is_declared before p.name) new)

answered : (front before : List Public) (p : Public) (later : List Public) → is_declared (before ++ front) p.name ≡ true
    → each_after has_new_name before front ≡ true
    → first_again before (front ++ p ∷ later) ≡ Some p.name
answered [] before p later here new =
    chosen before p later true (ap (λ (l : List Public). is_declared l p.name) (sym (append-nil before)) ∙ here)
answered (q ∷ front) before p later here new =
    let parts = and_parts (has_new_name before q) (each_after has_new_name (before ++ q ∷ []) front) new in
    past_new before q (front ++ p ∷ later) parts.0
    ∙ answered front (before ++ q ∷ []) p later
    (ap (λ (l : List Public). is_declared l p.name) (append_assoc before (q ∷ []) front) ∙ here) parts.1

first_answered : (publics : List Public) (name : List ℕ) → IsFirstAgain publics name → first_again [] publics ≡ Some name
first_answered publics name r =
    ap (first_again []) r.whole ∙ answered r.earlier [] r.again r.later r.declared r.others ∙ ap (λ (n : List ℕ). Some n) r.named

first_found : (publics : List Public) (name : List ℕ) → first_again [] publics ≡ Some name → IsFirstAgain publics name
first_found publics name e =
    let r : AgainAfter [] publics name = again_found publics [] name e in
    record {
      earlier = r.front;
      again = r.again;
      later = r.later;
      whole = r.whole;
      named = r.named;
      declared = r.declared;
      others = r.others;
    }

pub first_again_is_the_first : FirstAgainIsTheFirst
first_again_is_the_first publics name = (first_found publics name, first_answered publics name)

-- ---- where there is none

new_step : (before : List Public) (p : Public) (ps : List Public) (b : Bool) → is_declared before p.name ≡ b
    → (first_again (before ++ p ∷ []) ps ≡ None → each_after has_new_name (before ++ p ∷ []) ps ≡ true)
    → (if b then Some p.name else first_again (before ++ p ∷ []) ps) ≡ None → each_after has_new_name before (p ∷ ps) ≡ true
new_step before p ps true is later e = absurd cc
new_step before p ps false is later e =
    and_from (has_new_name before p) (each_after has_new_name (before ++ p ∷ []) ps) (ap not is) (later e)

all_new : (ps before : List Public) → first_again before ps ≡ None → each_after has_new_name before ps ≡ true
all_new [] before e = refl
all_new (p ∷ ps) before e = new_step before p ps (is_declared before p.name) refl (all_new ps (before ++ p ∷ [])) e

none_again : (ps before : List Public) → each_after has_new_name before ps ≡ true → first_again before ps ≡ None
none_again [] before new = refl
none_again (p ∷ ps) before new =
    let parts = and_parts (has_new_name before p) (each_after has_new_name (before ++ p ∷ []) ps) new in
    past_new before p ps parts.0 ∙ none_again ps (before ++ p ∷ []) parts.1

pub none_again_where_all_are_new : NoneAgainWhereAllAreNew
none_again_where_all_are_new publics = (all_new publics [], none_again publics [])

-- ---- LINK's fault

same_name : (o : Option (List ℕ)) (name : List ℕ) → option_map DuplicatePublic o ≡ Some (DuplicatePublic name) → o ≡ Some name
same_name None name e = absurd cc
same_name (Some n) name e = cc

pub duplicate_is_the_first : DuplicateIsTheFirst
duplicate_is_the_first modules name = (
  λ e. first_found (linked_publics modules) name (same_name (first_again [] (linked_publics modules)) name e),
  λ r. ap (λ (o : Option (List ℕ)). option_map DuplicatePublic o) (first_answered (linked_publics modules) name r),
)
