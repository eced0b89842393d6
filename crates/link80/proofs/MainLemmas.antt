-- The start of the linked module is that of the one main program.
use Rattle.std.specs.Prelude.{◌≡◌, ◌<◌, ℕ, suc, ◌+◌, nat_lt, true, false, if◌then◌else◌, Option, Some, None, option_map, List, [], ◌∷◌, filter_map, length, slice_get, refl}
use Rattle.std.specs.List.{cons_option, enumerate_from}
use Rattle.std.proofs.Common.{◌∙◌, ap, sym, arith}
use Rattle.std.proofs.lemmas.Bool.Decides.{nat_tests}
use Rattle.std.proofs.lemmas.Option.{slice_get_within}
use Rattle.omf_model.specs.Modules.{ModuleValue}
use Rattle.link80.specs.declared.fault.LinkFault.{LinkFault}
use Rattle.link80.specs.declared.fault.LinkFault.TheVariants.{TwoMains}
use Rattle.link80.specs.Gathered.{mains_from}
use Rattle.link80.specs.Linked.{linked_id, moved, moved_start, starts}
use Rattle.link80.specs.LinkFault.{two_mains}

abbrev pub starts_of : List ModuleValue → ℕ → List ModuleValue → List (ℕ × ℕ)
starts_of all k ms = filter_map (λ m. option_map (moved_start all m) m.1.start) (enumerate_from k ms)

-- as many starts as main programs
count_one : (all : List ModuleValue) (k : ℕ) (m : ModuleValue) (start : Option (ℕ × ℕ)) (mains : List ℕ) (places : List (ℕ × ℕ))
    → length mains ≡ length places →
    length (cons_option (option_map (λ s. k) start) mains)
    ≡ length (cons_option (option_map (moved_start all (k, m)) start) places)
count_one all k m None mains places same = same
count_one all k m (Some s) mains places same = ap suc same

mains_count : (all : List ModuleValue) (k : ℕ) (ms : List ModuleValue) → length (mains_from k ms) ≡ length (starts_of all k ms)
mains_count all k [] = refl
mains_count all k (m ∷ ms) =
    count_one all k m m.start (mains_from (k + 1) ms) (starts_of all (k + 1) ms) (mains_count all (k + 1) ms)

pub two_mains_are : (modules : List ModuleValue) → 1 < length (mains_from 0 modules) → two_mains modules ≡ Some TwoMains
two_mains_are modules two =
    let more : nat_lt 1 (length (starts modules)) ≡ true = grind (arith, nat_tests, two, mains_count modules 0 modules) in
    ap (λ b. if◌then◌else◌ {A = Option LinkFault} b (Some TwoMains) None) more

pub one_main_is : (modules : List ModuleValue) (main : Option ℕ) → cons_option main [] ≡ mains_from 0 modules
    → two_mains modules ≡ None
one_main_is modules main is =
    let few : nat_lt 1 (length (starts modules)) ≡ false =
    grind (arith, nat_tests, at_most main, ap length is, mains_count modules 0 modules) in
    ap (λ b. if◌then◌else◌ {A = Option LinkFault} b (Some TwoMains) None) few
  where
    at_most : (o : Option ℕ) → length (cons_option o []) < 2
    at_most None = omega arith
    at_most (Some n) = omega arith

none_of : (all : List ModuleValue) (k : ℕ) (m : ModuleValue) (start : Option (ℕ × ℕ)) (mains : List ℕ) (places : List (ℕ × ℕ))
    → (mains ≡ [] → places ≡ []) →
    cons_option (option_map (λ s. k) start) mains ≡ [] → cons_option (option_map (moved_start all (k, m)) start) places ≡ []
none_of all k m None mains places rest none = rest none
none_of all k m (Some s) mains places rest none = absurd cc

pub no_start : (all : List ModuleValue) (k : ℕ) (ms : List ModuleValue) → mains_from k ms ≡ [] → starts_of all k ms ≡ []
no_start all k [] none = refl
no_start all k (m ∷ ms) none =
    none_of all k m m.start (mains_from (k + 1) ms) (starts_of all (k + 1) ms) (no_start all (k + 1) ms) none

-- the module that has the one start
pub record OneStart (all : List ModuleValue) (k : ℕ) (ms : List ModuleValue) (n : ℕ) : Type 0 where
  pub place : ℕ
  pub main : ModuleValue
  pub start : ℕ × ℕ
  pub number : n ≡ k + place
  pub there : slice_get ms place ≡ Some main
  pub start_is : main.start ≡ Some start
  pub starts_are : starts_of all k ms ≡ moved_start all (n, main) start ∷ []

first_is : (x y : ℕ) (xs : List ℕ) → x ∷ xs ≡ y ∷ [] → (x ≡ y) × (xs ≡ [])
first_is x y xs e = (cc, cc)

one_of : (all : List ModuleValue) (k : ℕ) (m : ModuleValue) (ms : List ModuleValue) (n : ℕ) (start : Option (ℕ × ℕ))
    → m.start ≡ start →
    (mains_from (k + 1) ms ≡ n ∷ [] → OneStart all (k + 1) ms n)
    → cons_option (option_map (λ s. k) start) (mains_from (k + 1) ms) ≡ n ∷ [] → OneStart all k (m ∷ ms) n
one_of all k m ms n None from later is =
    let rest = later is in
    record {
      place = suc rest.place;
      main = rest.main;
      start = rest.start;
      number = omega (arith, rest.number);
      there = rest.there;
      start_is = rest.start_is;
      starts_are = ap (λ o. cons_option (option_map (moved_start all (k, m)) o) (starts_of all (k + 1) ms)) from
          ∙ rest.starts_are;
    }
one_of all k m ms n (Some s) from later is =
    let parts = first_is k n (mains_from (k + 1) ms) is in
    record {
      place = 0;
      main = m;
      start = s;
      number = omega (arith, parts.0);
      there = refl;
      start_is = from;
      starts_are =
          ap (λ o. cons_option (option_map (moved_start all (k, m)) o) (starts_of all (k + 1) ms)) from
          ∙ ap (λ l. moved_start all (k, m) s ∷ l) (no_start all (k + 1) ms parts.1)
          ∙ ap (λ i. moved_start all (i, m) s ∷ []) parts.0;
    }

pub one_start : (all : List ModuleValue) (k : ℕ) (ms : List ModuleValue) (n : ℕ) → mains_from k ms ≡ n ∷ [] → OneStart all k ms n
one_start all k [] n is = absurd cc
one_start all k (m ∷ ms) n is = one_of all k m ms n m.start refl (one_start all (k + 1) ms n) is

-- ---- the main program by its number

some_is : {A : Type 0} (a b : A) → Some a ≡ Some b → a ≡ b
some_is a b e = cc

main_at : (modules : List ModuleValue) (number : ℕ) (one : OneStart modules 0 modules number)
    → slice_get modules number ≡ Some one.main
main_at modules number one = let same : number ≡ one.place = omega (arith, one.number) in ap (slice_get modules) same ∙ one.there

pub main_within : (joined modules : List ModuleValue) (number : ℕ) → joined ≡ modules → mains_from 0 modules ≡ number ∷ []
    → number < length joined
main_within joined modules number same is =
    let one = one_start modules 0 modules number is in
    omega (arith, slice_get_within modules number one.main (main_at modules number one), ap length same)

pub main_has_start : (joined modules : List ModuleValue) (number : ℕ) (m : ModuleValue) → joined ≡ modules
    → mains_from 0 modules ≡ number ∷ [] → slice_get joined number ≡ Some m → m.start ≡ None → ⊥
main_has_start joined modules number m same is at none =
    let one = one_start modules 0 modules number is in
    let here : one.main ≡ m =
    some_is one.main m (sym (main_at modules number one) ∙ ap (λ ms. slice_get ms number) (sym same) ∙ at) in
    absurd (some_none (sym one.start_is ∙ ap (λ k. k.start) here ∙ none))
  where
    some_none : {A : Type 0} {a : A} → Some a ≡ None → ⊥
    some_none e = absurd cc

pub start_from : (joined modules : List ModuleValue) (number : ℕ) (m : ModuleValue) (id offset : ℕ) → joined ≡ modules
    → mains_from 0 modules ≡ number ∷ [] → slice_get joined number ≡ Some m →
    m.start ≡ Some (id, offset) → slice_get (starts modules) 0 ≡ Some (linked_id joined m id, moved joined number id offset)
start_from joined modules number m id offset same is at start =
    let one = one_start modules 0 modules number is in
    let here : one.main ≡ m =
    some_is one.main m (sym (main_at modules number one) ∙ ap (λ ms. slice_get ms number) (sym same) ∙ at) in
    let place : one.start ≡ (id, offset) = some_is one.start (id, offset) (sym one.start_is ∙ ap (λ k. k.start) here ∙ start) in
    ap (λ l. slice_get l 0) one.starts_are
    ∙ ap (λ k. Some (moved_start modules (number, k) one.start)) here
    ∙ ap (λ s. Some (moved_start modules (number, m) s)) place
    ∙ ap (λ ms. Some (linked_id ms m id, moved ms number id offset)) (sym same)
