-- What a look at an address says, case by case.
use Rattle.std.specs.Prelude.{◌≡◌, ℕ, Bool, true, false, not, ◌&&◌, List, Result, Ok, Err, refl, if◌then◌else◌}
use Rattle.std.proofs.Common.{◌∙◌, ap, subst}
use Rattle.decode80.specs.declared.fetching.FetchFault.{FetchFault}
use Rattle.decode80.specs.declared.fetching.FetchFault.TheVariants.{Outside as FetchOutside, Unused as FetchUnused}
use Rattle.decode80.specs.declared.fetching.Fetched.{Fetched}
use Rattle.decode80.specs.declared.instr.Instr.{Instr}
use Rattle.decode80.specs.declared.instr.Instr.TheVariants.{Ei, Pchl}
use Rattle.image80.specs.Regions.{Areas}
use Rattle.frames80.specs.declared.code.LookFault.{LookFault}
use Rattle.frames80.specs.declared.code.LookFault.TheVariants.{Outside, Unused, EnablesInterrupts, Pchl as PchlUndeclared, DirectStore}
use Rattle.verify80.specs.Looking.{is_ei, is_pchl, halt_follows, is_declared, stores_in_data, admitted, looked, look_at}
use Rattle.verify80.specs.LookLaws.{fetch_at, IsAdmitted, IsFaultAt, LooksFindWhatIsAdmitted, LooksAnswerFaultsThatHold}

is_the_ei : (i : Instr) → is_ei i ≡ true → i ≡ Ei
is_the_ei Ei h = refl
is_the_ei i h = cc

is_the_pchl : (i : Instr) → is_pchl i ≡ true → i ≡ Pchl
is_the_pchl Pchl h = refl
is_the_pchl i h = cc

ei_stores_nothing : (regions : Areas) (i : Instr) → is_ei i ≡ true → stores_in_data regions i ≡ true
ei_stores_nothing regions Ei h = refl
ei_stores_nothing regions i h = cc

pchl_stores_nothing : (regions : Areas) (i : Instr) → is_pchl i ≡ true → stores_in_data regions i ≡ true
pchl_stores_nothing regions Pchl h = refl
pchl_stores_nothing regions i h = cc

-- an instruction of a kind that is admitted only with a condition
lacks : (kind condition : Bool) → (kind && not condition) ≡ true → (kind ≡ true) × (condition ≡ false)
lacks true true h = cc
lacks true false h = (refl, refl)
lacks false condition h = cc

lacks_not : (kind condition : Bool) → (kind && not condition) ≡ false → kind ≡ true → condition ≡ true
lacks_not true true h k = refl
lacks_not true false h k = cc
lacks_not false condition h k = cc

-- the choice by three tests: an EI alone, a PCHL undeclared, stores in data
abbrev pub chosen : (alone undeclared stores : Bool) → Fetched → Result Fetched LookFault
chosen alone undeclared stores found = if alone then Err EnablesInterrupts else (if undeclared then Err PchlUndeclared else (if stores then Ok found else Err DirectStore))

record Admits (alone undeclared stores : Bool) (found other : Fetched) : Type 0 where
  same : found ≡ other
  halts : alone ≡ false
  declared : undeclared ≡ false
  inside : stores ≡ true

admits : (alone undeclared stores : Bool) (found other : Fetched) → chosen alone undeclared stores found ≡ Ok other → Admits alone undeclared stores found other
admits true undeclared stores found other h = absurd (let e : Err EnablesInterrupts ≡ Ok other = h in cc)
admits false true stores found other h = absurd (let e : Err PchlUndeclared ≡ Ok other = h in cc)
admits false false true found other h = record { same = cc; halts = refl; declared = refl; inside = refl }
admits false false false found other h = absurd (let e : Err DirectStore ≡ Ok other = h in cc)

-- which test refuses
abbrev pub Refuses : (alone undeclared stores : Bool) → LookFault → Type 0
Refuses alone undeclared stores Outside = ⊥
Refuses alone undeclared stores Unused = ⊥
Refuses alone undeclared stores EnablesInterrupts = alone ≡ true
Refuses alone undeclared stores PchlUndeclared = undeclared ≡ true
Refuses alone undeclared stores DirectStore = stores ≡ false

refused_by : (alone undeclared stores : Bool) (found : Fetched) (fault : LookFault) → chosen alone undeclared stores found ≡ Err fault → Refuses alone undeclared stores fault
refused_by true undeclared stores found fault h = let e : EnablesInterrupts ≡ fault = cc in subst (Refuses true undeclared stores) e refl
refused_by false true stores found fault h = let e : PchlUndeclared ≡ fault = cc in subst (Refuses false true stores) e refl
refused_by false false false found fault h = let e : DirectStore ≡ fault = cc in subst (Refuses false false false) e refl
refused_by false false true found fault h = absurd (let e : Ok found ≡ Err fault = h in cc)

-- an instruction that is found is admitted
found_admitted : (regions : Areas) (memory : List ℕ) (at : ℕ) (r : Result Fetched FetchFault) (found : Fetched) → fetch_at regions memory at ≡ r → looked regions memory at r ≡ Ok found → IsAdmitted regions memory at found
found_admitted regions memory at (Ok f) found is h =
    let halt : Bool = halt_follows regions memory at in
    let a = admits (is_ei f.instr && not halt) (is_pchl f.instr && not (is_declared regions at)) (stores_in_data regions f.instr) f found h in
    subst (λ (x : Fetched). IsAdmitted regions memory at x) a.same (record {
      fetched = is;
      halts = λ (e : f.instr ≡ Ei). lacks_not (is_ei f.instr) halt a.halts (ap is_ei e);
      declared = λ (e : f.instr ≡ Pchl). lacks_not (is_pchl f.instr) (is_declared regions at) a.declared (ap is_pchl e);
      stores = a.inside;
    })
found_admitted regions memory at (Err FetchOutside) found is h = cc
found_admitted regions memory at (Err FetchUnused) found is h = cc

lacks_none : (kind condition : Bool) → (kind ≡ true → condition ≡ true) → (kind && not condition) ≡ false
lacks_none true true has = refl
lacks_none true false has = let wrong : false ≡ true = has refl in cc
lacks_none false condition has = refl

admitted_found : (regions : Areas) (memory : List ℕ) (at : ℕ) (found : Fetched) → IsAdmitted regions memory at found → looked regions memory at (Ok found) ≡ Ok found
admitted_found regions memory at found a =
    let alone = lacks_none (is_ei found.instr) (halt_follows regions memory at) (λ (e : is_ei found.instr ≡ true). a.halts (is_the_ei found.instr e)) in
    let undeclared = lacks_none (is_pchl found.instr) (is_declared regions at) (λ (e : is_pchl found.instr ≡ true). a.declared (is_the_pchl found.instr e)) in
    ap (λ (b : Bool). chosen b (is_pchl found.instr && not (is_declared regions at)) (stores_in_data regions found.instr) found) alone
    ∙ ap (λ (b : Bool). chosen false b (stores_in_data regions found.instr) found) undeclared
    ∙ ap (λ (b : Bool). chosen false false b found) a.stores

pub finds : LooksFindWhatIsAdmitted
unfolding look_at
finds regions memory at found = (
  found_admitted regions memory at (fetch_at regions memory at) found refl,
  λ (a : IsAdmitted regions memory at found). ap (λ (r : Result Fetched FetchFault). looked regions memory at r) a.fetched ∙ admitted_found regions memory at found a,
)

-- a fault that is answered holds
chosen_fault : (regions : Areas) (memory : List ℕ) (at : ℕ) (f : Fetched) (fault : LookFault) → fetch_at regions memory at ≡ Ok f →
    Refuses (is_ei f.instr && not (halt_follows regions memory at)) (is_pchl f.instr && not (is_declared regions at)) (stores_in_data regions f.instr) fault → IsFaultAt regions memory at fault
chosen_fault regions memory at f Outside is by = absurd by
chosen_fault regions memory at f Unused is by = absurd by
chosen_fault regions memory at f EnablesInterrupts is by =
    let both = lacks (is_ei f.instr) (halt_follows regions memory at) by in
    record { found = f; fetched = is; is_ei = is_the_ei f.instr both.0; alone = both.1 }
chosen_fault regions memory at f PchlUndeclared is by =
    let both = lacks (is_pchl f.instr) (is_declared regions at) by in
    record { found = f; fetched = is; is_pchl = is_the_pchl f.instr both.0; undeclared = both.1 }
chosen_fault regions memory at f DirectStore is by = record { found = f; fetched = is; outside = by }

fault_holds : (regions : Areas) (memory : List ℕ) (at : ℕ) (r : Result Fetched FetchFault) (fault : LookFault) → fetch_at regions memory at ≡ r → looked regions memory at r ≡ Err fault → IsFaultAt regions memory at fault
fault_holds regions memory at (Ok f) fault is h =
    chosen_fault regions memory at f fault is
    (refused_by (is_ei f.instr && not (halt_follows regions memory at)) (is_pchl f.instr && not (is_declared regions at)) (stores_in_data regions f.instr) f fault h)
fault_holds regions memory at (Err FetchOutside) fault is h = let e : Outside ≡ fault = cc in subst (IsFaultAt regions memory at) e is
fault_holds regions memory at (Err FetchUnused) fault is h = let e : Unused ≡ fault = cc in subst (IsFaultAt regions memory at) e is

-- a fault that holds is answered: no instruction has two of them
pchl_is_no_ei : (i : Instr) → is_pchl i ≡ true → is_ei i ≡ false
pchl_is_no_ei Pchl h = refl
pchl_is_no_ei i h = cc

not_of_kind : (kind condition : Bool) → kind ≡ false → (kind && not condition) ≡ false
not_of_kind false condition h = refl
not_of_kind true condition h = cc

is_lacking : (kind condition : Bool) → kind ≡ true → condition ≡ false → (kind && not condition) ≡ true
is_lacking true false k c = refl
is_lacking true true k c = cc
is_lacking false condition k c = cc

no_store : (kind stores : Bool) → (kind ≡ true → stores ≡ true) → stores ≡ false → kind ≡ false
no_store true stores has outside = let wrong : stores ≡ true = has refl in cc
no_store false stores has outside = refl

alone_refused : (regions : Areas) (memory : List ℕ) (at : ℕ) (found : Fetched) → found.instr ≡ Ei → halt_follows regions memory at ≡ false → admitted regions memory at found ≡ Err EnablesInterrupts
alone_refused regions memory at found e h =
    ap (λ (b : Bool). chosen b (is_pchl found.instr && not (is_declared regions at)) (stores_in_data regions found.instr) found)
    (is_lacking (is_ei found.instr) (halt_follows regions memory at) (ap is_ei e) h)

undeclared_refused : (regions : Areas) (memory : List ℕ) (at : ℕ) (found : Fetched) → found.instr ≡ Pchl → is_declared regions at ≡ false → admitted regions memory at found ≡ Err PchlUndeclared
undeclared_refused regions memory at found e h =
    let pchl : is_pchl found.instr ≡ true = ap is_pchl e in
    ap (λ (b : Bool). chosen b (is_pchl found.instr && not (is_declared regions at)) (stores_in_data regions found.instr) found)
    (not_of_kind (is_ei found.instr) (halt_follows regions memory at) (pchl_is_no_ei found.instr pchl))
    ∙ ap (λ (b : Bool). chosen false b (stores_in_data regions found.instr) found) (is_lacking (is_pchl found.instr) (is_declared regions at) pchl h)

store_refused : (regions : Areas) (memory : List ℕ) (at : ℕ) (found : Fetched) → stores_in_data regions found.instr ≡ false → admitted regions memory at found ≡ Err DirectStore
store_refused regions memory at found outside =
    let stores : Bool = stores_in_data regions found.instr in
    ap (λ (b : Bool). chosen b (is_pchl found.instr && not (is_declared regions at)) stores found)
    (not_of_kind (is_ei found.instr) (halt_follows regions memory at) (no_store (is_ei found.instr) stores (ei_stores_nothing regions found.instr) outside))
    ∙ ap (λ (b : Bool). chosen false b stores found)
    (not_of_kind (is_pchl found.instr) (is_declared regions at) (no_store (is_pchl found.instr) stores (pchl_stores_nothing regions found.instr) outside))
    ∙ ap (λ (b : Bool). chosen false false b found) outside

holding_answered : (regions : Areas) (memory : List ℕ) (at : ℕ) (fault : LookFault) → IsFaultAt regions memory at fault → looked regions memory at (fetch_at regions memory at) ≡ Err fault
holding_answered regions memory at Outside f = ap (λ (r : Result Fetched FetchFault). looked regions memory at r) f
holding_answered regions memory at Unused f = ap (λ (r : Result Fetched FetchFault). looked regions memory at r) f
holding_answered regions memory at EnablesInterrupts f =
    ap (λ (r : Result Fetched FetchFault). looked regions memory at r) f.fetched ∙ alone_refused regions memory at f.found f.is_ei f.alone
holding_answered regions memory at PchlUndeclared f =
    ap (λ (r : Result Fetched FetchFault). looked regions memory at r) f.fetched ∙ undeclared_refused regions memory at f.found f.is_pchl f.undeclared
holding_answered regions memory at DirectStore f =
    ap (λ (r : Result Fetched FetchFault). looked regions memory at r) f.fetched ∙ store_refused regions memory at f.found f.outside

pub answers : LooksAnswerFaultsThatHold
unfolding look_at
answers regions memory at fault = (fault_holds regions memory at (fetch_at regions memory at) fault refl, holding_answered regions memory at fault)
