-- The verifier's walks over suggested regions come only to addresses that are reached.
use Rattle.std.proofs.Common.{◌≡◌, ◌<◌, ◌≤◌, ℕ, Bool, true, false, true≢false, length, List, [], ◌∷◌, ◌++◌, Contains, refl, sym, subst, ap, ◌∙◌, arith, inl, inr}
use Rattle.std.specs.Prelude.{◌&&◌, nat_lt, Option, Some, None, Result, Ok, Err, find, ◌==◌, slice_index, if◌then◌else◌}
use Rattle.std.specs.Option.{option_map, option_map_or}
use Rattle.std.proofs.lemmas.Bool.Decides.{nat_tests}
use Rattle.std.proofs.lemmas.List.{get_or_past}
use Rattle.std.proofs.lemmas.List.Elements.{Contains-append_left, Contains-append_right}
use Rattle.decode80.specs.declared.fetching.Fetched.{Fetched}
use Rattle.decode80.specs.declared.fetching.FetchFault.{FetchFault}
use Rattle.decode80.specs.declared.fetching.FetchFault.TheVariants.{Outside}
use Rattle.verify80.specs.LookLaws.{fetch_at}
use Rattle.decode80.specs.declared.instr.Instr.{Instr}
use Rattle.decode80.specs.declared.instr.Instr.TheVariants.{Jmp, JumpIf, Call, CallIf, Rst, Ret, ReturnIf, Pchl, Sphl, Hlt, Lxi, Inx, Dcx}
use Rattle.decode80.specs.declared.pair.Pair.TheVariants.{Bc, De, Hl, Sp}
use Rattle.decode80.specs.Spelling.{spelling}
use Rattle.frames80.specs.declared.effect.Effect.{Effect}
use Rattle.frames80.specs.declared.effect.Effect.TheVariants.{Change as Changes, Halt, Jump, JumpIf as JumpsIf, Case, Call as Calls, CallIf as CallsIf, Return, ReturnIf as ReturnsIf, Refuse}
use Rattle.frames80.specs.declared.fault.FrameFault.{FrameFault}
use Rattle.frames80.specs.declared.moves.Moves.{Moves}
use Rattle.frames80.specs.declared.moves.Moves.TheVariants.{End, On, Jump as MovesTo, Either, Case as Cases, Call as CallOf, MaybeCall, Return as Returns, MaybeReturn}
use Rattle.frames80.specs.declared.role.Role.{Role}
use Rattle.frames80.specs.Effects.{effect_of}
use Rattle.frames80.specs.Moves.{changed, change_fault, moves_of, return_fault, unless}
use Rattle.frames80.specs.StackFrame.{StackFrame}
use Rattle.frames80.specs.declared.procedure.Procedure.{Procedure}
use Rattle.verify80_flow.specs.Faults.{Holds}
use Rattle.frames80.specs.declared.code.LookFault.TheVariants.{Outside as LooksOutside}
use Rattle.verify80_flow.specs.declared.refusal.Refusal.TheVariants.{FetchOutside}
use Rattle.frames80.specs.Code.{role_of}
use Rattle.verify80_flow.specs.Walks.{LeadsTo, Walk, called}
use Rattle.verify80_flow.specs.Walks.Walk.{begins, goes_on, enters, comes_back}
use Rattle.image80.specs.Case.{DeclaredCase}
use Rattle.image80.specs.Image.{Located, memory_of}
use Rattle.image80.specs.Regions.{Areas, in_code}
use Rattle.verify80.specs.Looking.{code_of, declared_targets, is_pchl, look_at}
use Rattle.verify80.specs.LookLaws.{LooksAnswerFaultsThatHold, LooksFindWhatIsAdmitted}
use Rattle.verify80_cases.specs.declared.search.Note.{Note}
use Rattle.verify80_cases.specs.Reach.{MayReach, falls_to, given, leads_from, leads_to, target_of, targets_of}
use Rattle.verify80_cases.specs.Reach.MayReach.{begins as reach_begins, goes_on as reach_goes_on}
use Rattle.verify80_cases.specs.Covered.{is_covered}
use Rattle.verify80_cases.specs.Marks.{marked}
use Rattle.verify80_suggest.specs.declared.known.Known.{Known}
use Rattle.verify80_suggest.specs.declared.setters.Setter.{Setter}
use Rattle.verify80_suggest.specs.Lacking.{LacksByte}
use Rattle.verify80_suggest.specs.Suggestion.{IsSuggestion, with_regions}
use Rattle.verify80_suggest.proofs.FetchLemmas.{both_true, fetch_more, is_below, lacks}
use Rattle.verify80_suggest.proofs.TableLemmas.{covered_found, found_code}

both : (a b : Bool) → (a && b) ≡ true → (a ≡ true) × (b ≡ true)
both true b e = (refl, e)
both false b e = absurd (true≢false (sym e))

below : (a : ℕ) → nat_lt a 65536 ≡ true → a < 65536
below a e = grind (arith, nat_tests)

past : (a size : ℕ) → size ≡ 65536 → nat_lt a 65536 ≡ false → size ≤ a
past a size is e = grind (arith, nat_tests)

-- where an instruction of this effect leads
abbrev Led : Effect → Instr → Type 0
Led (Changes _) i = (next : ℕ) → falls_to i next ≡ Some next
Led Halt i = Unit {0}
Led (Jump to) i = target_of i ≡ Some to
Led (JumpsIf to) i = (target_of i ≡ Some to) × ((next : ℕ) → falls_to i next ≡ Some next)
Led Case i = is_pchl i ≡ true
Led (Calls to) i = (target_of i ≡ Some to) × ((next : ℕ) → falls_to i next ≡ Some next)
Led (CallsIf to) i = (target_of i ≡ Some to) × ((next : ℕ) → falls_to i next ≡ Some next)
Led Return i = Unit {0}
Led ReturnsIf i = (next : ℕ) → falls_to i next ≡ Some next
Led (Refuse _) i = Unit {0}

led : (i : Instr) → Led (effect_of i) i
led (Jmp to) = refl
led (JumpIf c to) = (refl, λ next. refl)
led (Call to) = (refl, λ next. refl)
led (CallIf c to) = (refl, λ next. refl)
led (Rst n) = (refl, λ next. refl)
led Ret = tt
led (ReturnIf c) = λ next. refl
led Pchl = refl
led Hlt = tt
led Sphl = tt
led (Lxi Bc w) = λ next. refl
led (Lxi De w) = λ next. refl
led (Lxi Hl w) = λ next. refl
led (Lxi Sp w) = λ next. refl
led (Inx Bc) = λ next. refl
led (Inx De) = λ next. refl
led (Inx Hl) = λ next. refl
led (Inx Sp) = tt
led (Dcx Bc) = λ next. refl
led (Dcx De) = λ next. refl
led (Dcx Hl) = λ next. refl
led (Dcx Sp) = tt
led i = λ next. refl

unless_is : (o : Option FrameFault) (m moves : Moves) → unless o m ≡ Ok moves → m ≡ moves
unless_is None m moves e = cc
unless_is (Some fault) m moves e = absurd (let wrong : Err fault ≡ Ok moves = e in cc)

-- where an instruction leads, as a list
abbrev leads_of : Instr → (next : ℕ) → (targets : List ℕ) → List ℕ
leads_of i next targets = given (target_of i) ++ (given (falls_to i next) ++ targets_of i targets)

in_target : (i : Instr) (next to : ℕ) (targets : List ℕ) → target_of i ≡ Some to → Contains (leads_of i next targets) to
in_target i next to targets e = Contains-append_left (given (target_of i)) (given (falls_to i next) ++ targets_of i targets) to
    (subst (λ o. Contains (given o) to) (sym e) (0, omega arith, refl))

in_fall : (i : Instr) (next to : ℕ) (targets : List ℕ) → ((n : ℕ) → falls_to i n ≡ Some n) → to ≡ next → Contains (leads_of i next targets) to
in_fall i next to targets falls e = Contains-append_right (given (target_of i)) (given (falls_to i next) ++ targets_of i targets) to
    (Contains-append_left (given (falls_to i next)) (targets_of i targets) to
    (subst (λ o. Contains (given o) to) (sym (falls next)) (subst (λ n. Contains (n ∷ []) to) e (0, omega arith, refl))))

in_targets : (i : Instr) (next to : ℕ) (targets : List ℕ) → is_pchl i ≡ true → Contains targets to → Contains (leads_of i next targets) to
in_targets i next to targets e has = Contains-append_right (given (target_of i)) (given (falls_to i next) ++ targets_of i targets) to
    (Contains-append_right (given (falls_to i next)) (targets_of i targets) to
    (subst (λ b. Contains (if b then targets else []) to) (sym e) has))

module _ (role : Role) (i : Instr) (f : StackFrame) (moves : Moves) (targets : List ℕ) (next : ℕ) where
  -- where it goes on in its procedure
  leads : (e : Effect) → Led e i → moves_of role e f ≡ Ok moves → (to : ℕ) (g : StackFrame) → LeadsTo moves targets next to g → Contains (leads_of i next targets) to
  leads (Changes c) is e to g l =
      let m : On (changed c f) ≡ moves = unless_is (change_fault role c f.words) (On (changed c f)) moves e in
      in_fall i next to targets is (subst (λ x. LeadsTo x targets next to g) (sym m) l).0
  leads Halt is e to g l = absurd (let m : End ≡ moves = cc in subst (λ x. LeadsTo x targets next to g) (sym m) l)
  leads (Jump a) is e to g l =
      let m : MovesTo f a ≡ moves = cc in
      let there : to ≡ a = (subst (λ x. LeadsTo x targets next to g) (sym m) l).0 in
      subst (Contains (leads_of i next targets)) (sym there) (in_target i next a targets is)
  leads (JumpsIf a) is e to g l =
      let m : Either f a ≡ moves = cc in
      elim (subst (λ x. LeadsTo x targets next to g) (sym m) l).0 [
        | inl there ↦ in_fall i next to targets is.1 there
        | inr there ↦ subst (Contains (leads_of i next targets)) (sym there) (in_target i next a targets is.0)
      ]
  leads Case is e to g l =
      let m : Cases f ≡ moves = cc in
      in_targets i next to targets is (subst (λ x. LeadsTo x targets next to g) (sym m) l).0
  leads (Calls a) is e to g l = absurd (let m : CallOf f a ≡ moves = cc in subst (λ x. LeadsTo x targets next to g) (sym m) l)
  leads (CallsIf a) is e to g l =
      let m : MaybeCall f a ≡ moves = cc in
      in_fall i next to targets is.1 (subst (λ x. LeadsTo x targets next to g) (sym m) l).0
  leads Return is e to g l =
      let m : Returns f.taken ≡ moves = unless_is (return_fault role f.words) (Returns f.taken) moves e in
      absurd (subst (λ x. LeadsTo x targets next to g) (sym m) l)
  leads ReturnsIf is e to g l =
      let m : MaybeReturn f f.taken ≡ moves = unless_is (return_fault role f.words) (MaybeReturn f f.taken) moves e in
      in_fall i next to targets is (subst (λ x. LeadsTo x targets next to g) (sym m) l).0
  leads (Refuse fault) is e to g l = absurd (let wrong : Err fault ≡ Ok moves = e in cc)

  -- what it calls, and where that comes back
  calls : (e : Effect) → Led e i → moves_of role e f ≡ Ok moves → (target : ℕ) → called moves ≡ Some target →
      Contains (leads_of i next targets) target × Contains (leads_of i next targets) next
  calls (Calls a) is e target c =
      let m : CallOf f a ≡ moves = cc in
      let there : Some a ≡ Some target = ap called m ∙ c in
      (in_target i next target targets (is.0 ∙ there), in_fall i next next targets is.1 refl)
  calls (CallsIf a) is e target c =
      let m : MaybeCall f a ≡ moves = cc in
      let there : Some a ≡ Some target = ap called m ∙ c in
      (in_target i next target targets (is.0 ∙ there), in_fall i next next targets is.1 refl)
  calls (Changes c') is e target c =
      let m : On (changed c' f) ≡ moves = unless_is (change_fault role c' f.words) (On (changed c' f)) moves e in
      absurd (let wrong : None ≡ Some target = ap called m ∙ c in cc)
  calls Halt is e target c = absurd (let m : End ≡ moves = cc in let wrong : None ≡ Some target = ap called m ∙ c in cc)
  calls (Jump a) is e target c = absurd (let m : MovesTo f a ≡ moves = cc in let wrong : None ≡ Some target = ap called m ∙ c in cc)
  calls (JumpsIf a) is e target c = absurd (let m : Either f a ≡ moves = cc in let wrong : None ≡ Some target = ap called m ∙ c in cc)
  calls Case is e target c = absurd (let m : Cases f ≡ moves = cc in let wrong : None ≡ Some target = ap called m ∙ c in cc)
  calls Return is e target c =
      let m : Returns f.taken ≡ moves = unless_is (return_fault role f.words) (Returns f.taken) moves e in
      absurd (let wrong : None ≡ Some target = ap called m ∙ c in cc)
  calls ReturnsIf is e target c =
      let m : MaybeReturn f f.taken ≡ moves = unless_is (return_fault role f.words) (MaybeReturn f f.taken) moves e in
      absurd (let wrong : None ≡ Some target = ap called m ∙ c in cc)
  calls (Refuse fault) is e target c = absurd (let wrong : Err fault ≡ Ok moves = e in cc)

-- an image with regions whose code lies in that of others, and that have the same cases
module _ (image : Located) (known areas : Areas) (same : areas.cases ≡ known.cases) (inside : (a : ℕ) → in_code areas a ≡ true → in_code known a ≡ true)
    (entries : List ℕ) (finds : LooksFindWhatIsAdmitted) where
  abbrev memory : List ℕ
  memory = memory_of image.chunks

  abbrev wide : Located
  wide = with_regions image known

  abbrev narrow : Located
  narrow = with_regions image areas

  targets_same : (at : ℕ) → declared_targets areas at ≡ declared_targets known at
  targets_same at = ap (λ (cs : List DeclaredCase). option_map_or (λ targets. targets) (option_map (λ (c : DeclaredCase). c.targets) (find (λ (c : DeclaredCase). c.at == at) cs)) []) same

  leads_found : (at : ℕ) (found : Fetched) → look_at areas memory at ≡ Ok found → leads_to wide at ≡ leads_of found.instr found.next (declared_targets areas at)
  unfolding leads_to
  leads_found at found looked =
      ap (λ (r : Result Fetched FetchFault). leads_from r (declared_targets known at))
      (fetch_more (in_code areas) (in_code known) (λ place. slice_index memory place) at found inside ((finds areas memory at found).0 looked).fetched)
      ∙ ap (λ ts. leads_of found.instr found.next ts) (sym (targets_same at))

  pub may_reach : (p : Procedure) (at : ℕ) (f : StackFrame) → Walk (code_of narrow) p at f → MayReach wide (image.start ∷ entries) at
  may_reach p at f (begins _ _ _ b) = reach_begins at (0, omega arith, sym b.start)
  may_reach p to g (goes_on _ at f _ _ walk goes) =
      let found = goes.found in
      reach_goes_on at to (may_reach p at f walk)
      (subst (λ xs. Contains xs to) (sym (leads_found at found goes.moving.looked))
      (leads (role_of (code_of narrow) p) found.instr f goes.moves (declared_targets areas at) found.next (effect_of found.instr) (led found.instr) goes.moving.moved to g goes.leads))
  may_reach q start g (enters p at f target next _ _ _ walk call into) =
      let found = call.found in
      subst (MayReach wide (image.start ∷ entries)) (sym into.start)
      (reach_goes_on at target (may_reach p at f walk)
      (subst (λ xs. Contains xs target) (sym (leads_found at found call.moving.looked))
      (calls (role_of (code_of narrow) p) found.instr f call.moves (declared_targets areas at) found.next (effect_of found.instr) (led found.instr) call.moving.moved target call.call).0))
  may_reach p to g (comes_back _ at f target _ exit h taken _ walk call back returns after) =
      let found = call.found in
      subst (MayReach wide (image.start ∷ entries)) (sym call.after)
      (reach_goes_on at found.next (may_reach p at f walk)
      (subst (λ xs. Contains xs found.next) (sym (leads_found at found call.moving.looked))
      (calls (role_of (code_of narrow) p) found.instr f call.moves (declared_targets areas at) found.next (effect_of found.instr) (led found.instr) call.moving.moved target call.call).1))

-- the walks over what is suggested come only to what is reached
module _ (image : Located) (known : Known) (first second : Option Setter) (tableless : List ℕ) (notes : List Note) (new : Located) (is : IsSuggestion image known first second tableless notes new) where
  abbrev seen : Areas
  seen = record is.base { cases = is.cases }

  in_seen : (a : ℕ) → in_code new.regions a ≡ true → in_code seen a ≡ true
  in_seen a here =
      let parts = both (nat_lt a 65536) (marked is.found.code a) (sym (is.arranged.code.exact a) ∙ here) in
      found_code (with_regions image seen) known.entries.now known.ram.now is.found is.is_found a (below a parts.0) parts.1

  in_new : (a : ℕ) → a < 65536 → is_covered (with_regions image seen) is.found.reached a ≡ true → in_code new.regions a ≡ true
  in_new a low here = is.arranged.code.exact a
      ∙ both_true (nat_lt a 65536) (marked is.found.code a) (is_below a low) (covered_found (with_regions image seen) known.entries.now known.ram.now is.found is.is_found a low here)

  inside : (at : ℕ) → marked is.found.reached at ≡ true → at < 65536
  inside at reached = (elim (nat_lt at 65536) as (λ b. nat_lt at 65536 ≡ b → at < 65536) [
    | true ↦ λ e. below at e
    | false ↦ λ e. absurd (true≢false (sym reached ∙ get_or_past is.found.reached at false (past at (length is.found.reached) is.is_found.reached.size e)))
  ]) refl

  -- where no instruction is fetched of what is reached, a byte is lacking
  pub lacking : ((i : Instr) → (1 ≤ length (spelling i)) × (length (spelling i) ≤ 3)) → (at : ℕ) → marked is.found.reached at ≡ true →
      fetch_at new.regions (memory_of image.chunks) at ≡ Err Outside → LacksByte image known.rom.now at
  lacking sizes at reached none =
      let low : at < 65536 = inside at reached in
      lacks image seen new.regions known.rom.now is.found.reached is.is_base.exact in_new sizes at low reached none

  -- an entry is reached
  pub entry_reached : (at : ℕ) → Contains known.entries.now at → marked is.found.reached at ≡ true
  entry_reached at has = (is.is_found.reached.exact at).1 (reach_begins at (Contains-append_right (image.start ∷ []) known.entries.now at has))

  module _ (finds : LooksFindWhatIsAdmitted) (faults : LooksAnswerFaultsThatHold) where
    pub walks : (p : Procedure) (at : ℕ) (f : StackFrame) → Walk (code_of new) p at f → marked is.found.reached at ≡ true
    walks p at f walk =
        (is.is_found.reached.exact at).1
        (may_reach image seen new.regions is.arranged.cases in_seen known.entries.now finds p at f (subst (λ (n : Located). Walk (code_of n) p at f) is.same walk))

    pub outside : ((i : Instr) → (1 ≤ length (spelling i)) × (length (spelling i) ≤ 3)) → (at : ℕ) → Holds (code_of new) (FetchOutside at) → LacksByte image known.rom.now at
    outside sizes at wrong =
        lacking sizes at (walks wrong.procedure at wrong.frame wrong.walk)
        ((faults new.regions (memory_of image.chunks) at LooksOutside).0 (subst (λ (n : Located). look_at n.regions (memory_of n.chunks) at ≡ Err LooksOutside) is.same wrong.looked))
