-- What the loops over the points of a filled table keep.
use Rattle.std.proofs.Common.{◌≡◌, ◌<◌, ◌≤◌, ◌+◌, ◌⊎◌, inl, inr, ℕ, Bool, true, false, List, [], ◌∷◌, ◌++◌, length, get_or, set, refl, sym, ap, subst, ◌∙◌, arith, true≢false}
use Rattle.std.specs.Prelude.{ℤ, Option, Some, None, is_some, IfSome, Result, Ok, Contains, slice_get, slice_index}
use Rattle.std.proofs.lemmas.List.{get_or-set_same, get_or-set_other, length_push}
use Rattle.std.proofs.lemmas.List.Elements.{Contains-get_or, Contains-append_left, Contains-push_cases, Contains-push}
use Rattle.std.proofs.lemmas.List.Quantifiers.{all_pairs_push}
use Rattle.std.proofs.lemmas.Bool.{cases_eq}
use Rattle.decode80.specs.declared.fetching.Fetched.{Fetched}
use Rattle.frames80.specs.declared.fault.FrameFault.{FrameFault}
use Rattle.frames80.specs.declared.moves.Moves.{Moves}
use Rattle.frames80.specs.StackFrame.{StackFrame}
use Rattle.frames80.specs.Effects.{effect_of}
use Rattle.frames80.specs.Moves.{moves_of}
use Rattle.frames80.specs.Calls.{room, depth_of}
use Rattle.frames80.specs.declared.procedure.Procedure.{Procedure}
use Rattle.frames80.specs.declared.procedure.Procedure.TheVariants.{Main, Entry}
use Rattle.verify80_bounds.specs.declared.graph.Depth.{Depth}
use Rattle.verify80_bounds.specs.declared.graph.CallSite.{CallSite}
use Rattle.verify80_flow.specs.declared.report.ProcRow.{ProcRow}
use Rattle.verify80_flow.specs.declared.refusal.Refusal.{Refusal}
use Rattle.verify80_flow.specs.declared.refusal.Refusal.TheVariants.{ShortArguments}
use Rattle.verify80_flow.specs.declared.site.Site.{Site}
use Rattle.frames80.specs.Code.{Code, role_of}
use Rattle.verify80_flow.specs.Walks.{Walk, Moving, Calls, called}
use Rattle.verify80_flow.specs.Points.{Point, IsPointAt, IsNoPoint}
use Rattle.verify80_bounds.specs.Chains.{bytes_of}
use Rattle.frames80.specs.Procedures.{slot_of}
use Rattle.verify80_flow.specs.Shown.{Whole, FrameLaws}
use Rattle.verify80_flow.specs.Known.{Known, Refused, Stands, IsShort}
use Rattle.verify80_flow.specs.Survey.{IsSeen, IsCallOf, noted, IsMoveAt, IsEntered, TakesAt, AreWants, AreMarked, depth_at, call_at, IsDepthAt, IsCallAt, IsSurvey, row_of, IsRowIn, AreListed}
use Rattle.verify80_flow.proofs.FitLemmas.{found_same}
use Rattle.verify80_flow.proofs.ManyVisits.{split}
use Rattle.verify80_flow.proofs.ShownLemmas.{asks_whole, short}

-- one number more below a count
below_more : {X : Type 0} (count i : ℕ) (point : Point) → (xs : List Point) → slice_get xs count ≡ Some point → (other : Point) → i < count + 1 → slice_get xs i ≡ Some other →
    (i < count → X) → (other ≡ point → X) → X
below_more count i point xs there other less is before here = elim (split i count less) [
  | inl e ↦ before e
  | inr e ↦ here (same (slice_get xs count) other point (subst (λ n. slice_get xs n ≡ Some other) e is) there)
]
  where
    same : (o : Option Point) (x y : Point) → o ≡ Some x → o ≡ Some y → x ≡ y
    same o x y one two = cc

-- no two procedures have one slot
pub slot_apart : (p q : Procedure) → slot_of p ≡ slot_of q → p ≡ q
slot_apart Main Main e = refl
slot_apart Main (Entry b) e = absurd (omega arith)
slot_apart (Entry a) Main e = absurd (omega arith)
slot_apart (Entry a) (Entry b) e = ap Entry (omega arith)

pub wants_kept : (points : List Point) (wants : List ℕ) (i : ℕ) (point : Point) (place taken : ℕ) → slice_get points i ≡ Some point → place ≡ slot_of point.procedure →
    taken ≡ point.frame.taken → taken ≤ get_or wants place 0 → AreWants points wants i → AreWants points wants (i + 1)
wants_kept points wants i point place taken there at is enough are = record {
  above = λ j other less here. below_more i j point points there other less here
      (λ before. are.above j other before here)
      (λ same. subst (λ (x : Point). x.frame.taken ≤ bytes_of wants x.procedure) (sym same)
      (subst (λ n. n ≤ bytes_of wants point.procedure) is (subst (λ n. taken ≤ get_or wants n 0) at enough)));
  reached = are.reached;
}

pub wants_raised : (points : List Point) (wants : List ℕ) (i : ℕ) (point : Point) (place taken : ℕ) → slice_get points i ≡ Some point → place ≡ slot_of point.procedure →
    place < length wants → taken ≡ point.frame.taken → get_or wants place 0 < taken → AreWants points wants i → AreWants points (set wants place taken) (i + 1)
wants_raised points wants i point place taken there at within is more are = record {
  above = λ j other less here. below_more i j point points there other less here
      (λ before. no_less (slot_of other.procedure) other.frame.taken (are.above j other before here))
      (λ same. subst (λ (x : Point). x.frame.taken ≤ bytes_of (set wants place taken) x.procedure) (sym same)
      (let now = now_at (slot_of point.procedure) (sym at) in omega (arith, now, is)));
  reached = λ p. elim (cases_eq (slot_of p) place) [
    | inl e ↦ inr (record {
      number = i;
      point = point;
      there = there;
      procedure = slot_apart point.procedure p (sym at ∙ sym e);
      is = sym is ∙ sym (now_at (slot_of p) e);
    })
    | inr ne ↦ subst (λ n. (n ≡ 0) ⊎ TakesAt points p n) (sym (get_or-set_other wants place (slot_of p) taken 0 ne)) (are.reached p)
  ];
}
  where
    now_at : (k : ℕ) → k ≡ place → get_or (set wants place taken) k 0 ≡ taken
    now_at k e = ap (λ n. get_or (set wants place taken) n 0) e ∙ get_or-set_same wants place taken 0 within

    no_less : (k n : ℕ) → n ≤ get_or wants k 0 → n ≤ get_or (set wants place taken) k 0
    no_less k n h = elim (cases_eq k place) [
      | inl e ↦ omega (arith, now_at k e, more, ap (λ j. get_or wants j 0) e)
      | inr ne ↦ omega (arith, get_or-set_other wants place k taken 0 ne)
    ]

-- a call at a point is that of its move
moves_same : (r : Result Moves FrameFault) (a b : Moves) → r ≡ Ok a → r ≡ Ok b → a ≡ b
moves_same r a b one other = cc

pub called_here : (code : Code) (p : Procedure) (at : ℕ) (f : StackFrame) (found : Fetched) (moves : Moves) (target next : ℕ) → Moving code p at f found moves →
    Calls code p at f target next → called moves ≡ Some target
called_here code p at f found moves target next moving call =
    let same : call.found ≡ found = found_same (code.look at) call.found found call.moving.looked moving.looked in
    let moved : moves_of (role_of code p) (effect_of found.instr) f ≡ Ok call.moves =
    subst (λ (x : Fetched). moves_of (role_of code p) (effect_of x.instr) f ≡ Ok call.moves) same call.moving.moved in
    let e : moves ≡ call.moves = moves_same (moves_of (role_of code p) (effect_of found.instr) f) moves call.moves moving.moved moved in
    ap called e ∙ call.call

-- what is called from one point is in the longer list, with its words
record IsCalled (code : Code) (wants : List ℕ) (point : Point) (calls : List CallSite) (target : ℕ) : Type 0 where
  there : Contains calls (call_at code point target)
  words : bytes_of wants (Entry target) ≤ room (role_of code point.procedure) point.frame.words

survey_more : (code : Code) (known : Known) (wants : List ℕ) (i : ℕ) (depths : List Depth) (calls more : List CallSite) (point : Point) (d : Depth) →
    slice_get known.points i ≡ Some point → d ≡ depth_at code point → ((c : CallSite) → Contains calls c → Contains more c) →
    ((c : CallSite) → Contains more c → Contains calls c ⊎ IsCallAt code known c) → length more ≤ length calls + 1 →
    ((target next : ℕ) → Calls code point.procedure point.at point.frame target next → IsCalled code wants point more target) →
    IsSurvey code known wants i depths calls → IsSurvey code known wants (i + 1) (depths ++ d ∷ []) more
survey_more code known wants i depths calls more point d there is kept each few here s = record {
  depth = λ e there_e. elim (Contains-push_cases depths d e there_e) [
    | inl before ↦ s.depth e before
    | inr same ↦ subst (IsDepthAt code known) same (record { number = i; point = point; there = there; is = is })
  ];
  every_depth = λ j other less at. below_more i j point known.points there other less at
      (λ before. Contains-append_left depths (d ∷ []) (depth_at code other) (s.every_depth j other before at))
      (λ same. subst (λ (x : Point). Contains (depths ++ d ∷ []) (depth_at code x)) (sym same) (subst (Contains (depths ++ d ∷ [])) is (Contains-push depths d)));
  call = λ c there_c. elim (each c there_c) [ inl before ↦ s.call c before | inr new ↦ new ];
  every_call = λ j other target next less at call. below_more i j point known.points there other less at
      (λ before. kept (call_at code other target) (s.every_call j other target next before at call))
      (λ same. subst (λ (x : Point). Contains more (call_at code x target)) (sym same)
      (here target next (subst (λ (x : Point). Calls code x.procedure x.at x.frame target next) same call)).there);
  words = λ j other target next less at call. below_more i j point known.points there other less at
      (λ before. s.words j other target next before at call)
      (λ same. subst (λ (x : Point). bytes_of wants (Entry target) ≤ room (role_of code x.procedure) x.frame.words) (sym same)
      (here target next (subst (λ (x : Point). Calls code x.procedure x.at x.frame target next) same call)).words);
  few = let n = s.few in omega (arith, few);
  addresses = s.addresses;
}

none_some : {A : Type 0} (o : Option A) (x : A) → o ≡ None → o ≡ Some x → ⊥
none_some o x one other = let e : None ≡ Some x = sym one ∙ other in cc

pub survey_no_call : (code : Code) (known : Known) (wants : List ℕ) (i : ℕ) (depths : List Depth) (calls : List CallSite) (site : Site) (moves : Moves) (d : Depth) →
    (m : IsMoveAt code known i site moves) → d ≡ depth_at code m.point → called moves ≡ None →
    IsSurvey code known wants i depths calls → IsSurvey code known wants (i + 1) (depths ++ d ∷ []) calls
survey_no_call code known wants i depths calls site moves d m is none =
    survey_more code known wants i depths calls calls m.point d m.there is (λ c h. h) (λ c h. inl h) (omega arith)
    (λ target next call. absurd (none_some (called moves) target none
    (called_here code m.point.procedure m.point.at m.point.frame m.found moves target next m.moving call)))

pub survey_call : (code : Code) (known : Known) (wants : List ℕ) (i : ℕ) (depths : List Depth) (calls : List CallSite) (site : Site) (moves : Moves) (d : Depth) (target : ℕ) (c : CallSite) →
    (m : IsMoveAt code known i site moves) → d ≡ depth_at code m.point → called moves ≡ Some target → c ≡ call_at code m.point target →
    bytes_of wants (Entry target) ≤ room (role_of code m.point.procedure) m.point.frame.words →
    IsSurvey code known wants i depths calls → IsSurvey code known wants (i + 1) (depths ++ d ∷ []) (calls ++ c ∷ [])
survey_call code known wants i depths calls site moves d target c m is some same words =
    survey_more code known wants i depths calls (calls ++ c ∷ []) m.point d m.there is (Contains-append_left calls (c ∷ [])) each
    (let n = length_push calls c in omega (arith, n)) here
  where
    one_call : Calls code m.point.procedure m.point.at m.point.frame target m.found.next
    one_call = record { found = m.found; moves = moves; moving = m.moving; call = some; after = refl }

    each : (e : CallSite) → Contains (calls ++ c ∷ []) e → Contains calls e ⊎ IsCallAt code known e
    each e h = elim (Contains-push_cases calls c e h) [
      | inl before ↦ inl before
      | inr now ↦ inr (subst (IsCallAt code known) now (record { number = i; point = m.point; target = target; next = m.found.next; there = m.there; calls = one_call; is = same }))
    ]

    here : (to next : ℕ) → Calls code m.point.procedure m.point.at m.point.frame to next → IsCalled code wants m.point (calls ++ c ∷ []) to
    here to next call =
        let e : Some target ≡ Some to = sym some ∙ called_here code m.point.procedure m.point.at m.point.frame m.found moves to next m.moving call in
        let n : target ≡ to = cc in
        subst (IsCalled code wants m.point (calls ++ c ∷ [])) n (record { there = subst (Contains (calls ++ c ∷ [])) same (Contains-push calls c); words = words })

-- what is noted of a point, with its call or without
pub survey_noted : (code : Code) (known : Known) (wants : List ℕ) (i : ℕ) (depths : List Depth) (calls : List CallSite) (d : Depth) (call : Option CallSite) →
    IsSeen code known wants i d call → IsSurvey code known wants i depths calls → IsSurvey code known wants (i + 1) (depths ++ d ∷ []) (noted calls call)
survey_noted code known wants i depths calls d call seen s = by (called seen.moves) refl call seen.call_is
  where
    by : (target : Option ℕ) → called seen.moves ≡ target → (c : Option CallSite) → IsCallOf code wants seen.move.point target c →
        IsSurvey code known wants (i + 1) (depths ++ d ∷ []) (noted calls c)
    by None is None of = survey_no_call code known wants i depths calls seen.site seen.moves d seen.move seen.depth_is is s
    by None is (Some c) of = absurd of
    by (Some target) is None of = absurd of
    by (Some target) is (Some c) of = survey_call code known wants i depths calls seen.site seen.moves d target c seen.move seen.depth_is is of.0 of.1 s

-- a caller without the words that its callee wants: one of the callee's walks has taken them
pub short_here : FrameLaws → (exact : Bool) (code : Code) (known : Known) (wants : List ℕ) (i : ℕ) (site : Site) (moves : Moves) (target : ℕ) (f : StackFrame) (refusal : Refusal) →
    (m : IsMoveAt code known i site moves) → f ≡ m.point.frame → called moves ≡ Some target → AreWants known.points wants (length known.points) →
    IsShort site.at (room site.role f.words) (bytes_of wants (Entry target)) refusal → Stands exact code known → Refused exact code refusal
short_here laws exact code known wants i site moves target f refusal m frame call are is stands = elim is [
  | inl memory ↦ subst (Refused exact code) (sym memory) tt
  | inr found ↦ subst (Refused exact code) (sym found.0) (elim (are.reached (Entry target)) [
    | inl none ↦ absurd (omega (arith, none, found.1))
    | inr takes ↦ by_walk takes found.1
  ])
]
  where
    by_walk : TakesAt known.points (Entry target) (bytes_of wants (Entry target)) → room site.role f.words < bytes_of wants (Entry target) → Refused exact code (ShortArguments site.at)
    by_walk takes less =
        let shown = (stands.points takes.number takes.point takes.there).by Whole (asks_whole exact) tt in
        let there = stands.points i m.point m.there in
        let same_room : room site.role f.words ≡ room (role_of code m.point.procedure) m.point.frame.words =
        ap (λ (g : StackFrame). room site.role g.words) frame ∙ ap (λ r. room r m.point.frame.words) m.role in
        subst (λ a. Refused exact code (ShortArguments a)) (sym m.address)
        (short laws exact code m.point.procedure m.point.at m.point.frame m.found moves (record { shown = there; looked = m.moving.looked; moved = m.moving.moved }) target takes.point.at shown.frame call
        (subst (λ (q : Procedure). Walk code q takes.point.at shown.frame) takes.procedure shown.walk)
        (let taken = shown.covers.counts.taken in omega (arith, same_room, less, takes.is, taken)))

pub row_less : (known : Known) (wants bytes : List ℕ) (count : ℕ) (rows : List ProcRow) → (IsEntered known count → ⊥) → AreListed known wants bytes count rows → AreListed known wants bytes (count + 1) rows
row_less known wants bytes count rows none are = record {
  each = λ row there. later row (are.each row there);
  all = λ entry less is. elim (split entry count less) [
    | inl before ↦ are.all entry before is
    | inr here ↦ absurd (none (subst (IsEntered known) here is))
  ];
  by_entry = are.by_entry;
}
  where
    later : (row : ProcRow) → IsRowIn known wants bytes count row → IsRowIn known wants bytes (count + 1) row
    later row is = record { entered = is.entered; is = is.is; before = let b = is.before in omega (arith, b) }

pub row_more : (known : Known) (wants bytes : List ℕ) (count : ℕ) (rows : List ProcRow) (row : ProcRow) → IsEntered known count → row ≡ row_of known wants bytes count →
    AreListed known wants bytes count rows → AreListed known wants bytes (count + 1) (rows ++ row ∷ [])
row_more known wants bytes count rows row entered is are = record {
  each = λ other there. elim (Contains-push_cases rows row other there) [
    | inl before ↦ later other (are.each other before)
    | inr same ↦ subst (IsRowIn known wants bytes (count + 1)) same (record {
      entered = subst (IsEntered known) (sym at) entered;
      is = subst (λ n. row ≡ row_of known wants bytes n) (sym at) is;
      before = omega (arith, at);
    })
  ];
  all = λ entry less known_entry. elim (split entry count less) [
    | inl before ↦ Contains-append_left rows (row ∷ []) (row_of known wants bytes entry) (are.all entry before known_entry)
    | inr here ↦ subst (λ n. Contains (rows ++ row ∷ []) (row_of known wants bytes n)) (sym here) (subst (Contains (rows ++ row ∷ [])) is (Contains-push rows row))
  ];
  by_entry = all_pairs_push (λ (a b : ProcRow). a.entry < b.entry) rows row are.by_entry
      (λ k d less. let b = (are.each (get_or rows k d) (Contains-get_or rows k d less)).before in omega (arith, b, at));
}
  where
    at : row.entry ≡ count
    at = ap (λ (x : ProcRow). x.entry) is

    later : (other : ProcRow) → IsRowIn known wants bytes count other → IsRowIn known wants bytes (count + 1) other
    later other i = record { entered = i.entered; is = i.is; before = let b = i.before in omega (arith, b) }

-- a point of the entry was found
pub entered_there : (known : Known) (entry : ℕ) (place : Option ℕ) (found : Bool) → found ≡ is_some place → IfSome place (λ i. IsPointAt known.points (Entry entry) entry i) → found ≡ true → IsEntered known entry
entered_there known entry None found is there here = absurd (true≢false (sym here ∙ is))
entered_there known entry (Some i) found is there here =
    record { number = i; point = there.point; there = there.stands; procedure = there.in_procedure; address = there.at_address }

-- the depth and the call that are noted are the point's
pub depth_noted : (code : Code) (known : Known) (i : ℕ) (site : Site) (moves : Moves) (f : StackFrame) (depth : ℤ) → (m : IsMoveAt code known i site moves) → f ≡ m.point.frame →
    depth ≡ depth_of site.role f → record { procedure = site.procedure; depth = depth } ≡ depth_at code m.point
depth_noted code known i site moves f depth m frame is = λ j. record { procedure = m.procedure j; depth = same j }
  where
    same : depth ≡ depth_of (role_of code m.point.procedure) m.point.frame
    same = is ∙ ap (depth_of site.role) frame ∙ ap (λ r. depth_of r m.point.frame) m.role

pub call_noted : (code : Code) (known : Known) (i : ℕ) (site : Site) (moves : Moves) (f : StackFrame) (depth : ℤ) (target : ℕ) → (m : IsMoveAt code known i site moves) → f ≡ m.point.frame →
    depth ≡ depth_of site.role f → record { caller = site.procedure; at = site.at; depth = depth; target = target } ≡ call_at code m.point target
call_noted code known i site moves f depth target m frame is = λ j. record { caller = m.procedure j; at = m.address j; depth = same j; target = target }
  where
    same : depth ≡ depth_of (role_of code m.point.procedure) m.point.frame
    same = is ∙ ap (depth_of site.role) frame ∙ ap (λ r. depth_of r m.point.frame) m.role

-- the caller has the words that are wanted
pub words_enough : (code : Code) (known : Known) (wants : List ℕ) (i : ℕ) (site : Site) (moves : Moves) (f : StackFrame) (target place : ℕ) → (m : IsMoveAt code known i site moves) →
    f ≡ m.point.frame → place ≡ slot_of (Entry target) → slice_index wants place ≤ room site.role f.words →
    bytes_of wants (Entry target) ≤ room (role_of code m.point.procedure) m.point.frame.words
words_enough code known wants i site moves f target place m frame at enough =
    let same_room : room site.role f.words ≡ room (role_of code m.point.procedure) m.point.frame.words =
    ap (λ (g : StackFrame). room site.role g.words) frame ∙ ap (λ r. room r m.point.frame.words) m.role in
    subst (λ n. bytes_of wants (Entry target) ≤ n) same_room (subst (λ n. slice_index wants n ≤ room site.role f.words) at enough)

pub not_entered : (known : Known) (entry : ℕ) → IsNoPoint known.points (Entry entry) entry → IsEntered known entry → ⊥
not_entered known entry none entered = none.none entered.number entered.point entered.there entered.procedure entered.address

pub none_marked : (points : List Point) (marks : List Bool) → AreMarked points marks 0
none_marked points marks = record { marked = λ i point less there. absurd (omega (arith, less)) }

-- one procedure more is marked
module _ (points : List Point) (marks : List Bool) (i : ℕ) (point : Point) (place : ℕ) (there : slice_get points i ≡ Some point) (at : place ≡ slot_of point.procedure) (within : place < length marks) where
  still_marked : (n : ℕ) → get_or marks n false ≡ true → get_or (set marks place true) n false ≡ true
  still_marked n is = elim (cases_eq n place) [
    | inl e ↦ subst (λ (k : ℕ). get_or (set marks place true) k false ≡ true) (sym e) (get_or-set_same marks place true false within)
    | inr other ↦ get_or-set_other marks place n true false other ∙ is
  ]

  pub mark_more : AreMarked points marks i → AreMarked points (set marks place true) (i + 1)
  mark_more are = record {
    marked = λ j other less here. below_more i j point points there other less here
        (λ before. still_marked (slot_of other.procedure) (are.marked j other before here))
        (λ same. subst (λ (x : Point). get_or (set marks place true) (slot_of x.procedure) false ≡ true) (sym same)
        (subst (λ (k : ℕ). get_or (set marks place true) k false ≡ true) at (get_or-set_same marks place true false within)));
  }
