use Rattle.std.proofs.Common.{◌≡◌, ◌≢◌, ◌<◌, ◌∙◌, ap, arith, sym, subst, length, Ok, Err, Some, None, Option, ℕ, true, false, List, get_or}
use Rattle.std.specs.Prelude.{is_some, slice_get, slice_set}
use Rattle.std.proofs.lemmas.Option.{slice_get_read}
use Rattle.frames80.specs.declared.procedure.Procedure.{Procedure}
use Rattle.frames80.specs.declared.procedure.Procedure.TheVariants.{Entry}
use Rattle.verify80_flow.specs.declared.refusal.Refusal.TheVariants.{UnevenArguments}
use Rattle.verify80_flow.specs.Known.{Known, KnownFrames, Exits, exit_of, known_at}
use Rattle.verify80_flow.proofs.KnownLemmas.{with_exit}
use Rattle.verify80_flow.proofs.StepLemmas.{exits_first, exits_same, exits_uneven}
use Rattle.verify80_flow.proofs.table.Table.exit.Goals as goal

-- what was read at an entry stands there
read_at : (mine exits : List (Option ℕ)) (entry at : ℕ) (x : Option ℕ) → mine ≡ exits → length mine ≡ 65536 → at ≡ entry → at < 65536 → x ≡ get_or mine at x → slice_get exits entry ≡ Some x
read_at mine exits entry at x same long where_ within read =
    subst (λ (xs : List (Option ℕ)). slice_get xs entry ≡ Some x) same
    (subst (λ n. slice_get mine n ≡ Some x) where_ (slice_get_read mine 65536 at x (sym long) within read))

pub returns-in_ok-wake-in-None-clause-exits : goal.returns-in_ok-wake-in-None-clause-exits
returns-in_ok-wake-in-None-clause-exits c =
    let known = c.args.self.now.known in
    let entry = c.in-Entry.entry in
    let points = ap (λ (t : KnownFrames). t.known.points) c.self.view_is in
    let exits : c.self.inside.exits.items ≡ known.exits = ap (λ (t : KnownFrames). t.known.exits) c.self.view_is in
    let within : c.from.result < 65536 = omega (arith, c.from.ensures) in
    let read : slice_get known.exits entry ≡ Some c.index.result.now =
    read_at c.self.inside.exits.items known.exits entry c.from.result c.index.result.now exits c.self.invariant c.from.ensures within c.index.ensures in
    let none : slice_get known.exits entry ≡ Some None = read ∙ ap (λ (o : Option ℕ). Some o) c.in-None.is in
    let after : record { points = c.self.inside.points.points; exits = slice_set c.self.inside.exits.items c.from-in-None.result (Some c.args.taken); forgets = is_some c.self.inside.asked } ≡ with_exit known entry c.args.taken =
    (λ i. record { points = points i; exits = slice_set (exits i) (c.from-in-None.ensures i) (Some c.args.taken); forgets = (c.self.view_is i).known.forgets }) in
    subst (λ (p : Procedure). Exits known (record { points = c.self.inside.points.points; exits = slice_set c.self.inside.exits.items c.from-in-None.result (Some c.args.taken); forgets = is_some c.self.inside.asked }) p c.args.at c.args.taken (Ok true)) (sym c.in-Entry.is)
    (subst (λ (k : Known). Exits known k (Entry entry) c.args.at c.args.taken (Ok true)) (sym after) (exits_first known entry c.args.at c.args.taken c.requires none))

pub returns-in-Some-clause-exits : goal.returns-in-Some-clause-exits
returns-in-Some-clause-exits c =
    let known = c.args.self.now.known in
    let entry = c.in-Entry.entry in
    let exits : c.self.inside.exits.items ≡ known.exits = ap (λ (t : KnownFrames). t.known.exits) c.self.view_is in
    let within : c.from.result < 65536 = omega (arith, c.from.ensures) in
    let read : slice_get known.exits entry ≡ Some c.index.result.now =
    read_at c.self.inside.exits.items known.exits entry c.from.result c.index.result.now exits c.self.invariant c.from.ensures within c.index.ensures in
    let seen : exit_of known.exits entry ≡ Some c.args.taken = ap known_at read ∙ c.in-Some.is ∙ ap (λ n. Some n) c.if-seen-taken.true in
    subst (λ (p : Procedure). Exits known known p c.args.at c.args.taken (Ok false)) (sym c.in-Entry.is) (exits_same known entry c.args.at c.args.taken c.requires seen)

pub returns-in-Some-2-clause-exits : goal.returns-in-Some-2-clause-exits
returns-in-Some-2-clause-exits c =
    let known = c.args.self.now.known in
    let entry = c.in-Entry.entry in
    let exits : c.self.inside.exits.items ≡ known.exits = ap (λ (t : KnownFrames). t.known.exits) c.self.view_is in
    let within : c.from.result < 65536 = omega (arith, c.from.ensures) in
    let read : slice_get known.exits entry ≡ Some c.index.result.now =
    read_at c.self.inside.exits.items known.exits entry c.from.result c.index.result.now exits c.self.invariant c.from.ensures within c.index.ensures in
    let seen : exit_of known.exits entry ≡ Some c.in-Some.seen = ap known_at read ∙ c.in-Some.is in
    let apart : c.args.taken ≢ c.in-Some.seen = λ e. c.if-seen-taken.false (sym e) in
    subst (λ (p : Procedure). Exits known known p c.args.at c.args.taken (Err (UnevenArguments c.args.at))) (sym c.in-Entry.is)
    (exits_uneven known known entry c.args.at c.args.taken c.in-Some.seen seen apart)
