use Rattle.std.proofs.Common.{◌≡◌, ◌∙◌, ◌-◌, ◌≤◌, ap, arith, sym, length, drop, take, reverse}
use Rattle.std.proofs.lemmas.List.{length-reverse}
use Rattle.frames80.specs.StackFrame.{StackFrame}
use Rattle.frames80.specs.Calls.{room}
use Rattle.frames80.proofs.Reversed.{drop_reverse}
use Rattle.frames80.proofs.Returned.{came}
use Rattle.frames80.proofs.call.after.Goals as goal

pub returns-clause-came : goal.returns-clause-came
returns-clause-came c =
    let items = c.frame.inside.words.items in
    let n = c.len.result - c.args.taken in
    let seen : c.args.frame.now.words ≡ reverse items = ap (λ (f : StackFrame). f.words) (sym c.frame.view_is) in
    let enough : c.args.wants ≤ room c.args.role c.args.frame.now.words = omega (arith, c.room.ensures.value) in
    let long : length c.args.frame.now.words ≡ length items = ap length seen ∙ length-reverse items in
    let counted : c.len.result ≡ length items = c.len.ensures ∙ c.frame.inside.words.ok.0 in
    let within = c.room.ensures.within in
    let left : drop c.args.taken (reverse items) ≡ reverse (take n items) = drop_reverse items c.args.taken n (omega arith) in
    let kept : take n items ≡ c.in_ok-words.words.items = sym (c.in_ok-words.ensures.items ∙ ap (take n) c.deref.ensures.value) in
    let drops : drop c.args.taken c.args.frame.now.words ≡ reverse c.in_ok-words.words.items = ap (drop c.args.taken) seen ∙ left ∙ ap reverse kept in
    let same : c.args.frame.now.taken ≡ c.frame.inside.taken = ap (λ (f : StackFrame). f.taken) (sym c.frame.view_is) in
    rw (c.of_words.ensures, ← same) (came c.args.role c.args.wants c.args.taken c.args.frame.now (reverse c.in_ok-words.words.items) enough drops)
