use Rattle.std.proofs.Common.{◌≡◌, ◌∙◌, ap, arith, length, suc, sym, slice_set, add-one}
use Rattle.frames80.proofs.Meeting.{AreAt, met_to, met_to-whole, met_to_more, changed_more}
use Rattle.frames80.proofs.merge.meet_words.Goals as goal

pub loop-i-preserved : goal.loop-i-preserved
loop-i-preserved c =
    let xs = c.args.words.now.items in
    let ys = c.args.others.now.items in
    let x = c.index_mut.result.now in
    let y = c.index.result.now in
    let i = c.loop-i.i in
    let long : length xs ≡ length ys = sym c.args.words.now.ok.0 ∙ c.requires ∙ c.args.others.now.ok.0 in
    let within = c.loop-i-test.true in
    let count = c.len-i-end.ensures in
    let so_far = c.loop-i.invariant.met in
    let whole = c.args.words.now.ok in
    let at : AreAt i xs ys x y = record { within = omega arith; long = long; mine = rw (← so_far) c.index_mut.ensures.value; other = c.index.ensures } in
    let after = c.meet_word-changed.ensures in
    let set_is : slice_set c.loop-i.words.items i c.meet_word-changed.new.word ≡ met_to (suc i) xs ys = rw (so_far, after.met) (met_to_more i xs ys x y at) in
    record {
      met = rw add-one set_is;
      changed = rw set_is (changed_more i xs ys x y c.loop-i.changed c.meet_word-changed.result at (rw so_far at c.loop-i.invariant.changed) (rw after.met at after.changed));
    }

pub returns-clause-met : goal.returns-clause-met
returns-clause-met c =
    let xs = c.args.words.now.items in
    let ys = c.args.others.now.items in
    let long : length xs ≡ length ys = sym c.args.words.now.ok.0 ∙ c.requires ∙ c.args.others.now.ok.0 in
    let over = c.loop-i-test.false in
    let within = c.loop-i.auto.i-end in
    let count = c.len-i-end.ensures in
    let whole = c.args.words.now.ok in
    let all : c.loop-i.i ≡ length xs = omega arith in
    c.loop-i.invariant.met ∙ ap (λ n. met_to n xs ys) all ∙ met_to-whole xs ys long
