use Rattle.std.proofs.Common.{◌&&◌, ◌||◌, ◌==◌, not, Bool, ap, sym, ◌∙◌, arith, get_or, eq-eqb, ◌<◌, length, refl}
use Rattle.rom80_find.specs.Dump.{dump_of}
use Rattle.rom80_pattern.specs.CodeBytes.{number_of}
use Rattle.rom80_pattern.specs.declared.code_byte.CodeByte.{CodeByte}
use Rattle.rom80_find.specs.Places.{is_known, in_table, fits_for, fits}
use Rattle.rom80_find.proofs.SolveLemmas.{all_fail, each_at, some_byte}
use Rattle.rom80_find.proofs.solving.solve.Goals as goal

pub returns-then-not-narrow_to_byte-clause-no : goal.returns-then-not-narrow_to_byte-clause-no
returns-then-not-narrow_to_byte-clause-no c = λ _.
    let code = c.args.code.now in
    let i = c.loop-index.index in
    let b = get_or code i some_byte in
    let n = number_of b.target in
    let below : n < length c.loop-index.table = omega (arith, each_at (λ (b : CodeByte). number_of b.target < length c.args.table.now) code i some_byte c.requires.below c.loop-index-test.true, c.loop-index.invariant.whole) in
    record {
      number = n;
      none = λ word w. all_fail (is_known c.args.address n word) (fits_for (dump_of c.args.dump) c.args.address n word) code i some_byte c.loop-index-test.true
          (ap (λ (x : Bool). (x && (not (n == n) || fits (dump_of c.args.dump) c.args.address b word))) (sym (c.loop-index.invariant.table.each n word below w))
          ∙ ap (λ (x : Bool). in_table c.loop-index.table n word && (not x || fits (dump_of c.args.dump) c.args.address b word)) (eq-eqb n n refl)
          ∙ c.narrow_to_byte.ensures.no c.if-not-narrow_to_byte.true word w);
    }
