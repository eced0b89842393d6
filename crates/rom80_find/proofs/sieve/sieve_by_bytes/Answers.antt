use Rattle.std.proofs.Common.{◌≡◌, ◌+◌, ◌∙◌, ap, arith, List, ◌&&◌, take, take_all}
use Rattle.std.specs.List.{list_all}
use Rattle.rom80_pattern.specs.declared.code_byte.CodeByte.{CodeByte}
use Rattle.rom80_find.specs.Marks.{bit_in, passes}
use Rattle.rom80_find.proofs.SolveLemmas.{some_byte}
use Rattle.rom80_find.proofs.SieveLemmas.{sieved_more, sieved_out}
use Rattle.rom80_find.proofs.sieve.sieve_by_bytes.Goals as goal

pub returns-then-not-sieve_by_byte-clause-each : goal.returns-then-not-sieve_by_byte-clause-each
returns-then-not-sieve_by_byte-clause-each c = λ a lt.
    let p = passes c.args.dump.now a in
    sieved_out p c.args.code.now (c.loop-byte.byte-index + 1) (bit_in c.args.alive.now a) (bit_in c.sieve_by_byte.new.alive a)
    (sieved_more p c.args.code.now c.loop-byte.byte-index some_byte (bit_in c.args.alive.now a) (bit_in c.loop-byte.alive a) (bit_in c.sieve_by_byte.new.alive a) c.loop-byte-test.true
    (c.loop-byte.invariant.each a lt) (c.sieve_by_byte.ensures.each a lt))
    (c.sieve_by_byte.ensures.none c.if-not-sieve_by_byte.true a lt)

pub loop-byte-preserved : goal.loop-byte-preserved
loop-byte-preserved c = record {
  whole = c.sieve_by_byte.ensures.whole;
  each = λ a lt.
      sieved_more (passes c.args.dump.now a) c.args.code.now c.loop-byte.byte-index some_byte (bit_in c.args.alive.now a) (bit_in c.loop-byte.alive a) (bit_in c.sieve_by_byte.new.alive a) c.loop-byte-test.true
      (c.loop-byte.invariant.each a lt) (c.sieve_by_byte.ensures.each a lt);
}

pub returns-clause-each : goal.returns-clause-each
returns-clause-each c = λ a lt.
    let all : take c.loop-byte.byte-index c.args.code.now ≡ c.args.code.now = take_all c.loop-byte.byte-index c.args.code.now (omega (arith, c.loop-byte-test.false)) in
    c.loop-byte.invariant.each a lt
    ∙ ap (λ (bs : List CodeByte). bit_in c.args.alive.now a && list_all (passes c.args.dump.now a) bs) all
