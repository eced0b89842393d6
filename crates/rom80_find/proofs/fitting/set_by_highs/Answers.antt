use Rattle.std.proofs.Common.{◌≡◌, ◌+◌, ◌%◌, ◌≤◌, ◌∙◌, ap, arith, subst, sym, take, take_all, max, ℕ, List, slice_index_or}
use Rattle.std.specs.List.{AllByRecursion}
use Rattle.rom80_pattern.specs.declared.code_byte.CodeByte.{CodeByte}
use Rattle.rom80_find.specs.Blocks.{high_sum, less, low_needed}
use Rattle.rom80_find.specs.Fixups.{first_number}
use Rattle.rom80_find.specs.Marks.{has_row}
use Rattle.rom80_find.proofs.FitLemmas.{all_below, each_true, entry, found_is, free_known, high_best, needed, needed_small, one_there, raised_enough, raised_most}
use Rattle.rom80_find.proofs.SolveLemmas.{some_byte}
use Rattle.rom80_find.proofs.fitting.set_by_highs.Goals as goal

pub loop-byte-init : goal.loop-byte-init
loop-byte-init c = record {
  enough = λ k lt there. tt;
  most = λ k n lt there all. omega (arith, c.clear.ensures k lt);
}

pub loop-byte-preserved : goal.loop-byte-preserved
loop-byte-preserved c =
    let now = c.loop-byte.invariant in
    let dump = c.args.dump.now in
    let bytes = c.args.bytes.now in
    let i = c.loop-byte.byte-index in
    let byte_here = c.loop-byte-test.true in
    record {
      enough = λ k lt there.
          let high = slice_index_or c.set_highs.new.highs k 0 in
          raised_enough (λ b. needed dump (c.args.first + k) high b) bytes i (slice_index_or c.loop-byte.lows k 0) (slice_index_or c.raise_lows.new.lows k 0) some_byte byte_here
          (now.enough k lt there)
          (c.raise_lows.ensures k lt
          ∙ ap (λ (n : ℕ). max (slice_index_or c.loop-byte.lows k 0) (low_needed high (slice_index_or bytes i some_byte).addend n))
          (found_is dump c.args.first k c.found_at-in-loop-byte.result.now (slice_index_or bytes i some_byte) c.found_at-in-loop-byte.ensures lt
          (each_true (λ b. has_row dump 256 ((c.args.first + k + b.offset) % 65536)) bytes i some_byte there byte_here)));
      most = λ k n lt there all.
          let high = slice_index_or c.set_highs.new.highs k 0 in
          raised_most (λ b. needed dump (c.args.first + k) high b) bytes i (slice_index_or c.loop-byte.lows k 0) (slice_index_or c.raise_lows.new.lows k 0) n some_byte byte_here
          (λ h. now.most k n lt there h)
          (c.raise_lows.ensures k lt
          ∙ ap (λ (n : ℕ). max (slice_index_or c.loop-byte.lows k 0) (low_needed high (slice_index_or bytes i some_byte).addend n))
          (found_is dump c.args.first k c.found_at-in-loop-byte.result.now (slice_index_or bytes i some_byte) c.found_at-in-loop-byte.ensures lt
          (each_true (λ b. has_row dump 256 ((c.args.first + k + b.offset) % 65536)) bytes i some_byte there byte_here))) all;
    }

pub returns : goal.returns
returns c = λ k lt there.
    let now = c.loop-byte.invariant in
    let dump = c.args.dump.now in
    let bytes = c.args.bytes.now in
    let address = c.args.first + k in
    let least = c.least_of-least.result in
    let low = slice_index_or c.loop-byte.lows k 0 in
    let high = slice_index_or c.set_highs.new.highs k 0 in
    let all : take c.loop-byte.byte-index bytes ≡ bytes = take_all c.loop-byte.byte-index bytes (omega (arith, c.loop-byte-test.false)) in
    let most : (n : ℕ) → AllByRecursion (λ b. needed dump address high b ≤ n) bytes → low ≤ n =
    λ n h. now.most k n lt there (subst (λ (bs : List CodeByte). AllByRecursion (λ b. needed dump address high b ≤ n) bs) (sym all) h) in
    let small : low ≤ 255 = most 255 (all_below (λ b. needed dump address high b) 255 bytes (λ b. omega (arith, needed_small high b.addend (entry dump address b)))) in
    high_best dump address (first_number bytes) bytes least low high there c.least_of-least.ensures.has c.requires.high c.least_of-least.ensures.least
    (c.set_highs.ensures k lt
    ∙ (ap (λ (n : ℕ). less n (high_sum 0 (slice_index_or c.clear.new.bytes k 0) least.addend))
    (found_is dump c.args.first k c.found_at.result.now least c.found_at.ensures lt (one_there dump address bytes least there c.least_of-least.ensures.has))
    ∙ ap (λ (n : ℕ). less (entry dump address least) (high_sum 0 n least.addend)) (c.clear.ensures k lt)))
    (omega (arith, small))
    (subst (λ (bs : List CodeByte). AllByRecursion (λ b. needed dump address high b ≤ low) bs) all (now.enough k lt there))
    most (λ n. free_known address (first_number bytes) n c.requires.free)
