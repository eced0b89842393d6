-- The rows of the code are the rows of the opcode table.
use Rattle.std.proofs.Common.{◌≡◌, ℕ, ◌<◌, List, Option, None, refl, ap, ◌∙◌, get_or, map, arith}
use Rattle.std.specs.List.{range_with_len}
use Rattle.std.proofs.lemmas.List.FromFn.{get_or-map-range_with_len}
use Rattle.decode80.specs.declared.instr.Instr.{Instr}
use Rattle.decode80.specs.declared.table.TheConstants.{ROWS}
use Rattle.decode80.specs.Decoded.{row}
use Rattle.decode80.proofs.decoding.row_at.Goals as goal

-- computed over all 256 first bytes
rows-computed : ROWS ≡ map row (range_with_len 0 256)
unfolding row
rows-computed = refl

-- the rule at each
get_or-rows : (first : ℕ) → first < 256 → get_or ROWS first None ≡ row first
get_or-rows first below =
    ap (λ (rows : List (Option Instr)). get_or rows first None) rows-computed ∙ get_or-map-range_with_len row 0 256 first first None below (omega arith)

pub returns : goal.returns
returns c = get_or-rows c.args.first c.ranges.first.fits
