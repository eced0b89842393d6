-- What is read of bytes that are known.
use Rattle.verify80_states.proofs.Names.{◌≡◌, ◌==◌, ℕ, List, Option, None, Some, refl, subst, sym, eqb-true, byte_in, ByteSpan, Cell}
use Rattle.verify80_states.proofs.Names.{Cells, HasBytes, ReadsCode, entry_at, code_or, loaded_at, ByteWithin, byte_alone, HoldsCell}
use Rattle.verify80_states.proofs.Names.{HoldsCells, bytes_at, bytes_of, find, Bool, true, false, [], ◌∷◌, All, All-head, All-tail}
use Rattle.verify80_states.proofs.{ByteLemmas.byte_at as memory_byte, SpanLemmas.any_byte_within, SpanLemmas.alone_within}

among : (memory : List ℕ) (at : ℕ) (cs : List Cell) → HasBytes memory → All (λ c. HoldsCell c memory) cs → ByteWithin (bytes_of (find (λ c. c.at == at) cs)) (byte_in memory at)
among memory at [] bytes each = any_byte_within (byte_in memory at) (memory_byte memory at bytes)
among memory at (c ∷ cs) bytes each = by (c.at == at) refl (among memory at cs bytes (All-tail (λ d. HoldsCell d memory) c cs each)) where
  by : (b : Bool) → (c.at == at) ≡ b → ByteWithin (bytes_of (find (λ d. d.at == at) cs)) (byte_in memory at) → ByteWithin (bytes_of (find (λ d. d.at == at) (c ∷ cs))) (byte_in memory at)
  by true same rest = rw same (subst (λ n. ByteWithin c.bytes (byte_in memory n)) (eqb-true c.at at same) (All-head (λ d. HoldsCell d memory) c cs each))
  by false apart rest = rw apart rest

pub cells_within : (cells : Cells) (memory : List ℕ) (at : ℕ) → HoldsCells cells memory → HasBytes memory → ByteWithin (bytes_at cells at) (byte_in memory at)
cells_within cells memory at holds bytes = among memory at cells.each bytes holds

code_within : (code : List (Option ℕ)) (memory : List ℕ) (at : ℕ) (o : Option ℕ) (otherwise : ByteSpan) → entry_at code at ≡ o → ReadsCode code memory → ByteWithin otherwise (byte_in memory at) → ByteWithin (code_or o otherwise) (byte_in memory at)
code_within code memory at None otherwise e reads other = other
code_within code memory at (Some byte) otherwise e reads other = subst (λ n. ByteWithin (byte_alone byte) n) (sym (reads at byte e)) (alone_within byte)

pub read_within : (code : List (Option ℕ)) (cells : Cells) (memory : List ℕ) (at : ℕ) → ReadsCode code memory → HoldsCells cells memory → HasBytes memory → ByteWithin (loaded_at code cells at) (byte_in memory at)
read_within code cells memory at reads holds bytes = code_within code memory at (entry_at code at) (bytes_at cells at) refl reads (cells_within cells memory at holds bytes)
