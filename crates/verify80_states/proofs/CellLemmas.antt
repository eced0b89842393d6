-- What is known of bytes of memory, along stores and where it is read.
use Rattle.verify80_states.proofs.Names.{◌≡◌, ◌≢◌, ◌⊎◌, ◌<◌, ◌&&◌, ◌==◌, ℕ, Bool, true, false, List, [], ◌∷◌, Option, None, Some, nat_le, length, slice_index}
use Rattle.verify80_states.proofs.Names.{slice_set, refl, subst, sym, ap, ◌∙◌, arith, inl, inr, eqb-true, nat_tests, get_or-set_same, length-set, Areas}
use Rattle.verify80_states.proofs.Names.{in_data, byte_in, stored, Span, ByteSpan, Cell, Cells, Variable, Known, HoldsSet, IsSaid, HasBytes, Within}
use Rattle.verify80_states.proofs.Names.{ByteWithin, is_alone, HoldsCell, HoldsCells, IsByteInside, any_byte, IsCellInside, AreCellsInside, IsQuietCell}
use Rattle.verify80_states.proofs.Names.{AreQuietCells, any_cell, no_cells, map, get_or, All, All-map, All-replicate, slice_get-get_or, cut_cell, cut_cells}
use Rattle.verify80_states.proofs.Names.{stored_cell, HoldsSource, IsQuietSource, IsQuietKnown, nothing_known, cells_after, StoredByte, All-set, IsByte}
use Rattle.verify80_states.proofs.{ByteLemmas.byte_at as memory_byte, SpanLemmas.any_byte_within, SpanLemmas.byte_inside_within, SpanLemmas.meet_bytes_within}
use Rattle.verify80_states.proofs.{MemoryLemmas.Ground, MemoryLemmas.one_stored, StoredLemmas.AreStored, StoredLemmas.stack_stored}

-- what holds of each cell holds of what becomes of it
each_so : (P W : Cell → Type 0) (f : Cell → Cell) (cells : List Cell) → ((c : Cell) → P c → W (f c)) → All P cells → All W (map f cells)
each_so P W f cells so are = All-map W f cells (λ k d inside. so (get_or cells k d) (are k d inside))

-- cells around others
module _ (variables : List Variable) (set : ℕ) (memory : List ℕ) (bytes : HasBytes memory) (named : HoldsSet variables set memory) where
  around : (c d : Cell) → IsCellInside variables set c d → HoldsCell c memory → HoldsCell d memory
  around c d inside holds = by inside.either where
    by : ((d.bytes ≡ any_byte) ⊎ ((c.at ≡ d.at) × IsByteInside c.bytes d.bytes)) ⊎ IsSaid variables set d → HoldsCell d memory
    by (inl (inl any)) = subst (λ (s : ByteSpan). ByteWithin s (byte_in memory d.at)) (sym any) (any_byte_within (byte_in memory d.at) (memory_byte memory d.at bytes))
    by (inl (inr so)) = subst (λ n. ByteWithin d.bytes (byte_in memory n)) so.0 (byte_inside_within c.bytes d.bytes (byte_in memory c.at) so.1 holds)
    by (inr said) =
        let v = said.variable in
        subst (λ n. ByteWithin d.bytes (byte_in memory n)) said.at (byte_inside_within v.bytes d.bytes (byte_in memory v.at) said.inside (named v said.named))

  pub cells_around : (cells others : Cells) → AreCellsInside variables set cells others → HoldsCells cells memory → HoldsCells others memory
  cells_around cells others inside holds k d less =
      let within : k < length cells.each = (let long = inside.long in omega arith) in
      around (get_or cells.each k d) (get_or others.each k d) (inside.at k _ _ (slice_get-get_or cells.each k d within) (slice_get-get_or others.each k d less)) (holds k d within)

pub none_hold : (memory : List ℕ) → HasBytes memory → HoldsCells no_cells memory
none_hold memory bytes = All-replicate (λ c. HoldsCell c memory) 8 any_cell (any_byte_within (byte_in memory 0) (memory_byte memory 0 bytes))

-- cells of quiet addresses stay where the bytes of these do
beside : (quiet : ℕ → Bool) (m m' : List ℕ) (c : Cell) → ((at : ℕ) → quiet at ≡ true → slice_index m' at ≡ slice_index m at) → HasBytes m' → (c.bytes ≡ any_byte) ⊎ (quiet c.at ≡ true) → HoldsCell c m → HoldsCell c m'
beside quiet m m' c same bytes (inl any) holds = subst (λ (s : ByteSpan). ByteWithin s (byte_in m' c.at)) (sym any) (any_byte_within (byte_in m' c.at) (memory_byte m' c.at bytes))
beside quiet m m' c same bytes (inr here) holds = subst (λ n. ByteWithin c.bytes n) (sym (same c.at here)) holds

pub cells_beside : (quiet : ℕ → Bool) (m m' : List ℕ) (cells : Cells) → ((at : ℕ) → quiet at ≡ true → slice_index m' at ≡ slice_index m at) → HasBytes m' → AreQuietCells quiet cells → HoldsCells cells m → HoldsCells cells m'
cells_beside quiet m m' cells same bytes are holds k d inside = beside quiet m m' (get_or cells.each k d) same bytes (are k d inside).either (holds k d inside)

-- addresses that are quiet are others that are
quieter : (quiet other : ℕ → Bool) (c : Cell) → ((at : ℕ) → quiet at ≡ true → other at ≡ true) → (c.bytes ≡ any_byte) ⊎ (quiet c.at ≡ true) → IsQuietCell other c
quieter quiet other c more (inl any) = record { either = inl any }
quieter quiet other c more (inr here) = record { either = inr (more c.at here) }

source_quieter : (quiet other : ℕ → Bool) (o : Option ℕ) → ((at : ℕ) → quiet at ≡ true → other at ≡ true) → IsQuietSource quiet o → IsQuietSource other o
source_quieter quiet other None more is = tt
source_quieter quiet other (Some at) more is = more at is

pub known_quieter : (quiet other : ℕ → Bool) (s : Known) → ((at : ℕ) → quiet at ≡ true → other at ≡ true) → IsQuietKnown quiet s → IsQuietKnown other s
known_quieter quiet other s more are = record {
  cells = λ k d inside. quieter quiet other (get_or s.cells.each k d) more (are.cells k d inside).either;
  source = source_quieter quiet other s.source more are.source;
}

pub none_quiet : (quiet : ℕ → Bool) → IsQuietKnown quiet nothing_known
none_quiet quiet = record { cells = All-replicate (IsQuietCell quiet) 8 any_cell (record { either = inl refl }); source = tt }

-- what devices don't touch stays that of A
pub source_beside : (quiet : ℕ → Bool) (m m' : List ℕ) (o : Option ℕ) (a : ℕ) → ((at : ℕ) → quiet at ≡ true → slice_index m' at ≡ slice_index m at) → IsQuietSource quiet o → HoldsSource o m a → HoldsSource o m' a
source_beside quiet m m' None a same quiet_at is = tt
source_beside quiet m m' (Some at) a same quiet_at is = same at quiet_at ∙ is

-- a byte is stored
alone_at : (at : Span) (n b : ℕ) → (nat_le at.first n && nat_le n at.last) ≡ true → is_alone at ≡ true → Within at b → n ≡ b
alone_at at n b inside alone there = let above = there.above in let below = there.below in grind (arith, nat_tests)

pub apart_from : (at : Span) (n b : ℕ) → (nat_le at.first n && nat_le n at.last) ≡ false → Within at b → n ≢ b
apart_from at n b outside there = λ e. let above = there.above in let below = there.below in grind (arith, nat_tests)

module _ (s : StoredByte) (m : List ℕ) (b x : ℕ) (whole : length m ≡ 65536) (small : b < 65536) (held : HasBytes (stored m ((b, x) ∷ []))) (there : Within s.at b) (is : ByteWithin s.bytes x) where
  cell_stored_by : (c : Cell) (inside alone : Bool) → (nat_le s.at.first c.at && nat_le c.at s.at.last) ≡ inside → is_alone s.at ≡ alone → HoldsCell c m → HoldsCell (stored_cell s c) (stored m ((b, x) ∷ []))
  cell_stored_by c true true inside alone holds =
      let same = alone_at s.at c.at b inside alone there in
      rw (inside, alone) (subst (λ n. ByteWithin s.bytes n) (sym (ap (λ n. slice_index (stored m ((b, x) ∷ [])) n) same ∙ get_or-set_same m b x 0 (omega (arith, small, whole)))) is)
  cell_stored_by c true false inside alone holds = rw (inside, alone) (any_byte_within (byte_in (stored m ((b, x) ∷ [])) c.at) (memory_byte (stored m ((b, x) ∷ [])) c.at held))
  cell_stored_by c false alone inside alone_is holds = rw inside (subst (λ n. ByteWithin c.bytes n) (sym (one_stored m c.at b x (apart_from s.at c.at b inside there))) holds)

  cells_are_stored : (cells : Cells) → HoldsCells cells m → HoldsCells (cells_after (Some s) cells) (stored m ((b, x) ∷ []))
  cells_are_stored cells holds =
      each_so (λ c. HoldsCell c m) (λ c. HoldsCell c (stored m ((b, x) ∷ []))) (stored_cell s) cells.each (λ c is. cell_stored_by c (nat_le s.at.first c.at && nat_le c.at s.at.last) (is_alone s.at) refl refl is) holds

-- a cell is cut
module _ (at : ℕ) (bytes : ByteSpan) where
  cell_cut_by : (m : List ℕ) (c : Cell) (b : Bool) → (c.at == at) ≡ b → ByteWithin bytes (byte_in m at) → HoldsCell c m → HoldsCell (cut_cell at bytes c) m
  cell_cut_by m c true same inside holds =
      rw same (meet_bytes_within c.bytes bytes (byte_in m c.at) holds (subst (λ n. ByteWithin bytes (byte_in m n)) (sym (eqb-true c.at at same)) inside))
  cell_cut_by m c false same inside holds = rw same holds

  quiet_cut_by : (quiet : ℕ → Bool) (c : Cell) (b : Bool) → (c.at == at) ≡ b → quiet at ≡ true → IsQuietCell quiet c → IsQuietCell quiet (cut_cell at bytes c)
  quiet_cut_by quiet c true same here is = rw same (record { either = inr (subst (λ n. quiet n ≡ true) (sym (eqb-true c.at at same)) here) })
  quiet_cut_by quiet c false same here is = rw same is

pub cells_cut : (o : Option ℕ) (bytes : ByteSpan) (cells : Cells) (m : List ℕ) (a : ℕ) → HoldsSource o m a → ByteWithin bytes a → HoldsCells cells m → HoldsCells (cut_cells o bytes cells) m
cells_cut None bytes cells m a is inside holds = holds
cells_cut (Some at) bytes cells m a is inside holds =
    each_so (λ c. HoldsCell c m) (λ c. HoldsCell c m) (cut_cell at bytes) cells.each
    (λ c here. cell_cut_by at bytes m c (c.at == at) refl (subst (λ n. ByteWithin bytes n) (sym is) inside) here) holds

pub cells_cut_quiet : (quiet : ℕ → Bool) (o : Option ℕ) (bytes : ByteSpan) (cells : Cells) → IsQuietSource quiet o → AreQuietCells quiet cells → AreQuietCells quiet (cut_cells o bytes cells)
cells_cut_quiet quiet None bytes cells is are = are
cells_cut_quiet quiet (Some at) bytes cells is are =
    each_so (IsQuietCell quiet) (IsQuietCell quiet) (cut_cell at bytes) cells.each (λ c here. quiet_cut_by at bytes quiet c (c.at == at) refl is here) are

-- what an instruction stores
module _ (regions : Areas) (ground : Ground regions) where
  pub cells_kept : (b c : Option StoredByte) (bytes : List (ℕ × ℕ)) (cells : Cells) (m : List ℕ) → AreStored regions b c bytes → length m ≡ 65536 → HasBytes m → HasBytes (stored m bytes) → AreQuietCells (in_data regions) cells → HoldsCells cells m →
      HoldsCells (cells_after c (cells_after b cells)) (stored m bytes)
  cells_kept None None bytes cells m are whole held after quiet holds =
      cells_beside (in_data regions) m (stored m bytes) cells (λ at here. stack_stored regions bytes m at are (ground.data_or_stack at here)) after quiet holds
  cells_kept (Some b) None (x ∷ []) cells m are whole held after quiet holds = cells_are_stored b m x.0 x.1 whole are.small after are.there are.is cells holds
  cells_kept (Some b) (Some c) (x ∷ y ∷ []) cells m are whole held after quiet holds =
      cells_are_stored c (slice_set m x.0 x.1) y.0 y.1 (length-set m x.0 x.1 ∙ whole) are.1.small after are.1.there are.1.is (cells_after (Some b) cells)
      (cells_are_stored b m x.0 x.1 whole are.0.small (All-set IsByte m x.0 x.1 are.0.byte held) are.0.there are.0.is cells holds)
  cells_kept b c bytes cells m are whole held after quiet holds = absurd are
