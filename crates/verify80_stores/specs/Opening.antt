-- What is known leaves open of an instruction that stores or jumps by a register pair. (This project's own.)
use Rattle.std.specs.Prelude.{◌≡◌, ◌⊎◌, ℕ, true, false, Contains, List, Option, None, Some}
use Rattle.decode80.specs.declared.{instr.Instr.Instr, fetching.Fetched.Fetched, storing.Storing.Storing}
use Rattle.decode80.specs.declared.storing.Storing.TheVariants.{Nowhere, Byte, Word, ThroughHl, Through}
use Rattle.decode80.specs.Facts.{storing}
use Rattle.image80.specs.Regions.{Areas, in_data}
use Rattle.verify80.specs.Looking.{is_pchl}
use Rattle.verify80_spans.specs.declared.span.Span.{Span}
use Rattle.verify80_states.specs.declared.states.known.Known.{Known}
use Rattle.verify80_spans.specs.Span.{Within, hull}
use Rattle.verify80_states.specs.Following.{index_words}

-- where an instruction may store by a pair, if it does
abbrev pub span_through : Storing → Known → Option Span
span_through ThroughHl s = Some s.hl.words
span_through (Through pair) s = Some (index_words s pair)
span_through Nowhere s = None
span_through (Byte _) s = None
span_through (Word _) s = None

abbrev pub pointer_span : Instr → Known → Option Span
pointer_span instr s = span_through (storing instr) s

-- it stores to data, and jumps to a declared target
pub record StaysIn (regions : Areas) (targets : List ℕ) (instr : Instr) (s : Known) : Type 0 where
  pub stores : (span : Span) → pointer_span instr s ≡ Some span → (address : ℕ) → Within span address → in_data regions address ≡ true
  pub jumps : is_pchl instr ≡ true → (to : ℕ) → Within s.hl.words to → Contains targets to

-- it may store to what is no data
pub record MayLeave (regions : Areas) (instr : Instr) (s : Known) : Type 0 where
  pub span : Span
  pub is : pointer_span instr s ≡ Some span
  pub outside : ℕ
  pub within : Within span outside
  pub no_data : in_data regions outside ≡ false

abbrev pub IsLeftOpen : Areas → Instr → Known → Type 0
IsLeftOpen regions instr s = MayLeave regions instr s ⊎ (is_pchl instr ≡ true)

-- the same of what is reached, if something is
abbrev pub span_in : Option Fetched → Known → Option Span
span_in None s = None
span_in (Some found) s = pointer_span found.instr s

-- the words of two spans, as far as there are such
abbrev pub joined : (old new : Option Span) → Option Span
joined old None = old
joined None (Some new) = Some new
joined (Some old) (Some new) = Some (hull old new)
