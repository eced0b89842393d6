-- The instructions that store where a register pair points to (Intel 8080 Microcomputer Systems User's Manual, chapter 4: MOV M,r,
-- MVI M, INR M and DCR M by HL, STAX by BC or DE).
use Rattle.std.specs.Prelude.{Bool, true, false}
use Rattle.decode80.specs.declared.{instr.Instr.Instr, storing.Storing.Storing}
use Rattle.decode80.specs.declared.storing.Storing.TheVariants.{Nowhere, Byte, Word, ThroughHl, Through}
use Rattle.decode80.specs.Facts.{storing}

abbrev pub is_through_pair : Storing → Bool
is_through_pair ThroughHl = true
is_through_pair (Through pair) = true
is_through_pair Nowhere = false
is_through_pair (Byte _) = false
is_through_pair (Word _) = false

-- whether an instruction is a register-indirect store
abbrev pub stores_by_pair : Instr → Bool
stores_by_pair instr = is_through_pair (storing instr)
