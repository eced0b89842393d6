use Rattle.plm80_console.specs.AnswerLaws.{err_from}
use Rattle.plm80_console.specs.Journal.OnlyBlames.{other}
use Rattle.plm80_objects.specs.Wrong.{HaveNoDumps}
use Rattle.plm80_objects.proofs.Names.{◌+◌}
use Rattle.plm80_objects.proofs.{DumpLemmas.dumps_read, DumpLemmas.refused_read, DumpLemmas.rom_path, ReadLemmas.blames_before, ReadLemmas.faults_before}
use Rattle.plm80_objects.proofs.absolute.read_dumps.Goals as goal

pub returns-in_err-file-clause-fault : goal.returns-in_err-file-clause-fault
returns-in_err-file-clause-fault g c =
    err_from c.from_residual.result
    (other (faults_before rom_path c.args.files.now c.loop-rom.rom-index c.loop-rom.invariant.read c.in_err-file.ensures.fault))

pub returns-in-Err-clause-fault : goal.returns-in-Err-clause-fault
returns-in-Err-clause-fault g c =
    let roms = c.args.files.now in
    let read = refused_read roms c.loop-rom.rom-index _ c.in_ok-file.file.bytes.items c.loop-rom-test.true c.loop-rom.invariant.read
    c.in_ok-file.ensures.read c.in-Err.fault.fault c.in-Err.ensures.fault.1 in
    blames_before rom_path roms (c.loop-rom.rom-index + 1) read (HaveNoDumps roms) read.have c.blame_rom_fault.ensures

pub loop-rom-preserved : goal.loop-rom-preserved
loop-rom-preserved g c = record {
  read =
      dumps_read c.args.files.now c.loop-rom.rom-index _ c.in_ok-file.file.bytes.items c.loop-rom-test.true c.loop-rom.invariant.read
      c.in_ok-file.ensures.read c.add_dump.new.dumps c.in-Ok.ensures.added c.in-Ok.ensures.covered c.in-Ok.ensures.whole c.in-Ok.ensures.apart;
  start = cc (c.loop-rom.invariant.start, c.has_byte-has_start.ensures, c.len.ensures, c.in-Ok.ensures.covered c.args.start);
}
