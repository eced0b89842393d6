-- The names of definitions, and of lemmas of std, that the proofs of this crate cite.
pub use Rattle.image80.specs.{Image.PlacedBytes, declared.range.Range.Range}
pub use Rattle.image80_file.specs.ImageFile.{SpellsImage, without_regions}
pub use Rattle.omf_model.specs.Modules.{ModuleValue}
pub use Rattle.omf_module.specs.Spelled.{SpellsFile}
pub use Rattle.omf_text.specs.ModuleText.{module_text}
pub use Rattle.plm80_console.specs.Answer.{AnswerValue, GaveUp, Gives, GivesUp, IsGiven, IsGivenUp}
pub use Rattle.plm80_console.specs.Journal.{FileValue, Journal, OnlyReports, and_read, and_read_files, and_reported, file_value, paths_of}
pub use Rattle.plm80_files.specs.declared.link_feed.LinkFile.{LinkFile}
pub use Rattle.plm80_names.specs.Printed.{AreNamesOf}
pub use Rattle.plm80_objects.specs.Absolute.{AreRomFiles, ExtractsFile, IsRomFile, WritesDumps, WritesImage, chunks_from}
pub use Rattle.plm80_objects.specs.RomFaults.{AreDumpsRead, rom_paths}
pub use Rattle.plm80_objects.specs.Find.{AreFilesRead, AreLinkFiles, FindsModules, PrintsFile, PrintsFiles, PrintsFound}
pub use Rattle.plm80_objects.specs.Link.{AreLinkFilesOf, AreLinkFilesRead, LinksFiles, LinksInto, named_line, root_paths}
pub use Rattle.plm80_objects.specs.Link.{taken_line}
pub use Rattle.plm80_objects.specs.Modules.{AnswersModules, AreAllRead, AreModulesOf, DescribesModules, LocatesFile, MapsFile, OfProgram}
pub use Rattle.plm80_objects.specs.Modules.{PrintsMap, WritesLocated}
pub use Rattle.plm80_objects.specs.{Compare.ComparesFiles, Read.AreRead, declared.absolute.RomFile.RomFile}
pub use Rattle.rom80.specs.Rom.{chunks_of, is_covered}
pub use Rattle.rom80_find.specs.Dump.{DumpValue, dump_of}
pub use Rattle.std.proofs.Common.{[], add-one, ap, append_assoc, arith, drop, drop-cons, get_or, map, refl, subst, sym, take, ◌++◌, ◌∙◌}
pub use Rattle.std.proofs.Common.{◌∷◌, ◌≡◌}
pub use Rattle.std.proofs.Math.ListN.{replicate}
pub use Rattle.std.proofs.lemmas.List.{append-nil, map-append, map_more, take-append-drop, take_all, take_more}
pub use Rattle.std.proofs.lemmas.{Bool.cond-true, Result.IfErr-weaker, Result.IfOk-weaker, Slice.Zip.all_zipped_more}
pub use Rattle.std.specs.Prelude.{Bool, Err, IfErr, IfOk, IsOkAnd, List, Ok, Result, codes, is_ok, length, not}
pub use Rattle.std.specs.Prelude.{slice_index_or, suc, true, zero, ℕ, ◌&&◌, ◌+◌, ◌-◌, ◌<◌}
pub use Rattle.std.specs.{Borrow.Bor, List.flat_map, List.repeat}
