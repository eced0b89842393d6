-- What a path names for which there is no file.
use Rattle.plm80_host.specs.declared.same_file.{Place.Place, Place.TheVariants.File, Place.TheVariants.NewFile}

abbrev pub IsNewFile : Place → Type 0
IsNewFile (File node) = ⊥
IsNewFile (NewFile folder name) = Unit {0}
