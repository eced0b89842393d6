use Rattle.image80_file.proofs.ImageFileLemmas.{written_image, named_module_read}
use Rattle.image80_file.proofs.laws.written_image_is_spelled.Goals as goal

pub returns-clause-spelled : goal.returns-clause-spelled
returns-clause-spelled c = written_image c.written_file_is_spelled.ensures

pub returns-clause-named : goal.returns-clause-named
returns-clause-named c = named_module_read
