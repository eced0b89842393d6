use Rattle.image80_file.proofs.ImageFileLemmas.{one_image, one_image_fault, never_both_image}
use Rattle.image80_file.proofs.laws.one_image_reading.Goals as goal

pub returns-clause-image : goal.returns-clause-image
returns-clause-image c = one_image c.one_file_reading.ensures.file

pub returns-clause-fault : goal.returns-clause-fault
returns-clause-fault c =
    one_image_fault c.one_file_reading.ensures.file c.one_file_reading.ensures.fault c.one_file_reading.ensures.never_both

pub returns-clause-never_both : goal.returns-clause-never_both
returns-clause-never_both c = never_both_image c.one_file_reading.ensures.file c.one_file_reading.ensures.never_both
