use Rattle.std.proofs.Common.{◌∙◌}
use Rattle.omf_library.proofs.writing.library_of.Goals as goal

pub index_of-requires-clause-places : goal.index_of-requires-clause-places
index_of-requires-clause-places c = c.deref.ensures.value ∙ c.in_ok-bytes.ensures.places

pub index_of-requires-clause-bytes : goal.index_of-requires-clause-bytes
index_of-requires-clause-bytes c = c.deref-2.ensures.value ∙ c.in_ok-bytes.ensures.bytes

pub library_with-requires-clause-fits : goal.library_with-requires-clause-fits
library_with-requires-clause-fits c = c.in_ok-index.ensures.fits

pub library_with-requires-clause-bytes : goal.library_with-requires-clause-bytes
library_with-requires-clause-bytes c = c.deref-3.ensures.value ∙ c.in_ok-bytes.ensures.bytes

pub library_with-requires-clause-names : goal.library_with-requires-clause-names
library_with-requires-clause-names c = c.in_ok-index.ensures.names

pub library_with-requires-clause-locations : goal.library_with-requires-clause-locations
library_with-requires-clause-locations c = c.in_ok-index.ensures.locations

pub library_with-requires-clause-dictionary : goal.library_with-requires-clause-dictionary
library_with-requires-clause-dictionary c = c.in_ok-index.ensures.dictionary

pub returns-clause-written : goal.returns-clause-written
returns-clause-written c = c.in_ok-file.ensures

pub returns-clause-fits : goal.returns-clause-fits
returns-clause-fits c = c.in_ok-index.ensures.fits

pub returns-clause-read : goal.returns-clause-read
returns-clause-read c = c.in_ok-bytes.ensures.read
