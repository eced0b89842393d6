use Rattle.decode80.proofs.CodeAlone.{reads_code_alone}
use Rattle.decode80.proofs.laws.fetch_reads_code_alone.Goals as goal

pub returns : goal.returns
returns c = reads_code_alone
