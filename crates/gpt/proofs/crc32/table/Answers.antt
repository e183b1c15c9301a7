-- The test of the table's rule is computed here, over the code's own table.
use Rattle.error.specs.Answer.{if_eq}
use Rattle.crc.specs.Crc.{shift, shifts}
use Rattle.crc.proofs.Tables.{table_rule}
use Rattle.gpt.specs.Table.{ieee}
use Rattle.gpt.proofs.crc32.table.Goals as goal

pub returns : goal.returns
unfolding shift shifts if_eq
returns c = table_rule ieee _ tt tt
