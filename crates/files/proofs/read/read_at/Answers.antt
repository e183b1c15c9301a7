use Rattle.std.proofs.Common.{rules}
use Rattle.files.proofs.FileLaws.{file_read}
use Rattle.files.proofs.read.read_at.Goals as goal

pub returns : goal.returns
returns c = search (rules, file_read)
