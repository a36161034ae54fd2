use Rattle.std.proofs.Common.{arith}
use Rattle.report.proofs.Opened.{few}
use Rattle.report.proofs.checking.check_short_file.Goals as goal

pub returns-clause-few : goal.returns-clause-few
returns-clause-few c = few c.args.file.now _ c.check_file.ensures (omega arith)
