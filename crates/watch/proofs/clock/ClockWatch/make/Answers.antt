use Rattle.model.specs.Sheets.{entries_of, rate_of}
use Rattle.watch.proofs.Recalling.{recalls_none}
use Rattle.watch.proofs.clock.ClockWatch.make.Goals as goal

pub returns : goal.returns
returns c = λ xs x. recalls_none (entries_of c.args.sheet.now) (rate_of c.args.sheet.now) xs x
