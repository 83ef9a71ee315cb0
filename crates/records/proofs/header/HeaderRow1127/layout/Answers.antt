use Rattle.std.proofs.Common.{rules}
use Rattle.bits.proofs.Trips.{stands_same}
use Rattle.records.specs.Headers.{header_form}
use Rattle.records.specs.Laws.{header_lawful}
use Rattle.records.proofs.header.HeaderRow1127.layout.Goals as goal

pub returns : goal.returns
unfolding header_form
returns c = stands_same header_form header_lawful c.args.values.now _ (search rules)
