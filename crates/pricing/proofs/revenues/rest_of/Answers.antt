use Rattle.std.proofs.Common.{rules}
use Rattle.pricing.proofs.revenues.rest_of.Goals as goal

pub returns : goal.returns
returns c = search rules
