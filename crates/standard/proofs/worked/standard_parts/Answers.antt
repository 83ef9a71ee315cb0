use Rattle.standard.specs.Parting.{unreduced-parts}
use Rattle.standard.proofs.worked.standard_parts.Goals as goal

pub returns : goal.returns
returns c = λ d pool. unreduced-parts d.elements pool
