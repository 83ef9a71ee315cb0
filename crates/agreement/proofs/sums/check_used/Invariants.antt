use Rattle.agreement.proofs.Uses.{Used}
use Rattle.agreement.proofs.sums.check_used.Given as goal

abbrev pub invariant-loop-network_use : goal.invariant-loop-network_use
invariant-loop-network_use l = Used l.uses l.network_use-index l.used
