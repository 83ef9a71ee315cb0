use Rattle.std.proofs.lemmas.Result.{IfOk-weaker}
use Rattle.records.specs.Headers.{header_form}
use Rattle.records.proofs.HeaderLaws.{header_stands}
use Rattle.records.proofs.header.Header.write.Goals as goal

pub returns-clause-back : goal.returns-clause-back
unfolding header_form
returns-clause-back c = IfOk-weaker c.write.result _ _ (λ _ b. header_stands c.args.self.now b.0 b.1 b.2) c.write.ensures.back
