use Rattle.claims_run.proofs.PutLemmas.{possible_text}
use Rattle.claims_run.proofs.putting.text_of.Goals as goal

pub returns-in-Possible : goal.returns-in-Possible
returns-in-Possible c = possible_text c.mir_text.result (λ text. text.items) c.args.problem.now c.in-Possible.mir c.in-Possible.some c.args.answer.now c.in-Possible.is c.mir_text.ensures
