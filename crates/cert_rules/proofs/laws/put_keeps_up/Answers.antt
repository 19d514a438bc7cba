use Rattle.cert_rules.proofs.Writing.{put_keeps_up_law}
use Rattle.cert_rules.proofs.laws.put_keeps_up.Goals as goal

pub returns : goal.returns
returns c = put_keeps_up_law
