use Rattle.cert_check.proofs.KnownLemmas.{met_with_one}
use Rattle.cert_check.proofs.claims.Claims.keep.Goals as goal

pub returns-clause-known : goal.returns-clause-known
returns-clause-known c = met_with_one c.args.self.now.problem c.args.self.now.known c.keep.new.self c.args.family c.requires.known c.requires.met c.keep.ensures
