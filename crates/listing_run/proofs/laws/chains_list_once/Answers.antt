use Rattle.listing_run.proofs.ChainLemmas as lemma
use Rattle.listing_run.proofs.laws.chains_list_once.Goals as goal

pub returns : goal.returns
returns c = lemma.chains_list_once
