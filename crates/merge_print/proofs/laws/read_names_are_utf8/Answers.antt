use Rattle.merge_print.proofs.NameLemmas.{names_utf8}
use Rattle.merge_print.proofs.laws.read_names_are_utf8.Goals as goal

pub returns : goal.returns
returns c = names_utf8
