use Rattle.std.proofs.Common.{◌∷◌, ◌∙◌, sym, None, Some}
use Rattle.std.proofs.lemmas.Bool.Decides.{Decides-eqb}
use Rattle.std.proofs.lemmas.Slice.Eq.{strip_prefix_is}
use Rattle.cleantax_text.proofs.DottedLemmas.{front_there, front_lacking}
use Rattle.cleantax_text.proofs.named.is_dotted.Goals as goal

pub returns-in-Some : goal.returns-in-Some
returns-in-Some c =
    c.is_dot_and.ensures
    ∙ sym (front_there c.args.id.now (46 ∷ c.args.name.now) c.args.word.now c.in-Some.rest.now
    (strip_prefix_is Decides-eqb c.args.word.now c.args.id.now (Some c.in-Some.rest) c.in-Some.ensures.cases))

pub returns-in-None : goal.returns-in-None
returns-in-None c =
    sym (front_lacking c.args.id.now (46 ∷ c.args.name.now) c.args.word.now
    (strip_prefix_is Decides-eqb c.args.word.now c.args.id.now None c.in-None.ensures.cases))
