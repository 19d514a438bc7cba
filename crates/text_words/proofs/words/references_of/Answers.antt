use Rattle.std.proofs.Common.{◌∙◌, sym}
use Rattle.text_words.proofs.WordLemmas.{references_step}
use Rattle.text_words.proofs.words.references_of.Goals as goal

pub loop-rest-preserved : goal.loop-rest-preserved
loop-rest-preserved c =
    c.loop-rest.invariant
    ∙ references_step c.loop-rest.references.items c.push.new.self.items c.in-Some.reference c.loop-rest.rest.now _ c.in-len1-up.len_at_least (sym c.in-Some.ensures) c.in_ok-push.ensures.items
