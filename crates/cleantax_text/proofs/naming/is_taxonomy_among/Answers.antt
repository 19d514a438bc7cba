use Rattle.std.proofs.Common.{◌∙◌, sym}
use Rattle.text_words.proofs.WordLemmas.{among_references}
use Rattle.cleantax_text.proofs.naming.is_taxonomy_among.Goals as goal

pub returns : goal.returns
returns c = c.has_taxonomy.ensures ∙ sym (among_references c.args.taxonomy.now c.args.references.now)
