use Rattle.std.proofs.Common.{◌++◌, ap, ◌∙◌}
use Rattle.constraint_set.specs.Facts.{IsBuilt}
use Rattle.run_ends.specs.Token.Printing.{words_behind}
use Rattle.run_ends.specs.Token.Token.{token_text, token_result}
use Rattle.run_ends.proofs.token.ReadingLemmas.{token_is}
use Rattle.run_ends.proofs.token.printing.Tokens.text.Goals as goal

pub returns-clause-text : goal.returns-clause-text
returns-clause-text c =
    let p = c.self.inside.problem.now in
    let q = c.args.position.now in
    let digest = c.as_bytes.ensures.value ∙ c.self.invariant in
    let behind = c.in_ok-put_words.ensures ∙ ap (λ d. c.in_ok-token.token.items ++ words_behind p d q) digest in
    token_is c.in_ok-token.token.items c.put_words.new.out.items p q c.in_ok-token.ensures.items behind ∙ ap (λ problem. token_text problem q) c.self.view_is

pub returns-clause-reads_back : goal.returns-clause-reads_back
returns-clause-reads_back c =
    let q = c.args.position.now in
    let built : IsBuilt c.args.self.now = rw (← c.self.view_is) c.facts.ensures.built in
    ap (token_result c.args.self.now) (returns-clause-text c) ∙ c.printing_reads_back.ensures c.args.self.now q built c.requires
