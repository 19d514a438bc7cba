use Rattle.std.proofs.Common.{◌∷◌, ◌+◌, ◌∙◌, sym, ap, drop}
use Rattle.proof_text.specs.Words.{words_left}
use Rattle.proof_text.proofs.WordLemmas.{words_left-some, words_left-none}
use Rattle.proof_text.proofs.words.Words.next_word.Goals as goal

pub returns-in-None : goal.returns-in-None
returns-in-None c =
    let text = c.self.inside.rest.now in
    let separator = c.self.inside.separator in
    sym c.self.view_is ∙ ap (λ ended. words_left separator ended text) c.if-self.false
    ∙ words_left-none separator text (sym c.place_of.ensures ∙ c.in-None.is)

pub returns-in-Some : goal.returns-in-Some
returns-in-Some c =
    let text = c.self.inside.rest.now in
    let separator = c.self.inside.separator in
    let place = c.in-Some.place in
    let start = sym c.self.view_is ∙ ap (λ ended. words_left separator ended text) c.if-self.false
    ∙ words_left-some separator text place (sym c.place_of.ensures ∙ c.in-Some.is) in
    start ∙ ap (λ word. word ∷ words_left separator _ (drop (place + 1) text)) (sym c.split_at.ensures.front)
    ∙ ap (λ ended. c.split_at.result.0.now ∷ words_left separator ended (drop (place + 1) text)) (sym c.if-self.false)
    ∙ ap (λ rest. c.split_at.result.0.now ∷ words_left separator c.self.inside.ended rest) (sym c.split_at-in-Some.ensures.back)
