use Rattle.std.proofs.Common.{◌≡◌, ◌-◌, ◌++◌, ◌∷◌, [], length, map, take, drop, sym, ap, ◌∙◌, arith}
use Rattle.std.proofs.lemmas.List.{map-append, take-append-drop, take_all, length-drop}
use Rattle.rcc5_core.specs.Relation.{letter_of}
use Rattle.listing_run.proofs.table_listing.rewrite.Goals as goal

pub returns : goal.returns
returns c =
    let table = c.args.table.now in
    let kept = c.args.kept in
    let rest = take (length table - kept) (drop kept table) in
    let whole : rest ≡ drop kept table = take_all (length table - kept) (drop kept table) (omega (arith, length-drop kept table)) in
    let letters : c.loop-rel.line.items ≡ map letter_of table =
    c.loop-rel.invariant ∙ ap (λ items. c.truncate.new.self.items ++ map letter_of items) (take_all c.loop-rel.rel-index rest (omega (arith, c.loop-rel-test.false)) ∙ whole)
    ∙ ap (λ line. line ++ map letter_of (drop kept table)) (c.truncate.ensures.items ∙ c.requires.same)
    ∙ sym (map-append letter_of (take kept table) (drop kept table)) ∙ ap (map letter_of) (take-append-drop kept table) in
    c.in_ok-push-2.ensures.items ∙ ap (λ line. line ++ 10 ∷ []) letters
