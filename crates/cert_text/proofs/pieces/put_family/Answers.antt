use Rattle.std.proofs.Common.{◌<◌, ◌^◌, All, arith, subst}
use Rattle.std.proofs.lemmas.List.Elements.{All-map}
use Rattle.std.proofs.lemmas.Result.{on_ok_weaker}
use Rattle.cert_text.proofs.pieces.put_family.Goals as goal

pub returns-clause-small : goal.returns-clause-small
returns-clause-small c =
    on_ok_weaker c.put_sets.result
    (λ small. (omega arith, subst (All (λ set. All (λ x. x < 2 ^ 32) set)) c.lists.ensures (All-map (λ set. All (λ x. x < 2 ^ 32) set) (λ v. v.items) c.lists.result.now small)))
    c.put_sets.ensures.small
