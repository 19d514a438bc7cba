use Rattle.std.proofs.Common.{◌≡◌, true, sym, length, ap, ◌∙◌}
use Rattle.std.proofs.lemmas.Bool.{eqb-true}
use Rattle.cert_rules.specs.ClaimLists.{subject_tree}
use Rattle.cert_check.specs.Claiming.{IsBlock, block_of}
use Rattle.cert_check.proofs.BareLemmas.{if_ok, over_splits, tree_anew, block_anew}
use Rattle.cert_check.proofs.claims.Claims.for_line.Goals as goal

pub returns-clause-block : goal.returns-clause-block
returns-clause-block c =
    if_ok (λ new. new ≡ over_splits c.args.block) (IsBlock c.args.self.now.problem) c.over_splits.result
    (λ new same. block_anew c.args.self.now.problem c.args.block new c.requires (eqb-true (length c.args.block.walk.path) 0 (sym c.is_empty.ensures ∙ c.if-not-is_empty.false)) same)
    c.over_splits.ensures

pub returns-clause-same : goal.returns-clause-same
returns-clause-same c =
    if_ok (λ new. new ≡ over_splits c.args.block) (λ new. block_of new ≡ block_of c.args.block) c.over_splits.result (λ new same. ap block_of same) c.over_splits.ensures

pub returns-clause-whole : goal.returns-clause-whole
returns-clause-whole c =
    if_ok (λ new. new ≡ over_splits c.args.block) (λ new. c.args.branches ≡ true → new.walk.tree ≡ subject_tree c.args.self.now.problem new.subject) c.over_splits.result
    (λ new same branch. tree_anew c.args.self.now.problem c.args.block new c.requires same)
    c.over_splits.ensures
