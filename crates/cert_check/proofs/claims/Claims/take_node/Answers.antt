use Rattle.std.proofs.Common.{◌≡◌, ◌∙◌, ◌+◌, true, None, Some, sym, ap, subst}
use Rattle.cert_rules.specs.Trees.{is_branch, sets_of, tree_fault, tree_next}
use Rattle.cert_rules.specs.Order.{onward}
use Rattle.cert_rules.specs.Listings.{Going, Rejected}
use Rattle.cert_rules.specs.ClaimLists.{claim_role, subject_tree, take_inside}
use Rattle.cert_tree.specs.Walks.{at_of}
use Rattle.cert_check.specs.Claiming.{block_of, with_block}
use Rattle.cert_check.proofs.BareLemmas.{right_fault, right_next, node_rejected, node_taken}
use Rattle.cert_check.proofs.claims.Claims.take_node.Goals as goal

pub returns-in-Some-clause-step : goal.returns-in-Some-clause-step
returns-in-Some-clause-step c n =
    let claims = c.args.self.now in
    let new = c.in_ok-block.block in
    let fault : tree_fault (subject_tree claims.problem new.subject) c.args.book.now (at_of new.walk) c.args.line ≡ Some c.in-Some.kind =
    right_fault claims.problem new c.args.book.now c.args.line c.in_ok-block.ensures.block c.requires.node (λ branch. c.in_ok-block.ensures.whole (c.is_branch-branches.ensures ∙ branch))
    ∙ sym c.tree_fault.ensures ∙ c.in-Some.is in
    subst (λ block. take_inside claims.problem n (record { proof = c.args.book.now; block = Some block; claims = claims.claims.items }) block c.args.line (claim_role c.args.line) ≡ Rejected (n + 1) c.in-Some.kind)
    c.in_ok-block.ensures.same
    (node_rejected claims.problem n (with_block c.args.book.now claims new) (block_of new) c.args.line c.in-Some.kind c.requires.node fault)

pub returns-clause-step : goal.returns-clause-step
returns-clause-step c n =
    let claims = c.args.self.now in
    let new = c.in_ok-block.block in
    let whole : is_branch c.args.line ≡ true → new.walk.tree ≡ subject_tree claims.problem new.subject =
    λ branch. c.in_ok-block.ensures.whole (c.is_branch-branches.ensures ∙ branch) in
    let fault : tree_fault (subject_tree claims.problem new.subject) c.args.book.now (at_of new.walk) c.args.line ≡ None =
    right_fault claims.problem new c.args.book.now c.args.line c.in_ok-block.ensures.block c.requires.node whole
    ∙ sym c.tree_fault.ensures ∙ c.in_default.is in
    let next : tree_next (subject_tree claims.problem new.subject) (at_of new.walk) c.args.line ≡ at_of c.advance.new.self =
    right_next claims.problem new c.args.book.now c.args.line c.in_ok-block.ensures.block whole fault
    ∙ ap (λ b. onward (sets_of new.walk.tree) new.walk.tree.from b new.walk.path) (sym c.is_branch-branches.ensures)
    ∙ sym c.in_ok-advance.ensures.at in
    subst (λ block. take_inside claims.problem n (record { proof = c.args.book.now; block = Some block; claims = claims.claims.items }) block c.args.line (claim_role c.args.line)
    ≡ Going (n + 1) (record { proof = c.args.book.now; block = Some (record { subject = new.subject; at = at_of c.advance.new.self }); claims = claims.claims.items }))
    c.in_ok-block.ensures.same
    (node_taken claims.problem n (with_block c.args.book.now claims new) (block_of new) c.args.line (at_of c.advance.new.self) c.requires.node fault next)
