use Rattle.std.proofs.Common.{◌≡◌, Option, None, Some, cond, sym, ap, ◌∙◌}
use Rattle.cert_rules.specs.declared.RejectKind.{RejectKind}
use Rattle.cert_rules.specs.declared.RejectKind.TheVariants.{FamilyHasOtherTable}
use Rattle.cert_tree.specs.Families.{met_family}
use Rattle.cert_tree.proofs.FamilyLemmas.{world-some, world-none}
use Rattle.cert_tree.proofs.tree.Branching.world_fault.Goals as goal

pub returns-in_default : goal.returns-in_default
returns-in_default c =
    sym (world-none c.args.self.now c.args.path.now c.args.words (ap (λ tree. met_family tree.subject c.args.words) (sym c.self.view_is) ∙ sym c.met_family.ensures ∙ c.in_default.is))

pub returns-then-is_table : goal.returns-then-is_table
returns-then-is_table c =
    let met : met_family c.args.self.now.subject c.args.words ≡ Some c.in-Some.family =
    ap (λ tree. met_family tree.subject c.args.words) (sym c.self.view_is) ∙ sym c.met_family.ensures ∙ c.in-Some.is in
    sym (world-some c.args.self.now c.args.path.now c.args.words c.in-Some.family met
    ∙ ap (λ b. cond {A = Option RejectKind} b None (Some FamilyHasOtherTable)) (sym c.is_table.ensures ∙ c.if-is_table.true))

pub returns : goal.returns
returns c =
    let met : met_family c.args.self.now.subject c.args.words ≡ Some c.in-Some.family =
    ap (λ tree. met_family tree.subject c.args.words) (sym c.self.view_is) ∙ sym c.met_family.ensures ∙ c.in-Some.is in
    sym (world-some c.args.self.now c.args.path.now c.args.words c.in-Some.family met
    ∙ ap (λ b. cond {A = Option RejectKind} b None (Some FamilyHasOtherTable)) (sym c.is_table.ensures ∙ c.if-is_table.false))
