use Rattle.std.proofs.Common.{◌≡◌, ℕ, List, false, subst, ap, sym, ◌∙◌, arith}
use Rattle.std.specs.Prelude.{flat_map}
use Rattle.taxon_tree.specs.Trees.{Trees}
use Rattle.rcc5_core.specs.declared.Rel.TheVariants.{Equals}
use Rattle.rcc5_core.specs.declared.RelSet.{RelSet}
use Rattle.rcc5_core.specs.RelationSet.{only}
use Rattle.trial_run.specs.Names.{trees, single_name}
use Rattle.trial_run.specs.Made.{said_of, said_of_block}
use Rattle.trial_run.specs.Plans.{BothHave}
use Rattle.trial_run.proofs.Listed.{number_more}
use Rattle.trial_run.proofs.Members.{block_had, both_have_single}
use Rattle.trial_run.proofs.sayings.articulations.Goals as goal

pub say_of_block-requires : goal.say_of_block-requires
say_of_block-requires c =
    block_had c.args.blocks.now c.args.singles c.args.one.now c.args.other.now c.loop-block.block-index _ c.requires.small c.requires.few c.requires.one c.requires.other c.loop-block-test.true

pub say-requires : goal.say-requires
say-requires c =
    let blocks = c.args.blocks.now in
    let have = both_have_single blocks c.args.singles c.requires.small c.requires.few c.loop-number.number (omega arith) (omega arith) in
    let name : c.deref.result.now ≡ single_name c.loop-number.number = c.deref.ensures.value ∙ c.in_ok-name.ensures in
    subst (λ (name : List ℕ). BothHave c.args.one.now c.args.other.now name) (sym name)
    (subst (λ (one : Trees). BothHave one c.args.other.now (single_name c.loop-number.number)) (sym c.requires.one)
    (subst (λ (other : Trees). BothHave (trees false blocks c.args.singles) other (single_name c.loop-number.number)) (sym c.requires.other) have))

pub loop-number-preserved : goal.loop-number-preserved
loop-number-preserved c =
    let one = c.args.one.now in
    let other = c.args.other.now in
    let name : c.deref.result.now ≡ single_name c.loop-number.number = c.deref.ensures.value ∙ c.in_ok-name.ensures in
    number_more (λ number. said_of one other (single_name number) (only Equals)) (flat_map (said_of_block one other) c.args.blocks.now) _ _ c.loop-number.number _
    (omega arith) c.loop-number.invariant c.in_ok-say.ensures
    (ap (λ (name : List ℕ). said_of one other name c.equal.result) name ∙ ap (λ (set : RelSet). said_of one other (single_name c.loop-number.number) set) c.equal.ensures)
