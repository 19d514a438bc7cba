use Rattle.std.proofs.Common.{◌≡◌, ℕ, List, [], ◌∷◌, ◌∙◌, true, false, IfOk, length, map, codes, get_or, ap, subst, arith}
use Rattle.std.specs.List.{list_all, sum_by}
use Rattle.std.proofs.lemmas.List.{length-map}
use Rattle.taxon_tree.specs.Trees.{Trees}
use Rattle.world_model.specs.Problem.{Problem}
use Rattle.world_model.specs.declared.Articulation.{Articulation}
use Rattle.constraint_set.specs.Build.{size_of, problem_of}
use Rattle.constraint_set.specs.Facts.{is_said, all_fit}
use Rattle.trial_run.specs.declared.blocks.Block.{Block}
use Rattle.trial_run.specs.Names.{trees}
use Rattle.trial_run.specs.Made.{articulations, all_on, problem_from}
use Rattle.trial_run.proofs.Fits.{made_fit, made_said, length-articulations}
use Rattle.trial_run.proofs.Members.{length-trees}
use Rattle.trial_run.proofs.making.problem_from.Goals as goal

-- what is said of the two forests is said of the taxonomies of the blocks
are_said : {said : List Articulation} {forests : List Trees} {one other : Trees} (blocks : List Block) (singles : ℕ) → said ≡ articulations one other blocks singles
    → forests ≡ trees false blocks singles ∷ trees true blocks singles ∷ [] → one ≡ get_or forests 0 one → other ≡ get_or forests 1 other
    → said ≡ articulations (trees false blocks singles) (trees true blocks singles) blocks singles
are_said {one = one} {other = other} blocks singles is forests_are first second =
    let one_is : one ≡ trees false blocks singles = first ∙ ap (λ (forests : List Trees). get_or forests 0 one) forests_are in
    let other_is : other ≡ trees true blocks singles = second ∙ ap (λ (forests : List Trees). get_or forests 1 other) forests_are in
    is ∙ ap (λ (t : Trees). articulations t other blocks singles) one_is ∙ ap (λ (t : Trees). articulations (trees false blocks singles) t blocks singles) other_is

said_are : (c : goal.In_ok-names) → c.in_ok-said.said.items ≡ articulations (trees false c.args.blocks.now c.args.singles) (trees true c.args.blocks.now c.args.singles) c.args.blocks.now c.args.singles
said_are c = are_said c.args.blocks.now c.args.singles c.in_ok-said.ensures c.in_ok-forests.ensures c.index.ensures c.index-2.ensures

pub new-requires-clause-fit : goal.new-requires-clause-fit
new-requires-clause-fit c =
    ap (λ (forests : List Trees). all_fit forests c.in_ok-said.said.items all_on) c.in_ok-forests.ensures
    ∙ ap (λ (list : List Articulation). all_fit (trees false c.args.blocks.now c.args.singles ∷ trees true c.args.blocks.now c.args.singles ∷ []) list all_on) (said_are c)
    ∙ made_fit c.args.blocks.now c.args.singles c.requires.small c.requires.few all_on

pub new-requires-clause-said : goal.new-requires-clause-said
new-requires-clause-said c = ap (list_all is_said) (said_are c) ∙ made_said c.args.blocks.now c.args.singles c.requires.small c.requires.few

pub new-requires-clause-few : goal.new-requires-clause-few
new-requires-clause-few c =
    omega (
      arith,
      ap length (said_are c),
      c.requires.small,
      c.requires.few,
      length-articulations (trees false c.args.blocks.now c.args.singles) (trees true c.args.blocks.now c.args.singles) c.args.blocks.now c.args.singles,
    )

pub new-requires-clause-concepts : goal.new-requires-clause-concepts
new-requires-clause-concepts c =
    omega (arith, ap (sum_by size_of) c.in_ok-forests.ensures, length-trees false c.args.blocks.now c.args.singles, length-trees true c.args.blocks.now c.args.singles, c.requires.small, c.requires.few)

pub new-requires-clause-named : goal.new-requires-clause-named
new-requires-clause-named c =
    omega (arith, ap length c.in_ok-names.ensures, length-map c.in_ok-names.names.items (λ name. name.items), ap length c.in_ok-forests.ensures)

pub new-requires-clause-two : goal.new-requires-clause-two
new-requires-clause-two c = omega (arith, ap length c.in_ok-forests.ensures)

pub new-requires-clause-eight : goal.new-requires-clause-eight
new-requires-clause-eight c = omega (arith, ap length c.in_ok-forests.ensures)

pub returns : goal.returns
returns c =
    let blocks = c.args.blocks.now in
    let singles = c.args.singles in
    let same : problem_of (map (λ name. name.items) c.in_ok-names.names.items) c.in_ok-forests.forests.items c.in_ok-said.said.items all_on ≡ problem_from blocks singles =
    ap (λ (ids : List (List ℕ)). problem_of ids c.in_ok-forests.forests.items c.in_ok-said.said.items all_on) c.in_ok-names.ensures
    ∙ ap (λ (forests : List Trees). problem_of (codes "1" ∷ codes "2" ∷ []) forests c.in_ok-said.said.items all_on) c.in_ok-forests.ensures
    ∙ ap (λ (list : List Articulation). problem_of (codes "1" ∷ codes "2" ∷ []) (trees false blocks singles ∷ trees true blocks singles ∷ []) list all_on) (are_said blocks singles c.in_ok-said.ensures c.in_ok-forests.ensures c.index.ensures c.index-2.ensures) in
    subst (λ (q : Problem). IfOk c.new.result (λ p. p ≡ q)) same c.new.ensures
