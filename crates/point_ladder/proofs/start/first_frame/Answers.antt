use Rattle.std.proofs.Common.{ℕ, Bool, true, false, ◌≡◌, ◌+◌, sym, ap, ◌∙◌, subst, arith}
use Rattle.std.specs.Prelude.{nat_lt}
use Rattle.world_model.specs.Problem.{concept_count, pair_count}
use Rattle.world_model.specs.Trial.{points_by_trial}
use Rattle.bit_rows.specs.Rows.{bit_in, IsPushed}
use Rattle.point_ladder.specs.Ladders.{PairsMet, ConceptsMet}
use Rattle.point_frames.proofs.Joined.{if_ok, owing_first}
use Rattle.point_frames.proofs.Needs.{owing_more}
use Rattle.point_ladder.proofs.FirstFrame.{first_is_frame}
use Rattle.point_ladder.proofs.start.first_frame.Goals as goal

pub returns : goal.returns
returns c =
    let p = c.args.problem.now in
    let points = points_by_trial p in
    let one = c.push_copy.new.self in
    let two = c.in_ok-frame.frame.rows in
    let none = c.new-two.ensures.count in
    let first = c.in_ok-push_copy.ensures in
    let second : IsPushed one two (λ _. false) = subst (λ v. IsPushed one v (λ _. false)) (sym c.in_ok-frame.ensures) c.in_ok-push_empty.ensures in
    let counted : one.count ≡ 1 = first.count ∙ ap (λ n. n + 1) none in
    let made = c.add_nonempty.new.frame.rows in
    let pairs_met : (ℕ → Bool) → Type 0 = PairsMet p points (pair_count p) in
    let concepts_met : (ℕ → Bool) → Type 0 = λ some. p.switches.nonempty ≡ true → ConceptsMet points (concept_count p) some in
    let owed : (ℕ → Bool) → Type 0 = λ some. pairs_met some × concepts_met some in
    if_ok _ _ c.finish.result c.finish.ensures (λ next same.
    first_is_frame p two next (second.count ∙ ap (λ n. n + 1) counted)
    (second.width ∙ first.width ∙ c.new-two.ensures.width ∙ c.width-2.ensures ∙ c.requires.rows.width)
    (λ k. second.before 0 k (omega (arith, counted)) ∙ ap (λ n. bit_in one n k) (sym none) ∙ first.there k ∙ c.row.ensures.bits k ∙ c.in_ok-full.ensures.places k ∙ ap (nat_lt k) c.requires.count)
    (λ k. ap (λ n. bit_in two n k) (sym counted) ∙ second.there k)
    (owing_first two made next owed (owing_more two c.add_pairs.new.frame.rows made pairs_met concepts_met c.in_ok-add_pairs.ensures c.in_ok-add_nonempty.ensures) same))
