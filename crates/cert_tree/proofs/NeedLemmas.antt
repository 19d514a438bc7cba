-- What a node says of a variable and of a pair.
use Rattle.std.proofs.Common.{◌≡◌, ℕ, Bool, ◌+◌, ◌-◌, ◌*◌, ◌/◌, ◌%◌, ◌<◌, ◌≤◌, true, false, ◌&&◌, Some, None, ap, ◌∙◌, arith}
use Rattle.std.specs.Prelude.{if◌then◌else◌, nat_lt}
use Rattle.std.proofs.lemmas.Bool.{lt-ltb, le-ltb}
use Rattle.rcc5_core.specs.RelationSet.{is_empty_set}
use Rattle.world_model.specs.Problem.{Problem, concept_count, pair_count}
use Rattle.world_model.specs.Alive.{allowed}
use Rattle.world_model.specs.Node.{pair_at}
use Rattle.point_encode.specs.Model.Clauses.{first_sum_selector}
use Rattle.cert_rules.specs.declared.RejectKind.TheVariants.{PairNotEmpty}
use Rattle.cert_rules.specs.Trees.{pair_fault}
use Rattle.cert_rules.specs.Selected.{is_emptied, is_sum_kept, is_selected}

-- what a variable behind the concepts says, where these and the pairs are so many
abbrev by_kind : Problem → ℕ → Bool → Bool
by_kind q v before = if before then is_emptied q ((v - concept_count q) / 3) ((v - concept_count q) % 3) else is_sum_kept q (v - first_sum_selector q)

behind_concepts : (q : Problem) (v : ℕ) → concept_count q ≤ v → is_selected q v ≡ by_kind q v (nat_lt v (first_sum_selector q))
behind_concepts q v behind = ap (λ b. if b then false else by_kind q v (nat_lt v (first_sum_selector q))) (le-ltb v (concept_count q) behind)

pub selected_region : (q : Problem) (v n p : ℕ) → concept_count q ≡ n → pair_count q ≡ p → n ≤ v → v < n + 3 * p → is_selected q v ≡ is_emptied q ((v - n) / 3) ((v - n) % 3)
selected_region q v n p concepts pairs behind before =
    let first : first_sum_selector q ≡ n + 3 * p = ap (λ c. c + 3 * pair_count q) concepts ∙ ap (λ k. n + 3 * k) pairs in
    behind_concepts q v (omega (arith, behind, concepts)) ∙ ap (by_kind q v) (lt-ltb v (first_sum_selector q) (omega (arith, before, first)))
    ∙ ap (λ c. is_emptied q ((v - c) / 3) ((v - c) % 3)) concepts

pub selected_sum : (q : Problem) (v n p : ℕ) → concept_count q ≡ n → pair_count q ≡ p → n + 3 * p ≤ v → is_selected q v ≡ is_sum_kept q (v - (n + 3 * p))
selected_sum q v n p concepts pairs past =
    let first : first_sum_selector q ≡ n + 3 * p = ap (λ c. c + 3 * pair_count q) concepts ∙ ap (λ k. n + 3 * k) pairs in
    behind_concepts q v (omega (arith, past, concepts)) ∙ ap (by_kind q v) (le-ltb v (first_sum_selector q) (omega (arith, past, first)))
    ∙ ap (λ f. is_sum_kept q (v - f)) first

-- a pair that allows nothing, one that allows something, and a number that is no pair's
pub pair_nothing : (q : Problem) (pair : ℕ) → pair < pair_count q → is_empty_set (allowed q (pair_at q pair)) ≡ true → pair_fault q pair ≡ None
pair_nothing q pair within empty =
    ap (λ b. if b && is_empty_set (allowed q (pair_at q pair)) then None else Some PairNotEmpty) (lt-ltb pair (pair_count q) within) ∙ ap (λ b. if b then None else Some PairNotEmpty) empty

pub pair_something : (q : Problem) (pair : ℕ) → pair < pair_count q → is_empty_set (allowed q (pair_at q pair)) ≡ false → pair_fault q pair ≡ Some PairNotEmpty
pair_something q pair within empty =
    ap (λ b. if b && is_empty_set (allowed q (pair_at q pair)) then None else Some PairNotEmpty) (lt-ltb pair (pair_count q) within) ∙ ap (λ b. if b then None else Some PairNotEmpty) empty

pub pair_past : (q : Problem) (pair : ℕ) → pair_count q ≤ pair → pair_fault q pair ≡ Some PairNotEmpty
pair_past q pair past = ap (λ b. if b && is_empty_set (allowed q (pair_at q pair)) then None else Some PairNotEmpty) (le-ltb pair (pair_count q) past)
