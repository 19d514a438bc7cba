-- What must be true, literal by literal: a selector is judged by its variable, without the list of them all.
use Rattle.std.specs.Prelude.{◌≡◌, ℕ, ◌-◌, ◌/◌, ◌%◌, nat_lt, Bool, false, not, ◌&&◌, ◌||◌, if◌then◌else◌, List, [], length, slice_index_or}
use Rattle.std.specs.List.{list_all}
use Rattle.rcc5_core.specs.declared.Occupancy.TheVariants.{Empty}
use Rattle.rcc5_core.specs.Region.{word_at, same_word, forced_regions}
use Rattle.lits_core.specs.Literals.{variable_of, is_negative, negation_of}
use Rattle.lits_core.specs.Derivation.{has_lit}
use Rattle.world_model.specs.Problem.{Problem, concept_count}
use Rattle.world_model.specs.Alive.{Need, allowed}
use Rattle.world_model.specs.Node.{pair_at}
use Rattle.constraint_set.specs.Readers.{sum_places}
use Rattle.point_encode.specs.Model.Clauses.{first_sum_selector}
use Rattle.point_encode.specs.Model.Forced.{region_with, need_lits, asked_of}
use Rattle.cert_rules.specs.Trees.{is_closed}

-- whether a region of a pair, both by their numbers, is forced empty
abbrev pub is_emptied : Problem → ℕ → ℕ → Bool
is_emptied q pair part = same_word (word_at (forced_regions (allowed q (pair_at q pair))) (region_with part)) Empty

-- whether a sum, by its number among the sums, is kept
abbrev pub is_sum_kept : Problem → ℕ → Bool
is_sum_kept q sum = nat_lt sum (length (sum_places q)) && slice_index_or q.kept (slice_index_or (sum_places q) sum 0) false

-- whether a variable is a selector that is true
abbrev pub is_selected : Problem → ℕ → Bool
is_selected q v =
    if nat_lt v (concept_count q) then false
    else (if nat_lt v (first_sum_selector q) then is_emptied q ((v - concept_count q) / 3) ((v - concept_count q) % 3)
    else is_sum_kept q (v - first_sum_selector q))

-- whether a literal is one of those that must be true where a point is in the need
abbrev pub is_asked : Problem → Need → ℕ → Bool
is_asked q need lit = (not (is_negative lit) && is_selected q (variable_of lit)) || has_lit (need_lits need) lit

-- this is what the list of them says, and so closed clauses are told literal by literal
pub record AskedByLiteral : Type 0 where
  pub literal : (q : Problem) (need : Need) (lit : ℕ) → has_lit (asked_of q [] need) lit ≡ is_asked q need lit
  pub clause : (q : Problem) (need : Need) (clause : List ℕ) → is_closed q need clause ≡ list_all (λ lit. is_asked q need (negation_of lit)) clause
