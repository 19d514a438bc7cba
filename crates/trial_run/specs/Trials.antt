-- What the command answers that makes a problem, lists its worlds with a certificate, and checks that certificate.
use Rattle.std.specs.Prelude.{◌≡◌, ℕ, not, Bool, false, List, [], ◌∷◌, ◌++◌, length, count_by, None, codes, decimal}
use Rattle.std.specs.List.{list_any, range_with_len}
use Rattle.outer_store.specs.Contents.{Contents}
use Rattle.rcc5_core.specs.declared.Rel.{Rel}
use Rattle.rcc5_core.specs.Relation.{same_rel}
use Rattle.world_model.specs.Problem.{Problem, concept_count, pair_count, cross_pairs}
use Rattle.world_model.specs.Listing.{IsListing, rel_at}
use Rattle.trial_run.specs.Made.{made}
use Rattle.world_model.specs.Saturated.{count_of}
use Rattle.run_ends.specs.declared.Status.{Status}
use Rattle.run_ends.specs.declared.Status.TheVariants.{Done}
use Rattle.run_ends.specs.Ends.{line_of}
use Rattle.command_line.specs.Requests.{Names}
use Rattle.run_ends.specs.Runs.{File}

-- whether some world has another relation at a place than the first world
abbrev pub is_varied : List (List Rel) → ℕ → Bool
is_varied [] k = false
is_varied (first ∷ worlds) k = list_any (λ world. not (same_rel (rel_at world k) (rel_at first k))) worlds

-- how many pairs across taxonomies have not the same relation in all worlds
abbrev pub varied_count : Problem → List (List Rel) → ℕ
varied_count p worlds = count_by (is_varied worlds) (range_with_len 0 (length (cross_pairs p)))

-- a word and a count
abbrev pub count_line : List ℕ → ℕ → List ℕ
count_line word count = line_of (word ++ 32 ∷ decimal count)

-- the lines of a problem itself
abbrev pub problem_lines : Problem → List ℕ
problem_lines p =
    count_line (codes "concepts") (concept_count p) ++
    (count_line (codes "articulations") (length p.articulations) ++ count_line (codes "pairs") (pair_count p))

-- the lines of its worlds: how many were listed, and those that its certificate was accepted with
abbrev pub world_lines : Problem → ℕ → List (List Rel) → List ℕ
world_lines p found worlds =
    count_line (codes "worlds") found ++
    (count_line (codes "varied") (varied_count p worlds) ++ count_line (codes "accepted") (count_of worlds))

-- the summary of a trial
abbrev pub summary : ℕ → ℕ → Problem → ℕ → List (List Rel) → List ℕ
summary seed size p found worlds = line_of (codes "trial " ++ (decimal seed ++ 32 ∷ decimal size)) ++ (problem_lines p ++ world_lines p found worlds)

-- it says the same worlds twice: all possible ones
pub record IsSummary (seed size : ℕ) (text : List ℕ) : Type 0 where
  pub worlds : List (List Rel)
  pub exactly : IsListing (made seed size) [] None worlds
  pub is : text ≡ summary seed size (made seed size) (count_of worlds) worlds

-- the answers to a trial
pub record IsTrialAnswer (seed size : ℕ) (held : Contents) (status : Status) (text : List ℕ) (files : List File) : Type 0 where
  pub ended : status ≡ Done
  pub put : IsSummary seed size text
  pub none_written : files ≡ []

-- it reads and writes no names
abbrev pub trial_names : Names
trial_names = record { read = []; written = [] }
