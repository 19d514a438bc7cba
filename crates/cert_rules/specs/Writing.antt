-- What keeps a listing valid while it is written.
use Rattle.std.specs.Prelude.{◌≡◌, ℕ, ◌<◌, ◌≤◌, List, [], ◌∷◌, ◌++◌, length, map, Option, Some, IfSome, MatchOption, Contains, IsTrue}
use Rattle.std.specs.List.{list_all}
use Rattle.rcc5_core.specs.declared.Rel.{Rel}
use Rattle.rcc5_core.specs.RelationSet.{is_empty_set}
use Rattle.lits_core.specs.declared.Line.{Line}
use Rattle.lits_core.specs.Derivation.{State, first_state, live_clause, state_after, is_valid_derivation, SameState}
use Rattle.world_model.specs.Problem.{Problem, pair_count}
use Rattle.world_model.specs.Family.{Family, meets, table_of}
use Rattle.world_model.specs.Alive.{Need, allowed, needs, problem_at, IsAlive}
use Rattle.world_model.specs.Node.{pair_at}
use Rattle.point_encode.specs.Model.Clauses.{given_clauses}
use Rattle.point_encode.specs.Model.Forced.{need_with, IsClosedAt}
use Rattle.set_family.specs.Sets.{is_set_below}
use Rattle.cert_text.specs.declared.line.CertLine.{CertLine}
use Rattle.cert_text.specs.declared.line.CertLine.TheVariants.{Certificate, Proof, Branch, NoPoint, NoRelation, World, End}
use Rattle.cert_text.specs.Logs.{with_line}
use Rattle.cert_rules.specs.Trees.{names, is_branch}
use Rattle.cert_rules.specs.Listings.{Going, Ended, Stand, steps, listing_tree, listing_next, start, listing_status}
use Rattle.cert_rules.specs.ShownNodes.{AllBranchesAlive}

-- the lines of a listing after its first lead to where this position is expected, and the lines that wait lead on from there to
-- a state with these clauses; each branch stands at an alive node
pub record KeepsUp (p : Problem) (from : List Rel) (lines : List CertLine) (waiting : List Line) (state : State) (at : Option (List Rel)) : Type 0 where
  pub number : ℕ
  pub stand : Stand
  pub reached : steps (listing_tree p from) (Going 1 (start p)) lines ≡ Going number stand
  pub expects : stand.at ≡ at
  pub valid : IsTrue (is_valid_derivation stand.proof waiting)
  pub same : SameState (state_after stand.proof waiting) state
  pub alive : AllBranchesAlive (listing_tree p from) (Going 1 (start p)) lines

-- lines begin with the first one of a listing, and the others keep up
pub record BeginsAndKeepsUp (p : Problem) (from : List Rel) (waiting : List Line) (state : State) (at : Option (List Rel)) (told : List CertLine) : Type 0 where
  pub lines : List CertLine
  pub begins : told ≡ Certificate p.switches from ∷ lines
  pub keeps_up : KeepsUp p from lines waiting state at

-- so they do where a log tells its lines
abbrev pub ToldKeepsUp : Problem → List Rel → Option (List CertLine) → List Line → State → Option (List Rel) → Type 0
ToldKeepsUp p from told waiting state at = IfSome told (BeginsAndKeepsUp p from waiting state at)

-- a need by number is among those of a node, and a live clause leaves it no point
pub record IsClosedNeed (p : Problem) (state : State) (m : List Rel) (number clause : ℕ) : Type 0 where
  pub need : Need
  pub named : need_with p number ≡ Some need
  pub among : Contains (needs (problem_at p m)) need
  pub closed : MatchOption (live_clause state clause) ⊥ (IsClosedAt p m need)

-- a family is one, meets the problem and has a node as its table
pub record IsWorldBy (p : Problem) (m : List Rel) (f : Family) : Type 0 where
  pub sets : IsTrue (list_all (is_set_below f.universe) f.sets)
  pub met : IsTrue (meets p f)
  pub table : table_of p f ≡ m

-- a line of a tree says what is so of a node
abbrev pub IsSoAt : Problem → State → List Rel → CertLine → Type 0
IsSoAt p state m (Branch depth last) = IsAlive (problem_at p m) × (length m < pair_count p)
IsSoAt p state m (NoPoint depth last need clause) = IsClosedNeed p state m need clause
IsSoAt p state m (NoRelation depth last pair) = (pair < pair_count p) × IsTrue (is_empty_set (allowed (problem_at p m) (pair_at p pair)))
IsSoAt p state m (World depth last family) = IsWorldBy p m family
IsSoAt p state m line = ⊥

-- and it names the node
abbrev pub TellsOf : Problem → State → List Rel → CertLine → Type 0
TellsOf p state m line = IsTrue (names m line) × IsSoAt p state m line

-- lines with those that wait put behind them
abbrev pub with_waiting : List CertLine → List Line → List CertLine
with_waiting lines waiting = lines ++ map Proof waiting

-- what is written keeps up: from the first clauses, with further lines that wait, with these put, with a line put at the expected
-- node behind them, and then the next node is expected. The end is where the writer stands
pub record PutKeepsUp : Type 0 where
  pub begins : (p : Problem) (from : List Rel) (state : State) → SameState (first_state (given_clauses p)) state → KeepsUp p from [] [] state (Some [])
  pub goes : (p : Problem) (from : List Rel) (lines : List CertLine) (waiting added : List Line) (one other : State) (at : Option (List Rel)) →
      KeepsUp p from lines waiting one at → IsTrue (is_valid_derivation one added) → SameState (state_after one added) other → KeepsUp p from lines (waiting ++ added) other at
  pub flushed : (p : Problem) (from : List Rel) (lines : List CertLine) (waiting : List Line) (state : State) (at : Option (List Rel)) →
      KeepsUp p from lines waiting state at → KeepsUp p from (with_waiting lines waiting) [] state at
  pub put : (p : Problem) (from : List Rel) (lines : List CertLine) (waiting : List Line) (state : State) (m : List Rel) (line : CertLine) →
      KeepsUp p from lines waiting state (Some m) → TellsOf p state m line →
      KeepsUp p from (with_waiting lines waiting ++ line ∷ []) [] state (listing_next p from (is_branch line) m)
  pub ends : (p : Problem) (from : List Rel) (lines : List CertLine) (state : State) (at : Option (List Rel)) → length from ≤ pair_count p →
      KeepsUp p from lines [] state at →
      (worlds : List (List Rel)) × (listing_status p p.switches from (lines ++ End at ∷ []) ≡ Ended (record { to = at; worlds = worlds }))

-- lines that are a whole listing up to an end, and accepted
pub record IsAcceptedTo (p : Problem) (from : List Rel) (to : Option (List Rel)) (told : List CertLine) : Type 0 where
  pub lines : List CertLine
  pub begins : told ≡ Certificate p.switches from ∷ lines
  pub worlds : List (List Rel)
  pub accepted : listing_status p p.switches from lines ≡ Ended (record { to = to; worlds = worlds })

-- so what a log tells keeps up, line by line: with the first line alone, with further lines that wait, with the first of these put,
-- and with a line put at the expected node; and with an end where the writer stands it is accepted
pub record ToldStaysUp : Type 0 where
  pub begins : (p : Problem) (from : List Rel) (state : State) → SameState (first_state (given_clauses p)) state →
      ToldKeepsUp p from (Some (Certificate p.switches from ∷ [])) [] state (Some [])
  pub goes : (p : Problem) (from : List Rel) (told : Option (List CertLine)) (waiting added : List Line) (one other : State) (at : Option (List Rel)) →
      ToldKeepsUp p from told waiting one at → IsTrue (is_valid_derivation one added) → SameState (state_after one added) other →
      ToldKeepsUp p from told (waiting ++ added) other at
  pub flushed : (p : Problem) (from : List Rel) (told : Option (List CertLine)) (line : Line) (waiting : List Line) (state : State) (at : Option (List Rel)) →
      ToldKeepsUp p from told (line ∷ waiting) state at → ToldKeepsUp p from (with_line told (Proof line)) waiting state at
  pub put : (p : Problem) (from : List Rel) (told : Option (List CertLine)) (state : State) (m : List Rel) (line : CertLine) →
      ToldKeepsUp p from told [] state (Some m) → TellsOf p state m line →
      ToldKeepsUp p from (with_line told line) [] state (listing_next p from (is_branch line) m)
  pub ends : (p : Problem) (from : List Rel) (told : Option (List CertLine)) (state : State) (at : Option (List Rel)) → length from ≤ pair_count p →
      ToldKeepsUp p from told [] state at → IfSome (with_line told (End at)) (IsAcceptedTo p from at)
