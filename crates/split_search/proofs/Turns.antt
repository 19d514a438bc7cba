-- What a search has told and answers, turn by turn.
use Rattle.std.proofs.Common.{◌≡◌, ◌<◌, ◌≤◌, ◌∙◌, List, [], length, Option, Some, None, Ok, ap, arith, subst}
use Rattle.rcc5_core.specs.declared.Rel.{Rel}
use Rattle.world_model.specs.Problem.{Problem}
use Rattle.world_model.specs.Family.{Family}
use Rattle.world_model.specs.Questions.{IsMet}
use Rattle.constraint_set.specs.Facts.{IsBuilt}
use Rattle.cert_rules.specs.ClaimLists.{split_pairs}
use Rattle.point_query.specs.Asking.{AskerState, AskerGoes}
use Rattle.cert_text.specs.Logs.{Told}
use Rattle.search_log.specs.Logging.{AddsLines}
use Rattle.split_search.specs.declared.choice.Choice.TheVariants.{Met}
use Rattle.split_search.specs.declared.visit.VisitEnd.TheVariants as turn
use Rattle.split_search.specs.declared.walk.NodePath.{NodePath}
use Rattle.split_search.specs.Walking.{IsWalk, IsTurn, KeepsTree}
use Rattle.split_search.proofs.Leftover.{left, falls}
use Rattle.split_search.proofs.Nodes.{pairs_counted}
use Rattle.split_search.proofs.Told.{keeps_joins, keeps_after}
use Rattle.split_search.proofs.Whole.{NoTables, no_tables_past, no_tables_end, past_after}
use Rattle.split_search.proofs.Within.{KeepsChoice}

-- what is told from the root on, an asker that went on, and then a turn
pub over_turn : (q s : Problem) (a b c : Told) (one two three four : AskerState) (m : List Rel) (next : Option (List Rel)) → s ≡ q → AddsLines a b → KeepsTree q a b one two (Some []) (Some m) →
    AskerGoes two three → KeepsTree s b c three four (Some m) next → KeepsTree q a c one four (Some []) next
over_turn q s a b c one two three four m next same adds first goes second =
    keeps_joins q a b c one two four (Some []) (Some m) next adds first
    (keeps_after q b c two three four (Some m) next goes (subst (λ q. KeepsTree q b c three four (Some m) next) same second))

-- the answers of a search
pub met_choice : (f : Family) (q : Problem) (old new : Told) (one other : AskerState) (at : Option (List Rel)) → KeepsTree q old new one other (Some []) at →
    KeepsChoice q (Ok (Met f)) old new one other
met_choice f q old new one other at k = λ p subject claims e. (at, k p subject claims e)

-- after the last turn none meets the problem
pub none_meets : (q s : Problem) (m new : List Rel) → IsBuilt q → s ≡ q → NoTables q (Some m) → IsTurn s m new turn.Done → IsMet q → ⊥
none_meets q s m new built same none past =
    no_tables_end q (no_tables_past q m None built (subst (λ q. IsTurn q m new turn.Done) same past) none)

-- the node after a turn
pub none_before : (q s : Problem) (m new : List Rel) → IsBuilt q → s ≡ q → NoTables q (Some m) → IsTurn s m new turn.On → NoTables q (Some new)
none_before q s m new built same none past = no_tables_past q m (Some new) built (subst (λ q. IsTurn q m new turn.On) same past) none

-- a walk whose node is within the split pairs of a problem
within_pairs : (q : Problem) (w : NodePath) → IsWalk w → w.subject ≡ q → length w.path ≤ length (split_pairs q)
within_pairs q w walk same =
    let counted = pairs_counted w.subject w.pairs.items walk.pairs in
    let all : length (split_pairs w.subject) ≡ length (split_pairs q) = ap (λ q. length (split_pairs q)) same in
    let short = walk.short in
    omega (arith, counted, all, short)

-- fewer positions are left after a turn
pub falls_on : (q : Problem) (w v : NodePath) → IsWalk w → IsWalk v → w.subject ≡ q → v.subject ≡ w.subject → IsTurn w.subject w.path v.path turn.On →
    left (length (split_pairs q)) v.path < left (length (split_pairs q)) w.path
falls_on q w v one other same later past =
    falls (length (split_pairs q)) w.path v.path (within_pairs q w one same) (within_pairs q v other (later ∙ same)) (past_after w.subject w.path v.path past)
