use Rattle.std.proofs.Common.{◌≡◌, ℕ, ◌<◌, List, map, take, get_or, IsTrue}
use Rattle.rcc5_core.specs.Relation.{is_ascending}
use Rattle.search_log.proofs.families.raw_family.Given as goal

-- the sets so far are copied, and each is ascending
abbrev pub invariant-loop-concept : goal.invariant-loop-concept
invariant-loop-concept l = record {
  copies : map (λ v. v.items) l.lists.items ≡ take l.concept l.family.sets;
  ascend : (k : ℕ) (d : List ℕ) → k < l.concept → IsTrue (is_ascending (get_or l.family.sets k d));
}
