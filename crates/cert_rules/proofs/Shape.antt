-- The lines that lead from the root to an end are those of a tree.
use Rattle.std.proofs.Common.{◌≡◌, ◌+◌, Bool, true, false, ◌&&◌, List, [], ◌∷◌, ◌++◌, length, ◌⊎◌, Option, Some, None, inl, inr, refl, sym, ap, ◌∙◌, subst, arith, append_assoc, append-nil}
use Rattle.std.proofs.lemmas.Bool.{true≢false, and_parts, eq-eqb}
use Rattle.std.proofs.lemmas.List.{length-map, length-append}
use Rattle.rcc5_core.specs.declared.Rel.{Rel}
use Rattle.rcc5_core.specs.declared.Rel.TheVariants.{Equals, Includes, IncludedIn, Overlaps, Disjoint}
use Rattle.rcc5_core.specs.declared.RelSet.{RelSet}
use Rattle.rcc5_core.specs.Relation.{same_rel}
use Rattle.rcc5_core.specs.RelationSet.{next_of}
use Rattle.world_model.proofs.Relations.{one_rel}
use Rattle.cert_rules.specs.Order.{least_from, from_below, single, or_later, onward}
use Rattle.cert_rules.specs.Trees.{Branching, sets_of, is_branch, tree_fault, tree_next}
use Rattle.cert_rules.specs.FromTheEnd.{found_or}
use Rattle.cert_rules.specs.Shape.{Placed, IsLeafAt, IsBranchAt, InTurn, shown_rels, IsTreeAt, InTurnUpTo, IsTreeBefore, IsTreeUpTo}
use Rattle.cert_rules.proofs.FromTheEnd.{root_ends}
use Rattle.cert_rules.proofs.Refuting.{tree_parts, branch_is_short}

-- where lines at the expected nodes lead
abbrev pub Leads : Branching → Option (List Rel) → List Placed → Option (List Rel) → Type 0
Leads tree at [] to = at ≡ to
Leads tree at (placed ∷ lines) to = (tree_fault tree placed.proof at placed.line ≡ None) × Leads tree (tree_next tree at placed.line) lines to

-- relations one after another, each the next one of the set after the one before it
abbrev Chain : RelSet → Option Rel → List Rel → Type 0
Chain set next [] = next ≡ None
Chain set next (rel ∷ rels) = (next ≡ Some rel) × Chain set (next_of set rel) rels

-- so are the shown relations, from the least one on: by trying each set
abbrev is_chain : RelSet → Option Rel → List Rel → Bool
is_chain set None [] = true
is_chain set (Some s) [] = false
is_chain set None (rel ∷ rels) = false
is_chain set (Some s) (rel ∷ rels) = same_rel s rel && is_chain set (next_of set rel) rels

chain : (set : RelSet) (next : Option Rel) (rels : List Rel) → is_chain set next rels ≡ true → Chain set next rels
chain set None [] h = refl
chain set (Some s) [] h = absurd (true≢false (sym h))
chain set None (rel ∷ rels) h = absurd (true≢false (sym h))
chain set (Some s) (rel ∷ rels) h =
    let parts = and_parts (same_rel s rel) (is_chain set (next_of set rel) rels) h in
    let same = one_rel s rel parts.0 in
    (ap (λ r. Some r) same, chain set (next_of set rel) rels parts.1)

abbrev both : (test : Bool → Bool) → Bool
both test = test true && test false

both_at : (test : Bool → Bool) → both test ≡ true → (b : Bool) → test b ≡ true
both_at test h true = (and_parts (test true) (test false) h).0
both_at test h false = (and_parts (test true) (test false) h).1

abbrev chained : List Rel → Bool → Bool → Bool → Bool → Bool → Bool
chained from a b c d e =
    let set : RelSet = record { equals = a; includes = b; included_in = c; overlaps = d; disjoint = e } in is_chain set (least_from set from) (shown_rels set from)

abbrev all_chained : List Rel → Bool
all_chained from = both (λ a. both (λ b. both (λ c. both (λ d. both (λ e. chained from a b c d e)))))

every_chained : (from : List Rel) → all_chained from ≡ true → (set : RelSet) → is_chain set (least_from set from) (shown_rels set from) ≡ true
every_chained from h set =
    let one = both_at (λ a. both (λ b. both (λ c. both (λ d. both (λ e. chained from a b c d e))))) h set.equals in
    let two = both_at (λ b. both (λ c. both (λ d. both (λ e. chained from set.equals b c d e)))) one set.includes in
    let three = both_at (λ c. both (λ d. both (λ e. chained from set.equals set.includes c d e))) two set.included_in in
    let four = both_at (λ d. both (λ e. chained from set.equals set.includes set.included_in d e)) three set.overlaps in
    both_at (λ e. chained from set.equals set.includes set.included_in set.overlaps e) four set.disjoint

from_all : (from : List Rel) → all_chained from ≡ true
from_all [] = refl
from_all (Equals ∷ []) = refl
from_all (Includes ∷ []) = refl
from_all (IncludedIn ∷ []) = refl
from_all (Overlaps ∷ []) = refl
from_all (Disjoint ∷ []) = refl
from_all (Equals ∷ g ∷ from) = refl
from_all (Includes ∷ g ∷ from) = refl
from_all (IncludedIn ∷ g ∷ from) = refl
from_all (Overlaps ∷ g ∷ from) = refl
from_all (Disjoint ∷ g ∷ from) = refl

shown_chain : (set : RelSet) (from : List Rel) → Chain set (least_from set from) (shown_rels set from)
shown_chain set from = chain set (least_from set from) (shown_rels set from) (every_chained from (from_all from) set)

-- what comes behind all that lies below a node
abbrev past : Branching → List Rel → Option (List Rel)
past tree m = onward (sets_of tree) tree.from false m

-- a position behind a node, or else another
abbrev behind_or : List Rel → Option (List Rel) → Option (List Rel) → Option (List Rel)
behind_or m None other = other
behind_or m (Some k) other = Some (m ++ k)

-- the sets of the pairs from a node on, and what of the start lies below it
record Within (tree : Branching) (sets : List RelSet) (from m : List Rel) : Type 0 where
  deep : length m + length sets ≡ length tree.levels
  on : (branches : Bool) (k : List Rel) → onward (sets_of tree) tree.from branches (m ++ k) ≡ behind_or m (onward sets from branches k) (past tree m)

root_within : (tree : Branching) → Within tree (sets_of tree) tree.from []
root_within tree = record { deep = long; on = λ branches k. by (onward (sets_of tree) tree.from branches k) }
  where
    long : length {A = Rel} [] + length (sets_of tree) ≡ length tree.levels
    long = let same : length (sets_of tree) ≡ length tree.levels = length-map tree.levels _ in omega arith

    by : (found : Option (List Rel)) → found ≡ behind_or [] found (past tree [])
    by None = sym (root_ends (sets_of tree) tree.from)
    by (Some k) = refl

as_found : (m : List Rel) (found : Option Rel) (other : Option (List Rel)) → behind_or m (single found) other ≡ found_or m found other
as_found m None other = refl
as_found m (Some rel) other = refl

-- below a branch comes its least shown relation
first_below : (tree : Branching) (set : RelSet) (sets : List RelSet) (from m : List Rel) → Within tree (set ∷ sets) from m →
    onward (sets_of tree) tree.from true m ≡ found_or m (least_from set from) (past tree m)
first_below tree set sets from m is =
    subst (λ k. onward (sets_of tree) tree.from true k ≡ found_or m (least_from set from) (past tree m)) (append-nil m)
    (is.on true [] ∙ as_found m (least_from set from) (past tree m))

-- and behind all that is below one of its relations comes the next one
next_beside : (tree : Branching) (set : RelSet) (sets : List RelSet) (from m : List Rel) → Within tree (set ∷ sets) from m → (rel : Rel) →
    past tree (m ++ rel ∷ []) ≡ found_or m (next_of set rel) (past tree m)
next_beside tree set sets from m is rel =
    is.on false (rel ∷ []) ∙ ap (λ found. behind_or m (or_later set rel found) (past tree m)) (root_ends sets (from_below from rel)) ∙ as_found m (next_of set rel) (past tree m)

deeper : (tree : Branching) (set : RelSet) (sets : List RelSet) (from m : List Rel) → Within tree (set ∷ sets) from m → (rel : Rel) →
    Within tree sets (from_below from rel) (m ++ rel ∷ [])
deeper tree set sets from m is rel = record {
  deep = long;
  on = λ branches k. ap (λ n. onward (sets_of tree) tree.from branches n) (append_assoc m (rel ∷ []) k) ∙ is.on branches (rel ∷ k) ∙ by (onward sets (from_below from rel) branches k);
}
  where
    long : length (m ++ rel ∷ []) + length sets ≡ length tree.levels
    long = let one = length-append m (rel ∷ []) in let deep = is.deep in omega arith

    by : (found : Option (List Rel)) → behind_or m (or_later set rel found) (past tree m) ≡ behind_or (m ++ rel ∷ []) found (past tree (m ++ rel ∷ []))
    by None = as_found m (next_of set rel) (past tree m) ∙ sym (next_beside tree set sets from m is rel)
    by (Some k) = ap (λ n. Some n) (sym (append_assoc m (rel ∷ []) k))

-- the lines that lead on from a node: all that is below it, and then more; or what is before a stop below it
record IsWhole (tree : Branching) (m : List Rel) (Kind : List Placed → Type 0) (lines : List Placed) (to : Option (List Rel)) : Type 0 where
  first : List Placed
  rest : List Placed
  split : lines ≡ first ++ rest
  is : Kind first
  leads : Leads tree (past tree m) rest to

record IsCutOff (m : List Rel) (Kind : List Rel → List Placed → Type 0) (lines : List Placed) (to : Option (List Rel)) : Type 0 where
  stop : List Rel
  ends : to ≡ Some (m ++ stop)
  is : Kind stop lines

record IsCutBelow (m : List Rel) (Kind : Rel → List Placed → Type 0) (Before : Rel → List Rel → List Placed → Type 0) (rels : List Rel) (lines : List Placed) (to : Option (List Rel)) : Type 0 where
  rel : Rel
  stop : List Rel
  ends : to ≡ Some (m ++ rel ∷ stop)
  is : InTurnUpTo Kind (Before rel stop) rel rels lines

-- the trees of relations one after another
in_turn : (tree : Branching) (set : RelSet) (m : List Rel) (Kind : Rel → List Placed → Type 0) (Before : Rel → List Rel → List Placed → Type 0) →
    ((rel : Rel) → past tree (m ++ rel ∷ []) ≡ found_or m (next_of set rel) (past tree m)) →
    ((rel : Rel) (lines : List Placed) (to : Option (List Rel)) → Leads tree (Some (m ++ rel ∷ [])) lines to →
    IsWhole tree (m ++ rel ∷ []) (Kind rel) lines to ⊎ IsCutOff (m ++ rel ∷ []) (Before rel) lines to) →
    (rels : List Rel) (next : Option Rel) → Chain set next rels → (lines : List Placed) (to : Option (List Rel)) → Leads tree (found_or m next (past tree m)) lines to →
    IsWhole tree m (InTurn Kind rels) lines to ⊎ IsCutBelow m Kind Before rels lines to
in_turn tree set m Kind Before beside each [] next is lines to leads =
    inl (record { first = []; rest = lines; split = refl; is = refl; leads = subst (λ next. Leads tree (found_or m next (past tree m)) lines to) is leads })
in_turn tree set m Kind Before beside each (rel ∷ rels) next is lines to leads =
    elim (each rel lines to (subst (λ next. Leads tree (found_or m next (past tree m)) lines to) is.0 leads)) [
      | inl whole ↦
          elim (in_turn tree set m Kind Before beside each rels (next_of set rel) is.1 whole.rest to (subst (λ at. Leads tree at whole.rest to) (beside rel) whole.leads)) [
            | inl more ↦ inl (record {
              first = whole.first ++ more.first;
              rest = more.rest;
              split = whole.split ∙ ap (λ l. whole.first ++ l) more.split ∙ sym (append_assoc whole.first more.first more.rest);
              is = record { first = whole.first; second = more.first; split = refl; is_first = whole.is; is_second = more.is };
              leads = more.leads;
            })
            | inr cut ↦ inr (record {
              rel = cut.rel;
              stop = cut.stop;
              ends = cut.ends;
              is = record {
                earlier = rel ∷ cut.is.earlier;
                later = cut.is.later;
                among = ap (λ l. rel ∷ l) cut.is.among;
                parts = record {
                  first = whole.first ++ cut.is.parts.first;
                  second = cut.is.parts.second;
                  split = whole.split ∙ ap (λ l. whole.first ++ l) cut.is.parts.split ∙ sym (append_assoc whole.first cut.is.parts.first cut.is.parts.second);
                  is_first = record { first = whole.first; second = cut.is.parts.first; split = refl; is_first = whole.is; is_second = cut.is.parts.is_first };
                  is_second = cut.is.parts.is_second;
                };
              };
            })
          ]
      | inr cut ↦ inr (record {
        rel = rel;
        stop = cut.stop;
        ends = cut.ends ∙ ap (λ n. Some n) (append_assoc m (rel ∷ []) cut.stop);
        is = record {
          earlier = [];
          later = rels;
          among = refl;
          parts = record { first = []; second = lines; split = refl; is_first = refl; is_second = cut.is };
        };
      })
    ]

-- lines that lead on from a node are those of the tree there, or of what is before a stop
begins : (tree : Branching) (sets : List RelSet) (from m : List Rel) → Within tree sets from m → (lines : List Placed) (to : Option (List Rel)) → Leads tree (Some m) lines to →
    IsWhole tree m (IsTreeAt tree sets from m) lines to ⊎ IsCutOff m (IsTreeBefore tree sets from m) lines to
begins tree [] from m is [] to leads = inr (record { stop = []; ends = sym leads ∙ ap (λ n. Some n) (sym (append-nil m)); is = refl })
begins tree (set ∷ sets) from m is [] to leads = inr (record { stop = []; ends = sym leads ∙ ap (λ n. Some n) (sym (append-nil m)); is = refl })
begins tree [] from m is (placed ∷ lines) to leads = by (is_branch placed.line) refl
  where
    by : (b : Bool) → is_branch placed.line ≡ b → IsWhole tree m (IsTreeAt tree [] from m) (placed ∷ lines) to ⊎ IsCutOff m (IsTreeBefore tree [] from m) (placed ∷ lines) to
    by false e = inl (record {
      first = placed ∷ [];
      rest = lines;
      split = refl;
      is = record { line = placed; alone = refl; leaf = e; right = leads.0 };
      leads = subst (λ b. Leads tree (onward (sets_of tree) tree.from b m) lines to) e leads.1;
    })
    by true e =
        let deep = is.deep in
        let full : length m ≡ length tree.levels = omega arith in
        absurd (true≢false (sym (eq-eqb (length m) (length tree.levels) full) ∙ branch_is_short tree placed.proof m placed.line (tree_parts tree placed.proof m placed.line leads.0).1 e))
begins tree (set ∷ sets) from m is (placed ∷ lines) to leads =
    by (is_branch placed.line) refl (λ rel. begins tree sets (from_below from rel) (m ++ rel ∷ []) (deeper tree set sets from m is rel))
  where
    Kind : Rel → List Placed → Type 0
    Kind rel = IsTreeAt tree sets (from_below from rel) (m ++ rel ∷ [])

    Before : Rel → List Rel → List Placed → Type 0
    Before rel = IsTreeBefore tree sets (from_below from rel) (m ++ rel ∷ [])

    by : (b : Bool) → is_branch placed.line ≡ b →
        ((rel : Rel) (lines : List Placed) (to : Option (List Rel)) → Leads tree (Some (m ++ rel ∷ [])) lines to →
        IsWhole tree (m ++ rel ∷ []) (Kind rel) lines to ⊎ IsCutOff (m ++ rel ∷ []) (Before rel) lines to) →
        IsWhole tree m (IsTreeAt tree (set ∷ sets) from m) (placed ∷ lines) to ⊎ IsCutOff m (IsTreeBefore tree (set ∷ sets) from m) (placed ∷ lines) to
    by false e each = inl (record {
      first = placed ∷ [];
      rest = lines;
      split = refl;
      is = inl (record { line = placed; alone = refl; leaf = e; right = leads.0 });
      leads = subst (λ b. Leads tree (onward (sets_of tree) tree.from b m) lines to) e leads.1;
    })
    by true e each =
        let below : Leads tree (found_or m (least_from set from) (past tree m)) lines to =
        subst (λ at. Leads tree at lines to) (first_below tree set sets from m is) (subst (λ b. Leads tree (onward (sets_of tree) tree.from b m) lines to) e leads.1) in
        elim (in_turn tree set m Kind Before (next_beside tree set sets from m is) each (shown_rels set from) (least_from set from) (shown_chain set from) lines to below) [
          | inl whole ↦ let split = whole.split in inl (record {
            first = placed ∷ whole.first;
            rest = whole.rest;
            split = ap (λ l. placed ∷ l) split;
            is = inr (record { line = placed; rest = whole.first; split = refl; branch = e; right = leads.0; below = whole.is });
            leads = whole.leads;
          })
          | inr cut ↦ inr (record {
            stop = cut.rel ∷ cut.stop;
            ends = cut.ends;
            is = record { line = placed; rest = lines; split = refl; branch = e; right = leads.0; below = cut.is };
          })
        ]

-- so are those that lead from the root to an end
pub leads_is_tree : (tree : Branching) (lines : List Placed) (to : Option (List Rel)) → Leads tree (Some []) lines to → IsTreeUpTo tree to lines
leads_is_tree tree lines to leads = elim (begins tree (sets_of tree) tree.from [] (root_within tree) lines to leads) [
  | inl whole ↦ ended whole.first whole.rest whole.split whole.is (subst (λ at. Leads tree at whole.rest to) (root_ends (sets_of tree) tree.from) whole.leads)
  | inr cut ↦ subst (λ to. IsTreeUpTo tree to lines) (sym cut.ends) cut.is
]
  where
    ended : (first rest : List Placed) → lines ≡ first ++ rest → IsTreeAt tree (sets_of tree) tree.from [] first → Leads tree None rest to → IsTreeUpTo tree to lines
    ended first [] split is leads = subst (λ to. IsTreeUpTo tree to lines) leads (subst (IsTreeUpTo tree None) (sym (split ∙ append-nil first)) is)
    ended first (placed ∷ rest) split is leads = let none = leads.0 in cc

-- the trees of relations one after another lead on
turn_leads : (tree : Branching) (set : RelSet) (m : List Rel) (Kind : Rel → List Placed → Type 0) →
    ((rel : Rel) → past tree (m ++ rel ∷ []) ≡ found_or m (next_of set rel) (past tree m)) →
    ((rel : Rel) (lines more : List Placed) (to : Option (List Rel)) → Kind rel lines → Leads tree (past tree (m ++ rel ∷ [])) more to →
    Leads tree (Some (m ++ rel ∷ [])) (lines ++ more) to) →
    (earlier later : List Rel) (next : Option Rel) → Chain set next (earlier ++ later) → (lines more : List Placed) (to : Option (List Rel)) → InTurn Kind earlier lines →
    ((next : Option Rel) → Chain set next later → Leads tree (found_or m next (past tree m)) more to) →
    Leads tree (found_or m next (past tree m)) (lines ++ more) to
turn_leads tree set m Kind beside each [] later next is lines more to turn leads =
    subst (λ l. Leads tree (found_or m next (past tree m)) (l ++ more) to) (sym turn) (leads next is)
turn_leads tree set m Kind beside each (rel ∷ earlier) later next is lines more to turn leads =
    let rest : Leads tree (past tree (m ++ rel ∷ [])) (turn.second ++ more) to =
    subst (λ at. Leads tree at (turn.second ++ more) to) (sym (beside rel))
    (turn_leads tree set m Kind beside each earlier later (next_of set rel) is.1 turn.second more to turn.is_second leads) in
    let whole = each rel turn.first (turn.second ++ more) to turn.is_first rest in
    let same : turn.first ++ (turn.second ++ more) ≡ lines ++ more = sym (ap (λ l. l ++ more) turn.split ∙ append_assoc turn.first turn.second more) in
    subst (λ n. Leads tree (found_or m n (past tree m)) (lines ++ more) to) (sym is.0) (subst (λ l. Leads tree (Some (m ++ rel ∷ [])) l to) same whole)

leaf_leads : (tree : Branching) (m : List Rel) (lines more : List Placed) (to : Option (List Rel)) → IsLeafAt tree m lines → Leads tree (past tree m) more to →
    Leads tree (Some m) (lines ++ more) to
leaf_leads tree m lines more to is leads =
    subst (λ l. Leads tree (Some m) (l ++ more) to) (sym is.alone) (is.right, subst (λ b. Leads tree (onward (sets_of tree) tree.from b m) more to) (sym is.leaf) leads)

branch_leads : (tree : Branching) (m : List Rel) (Below : List Placed → Type 0) (lines more : List Placed) (to : Option (List Rel)) → (is : IsBranchAt tree m Below lines) →
    Leads tree (onward (sets_of tree) tree.from true m) (is.rest ++ more) to → Leads tree (Some m) (lines ++ more) to
branch_leads tree m Below lines more to is leads =
    subst (λ l. Leads tree (Some m) (l ++ more) to) (sym is.split)
    (is.right, subst (λ b. Leads tree (onward (sets_of tree) tree.from b m) (is.rest ++ more) to) (sym is.branch) leads)

-- so does a tree
tree_leads : (tree : Branching) (sets : List RelSet) (from m : List Rel) → Within tree sets from m → (lines more : List Placed) (to : Option (List Rel)) → IsTreeAt tree sets from m lines →
    Leads tree (past tree m) more to → Leads tree (Some m) (lines ++ more) to
tree_leads tree [] from m is lines more to leaf leads = leaf_leads tree m lines more to leaf leads
tree_leads tree (set ∷ sets) from m is lines more to (inl leaf) leads = leaf_leads tree m lines more to leaf leads
tree_leads tree (set ∷ sets) from m is lines more to (inr branch) leads =
    branch_leads tree m _ lines more to branch
    (subst (λ at. Leads tree at (branch.rest ++ more) to) (sym (first_below tree set sets from m is))
    (turn_leads tree set m (λ rel. IsTreeAt tree sets (from_below from rel) (m ++ rel ∷ [])) (next_beside tree set sets from m is)
    (λ rel. tree_leads tree sets (from_below from rel) (m ++ rel ∷ []) (deeper tree set sets from m is rel)) (shown_rels set from) [] (least_from set from)
    (subst (Chain set (least_from set from)) (sym (append-nil (shown_rels set from))) (shown_chain set from)) branch.rest more to branch.below
    (λ next none. subst (λ next. Leads tree (found_or m next (past tree m)) more to) (sym none) leads)))

-- and what of it stands before a stop
before_leads : (tree : Branching) (sets : List RelSet) (from m : List Rel) → Within tree sets from m → (stop : List Rel) (lines : List Placed) → IsTreeBefore tree sets from m stop lines →
    Leads tree (Some m) lines (Some (m ++ stop))
before_leads tree [] from m is [] lines none = subst (λ l. Leads tree (Some m) l (Some (m ++ []))) (sym none) (ap (λ n. Some n) (sym (append-nil m)))
before_leads tree (set ∷ sets) from m is [] lines none = subst (λ l. Leads tree (Some m) l (Some (m ++ []))) (sym none) (ap (λ n. Some n) (sym (append-nil m)))
before_leads tree [] from m is (rel ∷ stop) lines cut = absurd cut
before_leads tree (set ∷ sets) from m is (rel ∷ stop) lines branch =
    let cut = branch.below in
    let last : Leads tree (Some (m ++ rel ∷ [])) cut.parts.second (Some (m ++ rel ∷ stop)) =
    subst (λ n. Leads tree (Some (m ++ rel ∷ [])) cut.parts.second (Some n)) (append_assoc m (rel ∷ []) stop)
    (before_leads tree sets (from_below from rel) (m ++ rel ∷ []) (deeper tree set sets from m is rel) stop cut.parts.second cut.parts.is_second) in
    let below : Leads tree (found_or m (least_from set from) (past tree m)) (cut.parts.first ++ cut.parts.second) (Some (m ++ rel ∷ stop)) =
    turn_leads tree set m (λ rel. IsTreeAt tree sets (from_below from rel) (m ++ rel ∷ [])) (next_beside tree set sets from m is)
    (λ rel. tree_leads tree sets (from_below from rel) (m ++ rel ∷ []) (deeper tree set sets from m is rel)) cut.earlier (rel ∷ cut.later) (least_from set from)
    (subst (Chain set (least_from set from)) cut.among (shown_chain set from)) cut.parts.first cut.parts.second (Some (m ++ rel ∷ stop)) cut.parts.is_first
    (λ next at. subst (λ next. Leads tree (found_or m next (past tree m)) cut.parts.second (Some (m ++ rel ∷ stop))) (sym at.0) last) in
    subst (λ l. Leads tree (Some m) l (Some (m ++ rel ∷ stop))) (sym branch.split) (
      branch.right,
      subst (λ b. Leads tree (onward (sets_of tree) tree.from b m) branch.rest (Some (m ++ rel ∷ stop))) (sym branch.branch)
          (subst (λ at. Leads tree at branch.rest (Some (m ++ rel ∷ stop))) (sym (first_below tree set sets from m is))
          (subst (λ l. Leads tree (found_or m (least_from set from) (past tree m)) l (Some (m ++ rel ∷ stop))) (sym cut.parts.split) below)),
    )

-- the lines of a tree lead from the root to its stop, or past all
pub tree_is_led : (tree : Branching) (lines : List Placed) (to : Option (List Rel)) → IsTreeUpTo tree to lines → Leads tree (Some []) lines to
tree_is_led tree lines None is =
    subst (λ l. Leads tree (Some []) l None) (append-nil lines) (tree_leads tree (sets_of tree) tree.from [] (root_within tree) lines [] None is (root_ends (sets_of tree) tree.from))
tree_is_led tree lines (Some stop) is = before_leads tree (sets_of tree) tree.from [] (root_within tree) stop lines is
