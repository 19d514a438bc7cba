-- The next node in the words of a walk: along the start, off it and behind a node.
use Rattle.std.proofs.Common.{◌≡◌, true, false, not, inl, inr, ◌⊎◌, List, [], ◌∷◌, ◌++◌, Option, Some, None, sym, ap, ◌∙◌, subst, arith, IsTrue, append_assoc, append-nil}
use Rattle.std.proofs.lemmas.Bool.{true≢false, cases_Bool, not_from_false, not-true}
use Rattle.rcc5_core.specs.declared.Rel.{Rel}
use Rattle.rcc5_core.specs.Relation.{rank_of}
use Rattle.world_model.specs.Problem.{Problem}
use Rattle.world_model.specs.Listing.{Begins, is_below}
use Rattle.world_model.specs.Node.{IsNode}
use Rattle.world_model.proofs.OrderPositions.{below_itself, below_chain, below_apart, below_upto, below_longer, first_or_rest}
use Rattle.cert_rules.specs.Order.{is_shown}
use Rattle.cert_rules.specs.ShownNodes.{IsShownNode, IsNextNode, IsFirstOf, WalkedIsNext}
use Rattle.cert_rules.proofs.Nexts.{below_nothing, shown_from_order}
use Rattle.world_model.proofs.Nodes.{prefix_is_node}
use Rattle.cert_rules.proofs.NextNodes.{prefix_shown, prefix_or_not_below}

-- what comes after one that is not below the start is not below it either
after_start : (from m n : List Rel) → IsTrue (not (is_below m from)) → IsTrue (is_below m n) → is_below n from ≡ false
after_start from m n high after = elim (cases_Bool (is_below n from)) [
  | inl below ↦ absurd (true≢false (sym (below_chain m n from after below) ∙ not-true (is_below m from) high))
  | inr not_below ↦ not_below
]

standing : (p : Problem) (from m : List Rel) (next : Option (List Rel)) → IsTrue (not (is_below m from)) → IsFirstOf p (λ x. IsTrue (is_below m x)) next → IsNextNode p from m next
standing p from m None high none = λ x shown after. none x shown.0 after
standing p from m (Some n) high first = record {
  node = (first.node, shown_from_order from n (after_start from m n high first.kind));
  after = first.kind;
  least = λ x shown after. first.least x shown.0 after;
}

-- a prefix of the start that comes after another is longer by the start's next relation
longer_prefix : (m : List Rel) (rel : Rel) (rest x behind : List Rel) → m ++ rel ∷ rest ≡ x ++ behind → IsTrue (is_below m x) → (more : List Rel) × (x ≡ m ++ rel ∷ more)
longer_prefix m rel rest [] behind e after = absurd (below_nothing m after)
longer_prefix [] rel rest (q ∷ x) behind e after = let head : q ≡ rel = cc in (x, λ i. head i ∷ x)
longer_prefix (r ∷ m) rel rest (q ∷ x) behind e after =
    let head : r ≡ q = cc in
    let tail : m ++ rel ∷ rest ≡ x ++ behind = cc in
    let rank = ap rank_of head in
    elim (first_or_rest r q m x after) [
      | inl less ↦ absurd (omega arith)
      | inr both ↦ let more = longer_prefix m rel rest x behind tail both.1 in let same = more.1 in let back = sym head in (more.0, λ i. back i ∷ same i)
    ]

-- a position is not below its prefix
not_below_prefix : (c more : List Rel) → is_below (c ++ more) c ≡ false
not_below_prefix c [] = ap (λ x. is_below x c) (append-nil c) ∙ below_itself c
not_below_prefix c (r ∷ more) = below_apart c (c ++ r ∷ more) (below_longer c r more)

-- the start by its prefix with the next relation
start_is : (m : List Rel) (rel : Rel) (rest : List Rel) → m ++ rel ∷ rest ≡ (m ++ rel ∷ []) ++ rest
start_is m rel rest = sym (append_assoc m (rel ∷ []) rest)

on_the_way : (p : Problem) (m : List Rel) (rel : Rel) (rest : List Rel) → IsNode p (m ++ rel ∷ []) → IsNextNode p (m ++ rel ∷ rest) m (Some (m ++ rel ∷ []))
on_the_way p m rel rest node = record {
  node = (node, subst (λ from. is_shown from c ≡ true) (sym (start_is m rel rest)) (prefix_shown c rest));
  after = below_longer m rel [];
  least = λ x shown after. not_from_false (is_below x c) (by x after (prefix_or_not_below (m ++ rel ∷ rest) x shown.1));
}
  where
    c : List Rel
    c = m ++ rel ∷ []

    high : is_below (m ++ rel ∷ rest) c ≡ false
    high = ap (λ from. is_below from c) (start_is m rel rest) ∙ not_below_prefix c rest

    by : (x : List Rel) → IsTrue (is_below m x) → Begins x (m ++ rel ∷ rest) ⊎ IsTrue (not (is_below x (m ++ rel ∷ rest))) → is_below x c ≡ false
    by x after (inl prefix) =
        let more = longer_prefix m rel rest x prefix.0 prefix.1 after in
        ap (λ y. is_below y c) (more.1 ∙ start_is m rel more.0) ∙ not_below_prefix c more.0
    by x after (inr above) = elim (cases_Bool (is_below x c)) [
      | inl below ↦ absurd (true≢false (sym (below_upto x c (m ++ rel ∷ rest) below high) ∙ not-true (is_below x (m ++ rel ∷ rest)) above))
      | inr not_below ↦ not_below
    ]

-- where the start leads to no node, a shown node behind its prefix is not below it
past_start : (p : Problem) (m : List Rel) (rel : Rel) (rest : List Rel) → (IsNode p (m ++ rel ∷ []) → ⊥) → (x : List Rel) → IsShownNode p (m ++ rel ∷ rest) x → IsTrue (is_below m x) →
    IsTrue (not (is_below x (m ++ rel ∷ rest)))
past_start p m rel rest none x shown after = by (prefix_or_not_below (m ++ rel ∷ rest) x shown.1)
  where
    by : Begins x (m ++ rel ∷ rest) ⊎ IsTrue (not (is_below x (m ++ rel ∷ rest))) → IsTrue (not (is_below x (m ++ rel ∷ rest)))
    by (inl prefix) =
        let more = longer_prefix m rel rest x prefix.0 prefix.1 after in
        absurd (none (prefix_is_node p (m ++ rel ∷ []) more.0 (subst (IsNode p) (more.1 ∙ start_is m rel more.0) shown.0)))
    by (inr above) = above

off_the_way : (p : Problem) (m : List Rel) (rel : Rel) (rest : List Rel) (next : Option (List Rel)) → (IsNode p (m ++ rel ∷ []) → ⊥) →
    IsFirstOf p (λ x. IsTrue (not (is_below x (m ++ rel ∷ rest)))) next → IsNextNode p (m ++ rel ∷ rest) m next
off_the_way p m rel rest None none first = λ x shown after. first x shown.0 (past_start p m rel rest none x shown after)
off_the_way p m rel rest (Some n) none first = record {
  node = (first.node, shown_from_order (m ++ rel ∷ rest) n (not-true (is_below n (m ++ rel ∷ rest)) first.kind));
  after = below_upto m (m ++ rel ∷ rest) n (below_longer m rel rest) (not-true (is_below n (m ++ rel ∷ rest)) first.kind);
  least = λ x shown after. first.least x shown.0 (past_start p m rel rest none x shown after);
}

pub walked_is_next_law : WalkedIsNext
walked_is_next_law = record { standing = standing; on_the_way = on_the_way; off_the_way = off_the_way }
