-- From the positions of a kind between a start and a node to those between the start and the next node.
use Rattle.std.proofs.Common.{◌≡◌, Bool, true, false, List, [], ◌∷◌, ◌++◌, ◌⊎◌, inl, inr, Option, Some, None, refl, sym, ◌∙◌, subst, IsTrue}
use Rattle.std.proofs.lemmas.Bool.{true≢false}
use Rattle.rcc5_core.specs.declared.Rel.{Rel}
use Rattle.world_model.specs.Listing.{is_below, is_before_end}
use Rattle.world_model.proofs.Members.{In, here, there, none_in, In-left, In-right, from_append}
use Rattle.world_model.proofs.OrderPositions.{below_chain, below_cases}
use Rattle.world_model.proofs.OrderLists.{ascends_append, IsExactly, Between, between_parts, between_from}
use Rattle.cert_rules.proofs.Nexts.{IsPassed}

-- what comes before a node comes before the next one
before_next : (t m : List Rel) (next : Option (List Rel)) → ((n : List Rel) → next ≡ Some n → is_below m n ≡ true) → is_below t m ≡ true → is_before_end t next ≡ true
before_next t m None after below = refl
before_next t m (Some n) after below = below_chain t m n below (after n refl)

-- no position of the kind lies at the node or between it and the next one
pub none_between : (W : List Rel → Type 0) (from m : List Rel) (next : Option (List Rel)) (worlds : List (List Rel)) → IsExactly (Between W from (Some m)) worlds →
    ((n : List Rel) → next ≡ Some n → is_below m n ≡ true) →
    ((t : List Rel) → W t → is_below t from ≡ false → is_below t m ≡ false → IsPassed next t) →
    IsExactly (Between W from next) worlds
none_between W from m next worlds old after passed = record {
  ascending = old.ascending;
  sound = λ t i. let w = old.sound t i in let parts = between_parts from (Some m) t w.1 in (w.0, between_from from next t parts.0 (before_next t m next after parts.1));
  complete = λ t w. by t w (is_below t m) refl;
}
  where
    by : (t : List Rel) → Between W from next t → (b : Bool) → is_below t m ≡ b → In t worlds
    by t w true e = old.complete t (w.0, between_from from (Some m) t (between_parts from next t w.1).0 e)
    by t w false e = let parts = between_parts from next t w.1 in absurd (true≢false (sym parts.1 ∙ passed t w.0 parts.0 e))

-- the node is the only one
pub one_between : (W : List Rel → Type 0) (from m : List Rel) (next : Option (List Rel)) (worlds : List (List Rel)) → IsExactly (Between W from (Some m)) worlds →
    W m → is_below m from ≡ false → ((n : List Rel) → next ≡ Some n → is_below m n ≡ true) →
    ((t : List Rel) → W t → is_below t from ≡ false → is_below m t ≡ true → IsPassed next t) →
    IsExactly (Between W from next) (worlds ++ m ∷ [])
one_between W from m next worlds old is low after passed = record {
  ascending = ascends_append worlds (m ∷ []) old.ascending refl (λ x y i j. subst (λ y. is_below x y ≡ true) (sym (only_one y j)) (between_parts from (Some m) x (old.sound x i).1).1);
  sound = λ t i. sound t (from_append worlds i);
  complete = λ t w. by t w (below_cases t m);
}
  where
    only_one : (y : List Rel) → In y (m ∷ []) → y ≡ m
    only_one y (here e) = e
    only_one y (there i) = absurd (none_in i)

    before : (next : Option (List Rel)) → ((n : List Rel) → next ≡ Some n → is_below m n ≡ true) → is_before_end m next ≡ true
    before None after = refl
    before (Some n) after = after n refl

    sound : (t : List Rel) → In t worlds ⊎ In t (m ∷ []) → Between W from next t
    sound t (inl i) = let w = old.sound t i in let parts = between_parts from (Some m) t w.1 in (w.0, between_from from next t parts.0 (before_next t m next after parts.1))
    sound t (inr i) = subst (Between W from next) (sym (only_one t i)) (is, between_from from next m low (before next after))

    by : (t : List Rel) → Between W from next t → IsTrue (is_below t m) ⊎ ((t ≡ m) ⊎ IsTrue (is_below m t)) → In t (worlds ++ m ∷ [])
    by t w (inl below) = In-left (m ∷ []) (old.complete t (w.0, between_from from (Some m) t (between_parts from next t w.1).0 below))
    by t w (inr (inl same)) = In-right worlds (here same)
    by t w (inr (inr above)) = let parts = between_parts from next t w.1 in absurd (true≢false (sym parts.1 ∙ passed t w.0 parts.0 above))
