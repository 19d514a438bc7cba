-- The plain way finds just the nodes of a length.
use Rattle.std.proofs.Common.{◌≡◌, ℕ, zero, suc, ◌≤◌, ◌<◌, ◌+◌, ◌*◌, Bool, true, false, cond, inl, inr, List, [], ◌∷◌, ◌++◌, length, get_or, take, refl, sym, ap, ◌∙◌, subst, arith, IsTrue, length-append, append-nil}
use Rattle.std.specs.Prelude.{filter, flat_map}
use Rattle.std.proofs.lemmas.List.{length-map, take_more}
use Rattle.std.proofs.lemmas.Grind.{flat_map-append}
use Rattle.rcc5_core.specs.declared.Rel.{Rel}
use Rattle.rcc5_core.specs.declared.Rel.TheVariants.{Equals, Includes, IncludedIn, Overlaps, Disjoint}
use Rattle.rcc5_core.specs.Relation.{all_rels}
use Rattle.rcc5_core.specs.RelationSet.{has}
use Rattle.world_model.specs.Problem.{Problem, pair_count}
use Rattle.world_model.specs.Alive.{allowed, problem_at, IsAlive}
use Rattle.world_model.specs.Node.{IsNode, pair_at}
use Rattle.world_model.specs.Trial.{alive_by_trial, next_rels}
use Rattle.world_model.proofs.Members.{In, here, there, In-map, In-filter, In-flat_map, In-get_or, from_filter, from_flat_map}
use Rattle.world_model.proofs.Nodes.{child_is_node, prefix_is_node}
use Rattle.world_model.proofs.OrderLists.{IsExactly, exactly_from, members_from, one_exact}
use Rattle.world_model.proofs.TrialPoints.{alive_by_trial-iff}
use Rattle.listing_run.specs.Parts.Beginnings.{IsLevel}
use Rattle.listing_run.specs.Parts.Levels.{longer, followers, level_by_trial}
use Rattle.listing_run.proofs.parts.LevelOrder.{IsFollower, follower, level_ascends}

-- a node of a length
abbrev OfLength : Problem → ℕ → List Rel → Type 0
OfLength p d m = IsNode p m × (length m ≡ d)

in_all : (r : Rel) → In r all_rels
in_all Equals = here refl
in_all Includes = there (here refl)
in_all IncludedIn = there (there (here refl))
in_all Overlaps = there (there (there (here refl)))
in_all Disjoint = there (there (there (there (here refl))))

in_followers : (p : Problem) (m : List Rel) (r : Rel) → IsTrue (alive_by_trial (problem_at p m)) → has (allowed p (pair_at p (length m))) r ≡ true →
    In (m ++ r ∷ []) (followers p m)
in_followers p m r alive allows =
    let next : In r (next_rels p m) = In-filter (has (allowed p (pair_at p (length m)))) (in_all r) allows in
    subst (λ b. In (m ++ r ∷ []) (cond b (longer p m) [])) (sym alive) (In-map (λ rel. m ++ rel ∷ []) next)

-- those that follow, where the node is alive and where it is dead
pub alive_followers : (p : Problem) (m : List Rel) → IsAlive (problem_at p m) → longer p m ≡ followers p m
alive_followers p m alive = ap (λ b. cond b (longer p m) []) (sym ((alive_by_trial-iff (problem_at p m)).1 alive))

pub dead_followers : (p : Problem) (m : List Rel) → (IsAlive (problem_at p m) → ⊥) → [] ≡ followers p m
dead_followers p m dead = by (alive_by_trial (problem_at p m)) refl
  where
    by : (b : Bool) → alive_by_trial (problem_at p m) ≡ b → [] ≡ cond b (longer p m) []
    by true e = absurd (dead ((alive_by_trial-iff (problem_at p m)).0 e))
    by false e = refl

-- what follows a node of a length is one of the next
follower_is_node : (p : Problem) (d : ℕ) (m t : List Rel) → d < pair_count p → OfLength p d m → IsFollower p m t → OfLength p (suc d) t
follower_is_node p d m t short node f =
    let long = length-append m (f.rel ∷ []) in
    let whole = node.1 in
    let same = ap length f.is in
    let room : length m < pair_count p = omega arith in
    let allows = (from_filter (has (allowed p (pair_at p (length m)))) all_rels f.next).1 in
    let child : IsNode p (m ++ f.rel ∷ []) = child_is_node p m f.rel (record { alive = (alive_by_trial-iff (problem_at p m)).0 f.alive; short = room; allows = allows }) in
    (subst (IsNode p) (sym f.is) child, omega arith)

-- and each of the next follows one
node_follows : (p : Problem) (d : ℕ) (nodes : List (List Rel)) (t : List Rel) → ((m : List Rel) → OfLength p d m → In m nodes) →
    OfLength p (suc d) t → In t (flat_map (followers p) nodes)
node_follows p d nodes t all (inl empty, long) = let none = ap length empty in absurd (omega arith)
node_follows p d nodes t all (inr step, long) =
    let same = ap length step.follows in
    let more = length-append step.prefix (step.rel ∷ []) in
    let before : IsNode p step.prefix = prefix_is_node p step.prefix (step.rel ∷ []) (subst (IsNode p) step.follows (inr step)) in
    let one : In step.prefix nodes = all step.prefix (before, omega arith) in
    subst (λ m. In m (flat_map (followers p) nodes)) (sym step.follows)
    (In-flat_map (followers p) one (in_followers p step.prefix step.rel ((alive_by_trial-iff (problem_at p step.prefix)).1 step.alive) step.allows))

empty_of : (m : List Rel) → length m ≡ 0 → In m ([] ∷ [])
empty_of [] e = here refl
empty_of (r ∷ m) e = absurd (omega arith)

root_exactly : (p : Problem) → IsExactly (OfLength p 0) (level_by_trial p 0)
root_exactly p = record { ascending = refl; sound = root; complete = λ t w. empty_of t w.1 }
  where
    root : (t : List Rel) → In t ([] ∷ []) → OfLength p 0 t
    root t (here e) = (inl e, ap length e)
    root t (there i) = elim i [ ]

next_exactly : (p : Problem) (d : ℕ) (nodes : List (List Rel)) → d < pair_count p → IsExactly (OfLength p d) nodes →
    IsExactly (OfLength p (suc d)) (flat_map (followers p) nodes)
next_exactly p d nodes short level = record {
  ascending = level_ascends p d nodes level.ascending (λ m i. (level.sound m i).1);
  sound = λ t i. let of = from_flat_map (followers p) nodes i in
      follower_is_node p d of.source t short (level.sound of.source of.member) (follower p of.source t of.has);
  complete = λ t w. node_follows p d nodes t level.complete w;
}

level_exactly : (p : Problem) (d : ℕ) → d ≤ pair_count p → IsExactly (OfLength p d) (level_by_trial p d)
level_exactly p zero h = root_exactly p
level_exactly p (suc d) h = next_exactly p d (level_by_trial p d) h (level_exactly p d (omega arith))

-- the nodes of a length, by their members
exactly : (p : Problem) (d : ℕ) (nodes : List (List Rel)) → IsLevel p d nodes → IsExactly (OfLength p d) nodes
exactly p d nodes level = exactly_from (OfLength p d) nodes level.ascending level.members

pub is_level : (p : Problem) (d : ℕ) → d ≤ pair_count p → IsLevel p d (level_by_trial p d)
is_level p d h =
    let all = level_exactly p d h in
    record { ascending = all.ascending; members = members_from (OfLength p d) (level_by_trial p d) all }

-- there is one list of them
pub one_level : (p : Problem) (d : ℕ) (a b : List (List Rel)) → IsLevel p d a → IsLevel p d b → a ≡ b
one_level p d a b x y = one_exact (OfLength p d) a b (exactly p d a x) (exactly p d b y)

pub in_level : (p : Problem) (d : ℕ) (nodes : List (List Rel)) → IsLevel p d nodes → (m : List Rel) → In m nodes → OfLength p d m
in_level p d nodes level m i = (exactly p d nodes level).sound m i

-- at most five nodes follow one
filter_within : (test : Rel → Bool) (rs : List Rel) → length (filter test rs) ≤ length rs
filter_within test [] = omega arith
filter_within test (r ∷ rs) = by (test r) (filter_within test rs)
  where
    by : (b : Bool) → length (filter test rs) ≤ length rs → length (cond b (r ∷ filter test rs) (filter test rs)) ≤ suc (length rs)
    by true h = omega arith
    by false h = omega arith

five_follow : (p : Problem) (m : List Rel) → length (followers p m) ≤ 5
five_follow p m = by (alive_by_trial (problem_at p m))
  where
    by : (b : Bool) → length (cond b (longer p m) []) ≤ 5
    by true =
        let same = length-map (next_rels p m) (λ rel. m ++ rel ∷ []) in
        let few = filter_within (has (allowed p (pair_at p (length m)))) all_rels in
        omega arith
    by false = omega arith

pub level_within : (p : Problem) (nodes : List (List Rel)) → length (flat_map (followers p) nodes) ≤ 5 * length nodes
level_within p [] = omega arith
level_within p (m ∷ nodes) =
    let long = length-append (followers p m) (flat_map (followers p) nodes) in
    let first = five_follow p m in
    let rest = level_within p nodes in
    omega arith

-- the nodes of a length have it
pub level_long : (p : Problem) (d : ℕ) (nodes : List (List Rel)) (k : ℕ) (m : List Rel) → nodes ≡ level_by_trial p d → d < pair_count p → k < length nodes →
    m ≡ get_or nodes k m → length m ≡ d
level_long p d nodes k m are short within is =
    let level : IsLevel p d nodes = subst (IsLevel p d) (sym are) (is_level p d (omega arith)) in
    (in_level p d nodes level m (subst (λ t. In t nodes) (sym is) (In-get_or nodes k m within))).1

-- those that follow one node more
pub level_more : (p : Problem) (nodes before after : List (List Rel)) (k : ℕ) (m : List Rel) → k < length nodes → m ≡ get_or nodes k m →
    before ≡ flat_map (followers p) (take k nodes) → after ≡ before ++ followers p m → after ≡ flat_map (followers p) (take (k + 1) nodes)
level_more p nodes before after k m within is old new =
    let one : flat_map (followers p) (m ∷ []) ≡ followers p m = append-nil (followers p m) in
    let list : take (k + 1) nodes ≡ take k nodes ++ m ∷ [] = take_more nodes k m within ∙ ap (λ t. take k nodes ++ t ∷ []) (sym is) in
    new ∙ (λ i. old i ++ sym one i) ∙ sym (flat_map-append (followers p) (take k nodes) (m ∷ [])) ∙ ap (flat_map (followers p)) (sym list)
