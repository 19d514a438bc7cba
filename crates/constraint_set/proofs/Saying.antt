-- What statements say of pairs, one after another.
use Rattle.std.proofs.Common.{◌≡◌, ℕ, ◌+◌, ◌<◌, Bool, true, false, cond, eqb, List, [], ◌∷◌, ◌++◌, map, length, take, get_or, replicate, Option, None, Some, inl, inr, refl, sym, ap, ◌∙◌, subst, arith}
use Rattle.std.specs.Prelude.{if◌then◌else◌, nat_eq, IsTrue}
use Rattle.std.specs.List.{cons_option}
use Rattle.std.specs.Map.{lookup}
use Rattle.std.specs.Option.{option_to_list, unwrap_or}
use Rattle.std.proofs.lemmas.Bool.{eq-eqb, eqb-true, cases_eq, false_from_ne_true, true≢false}
use Rattle.std.proofs.lemmas.List.{take_more, append-nil, length-map, length-take-le}
use Rattle.rcc5_core.specs.declared.RelSet.{RelSet}
use Rattle.rcc5_core.specs.RelationSet.{both_of, every_rel}
use Rattle.world_model.specs.declared.Articulation.{Articulation}
use Rattle.world_model.specs.Problem.{Problem, Constraint, pair_count, as_constraint, narrowed}
use Rattle.world_model.specs.Alive.{is_about, meet_of, said_of}
use Rattle.world_model.specs.Node.{pair_at}
use Rattle.world_model.proofs.PointOnce.{both_of_every, said_of-append}
use Rattle.world_model.proofs.PointWhole.{about_is, about_from}
use Rattle.constraint_set.specs.Sets.{set_at, mark_of, Narrows, AreMarked, AreSets, Says, said_if, kept_statements, IsState}
use Rattle.constraint_set.specs.Shape.{with_state}

-- one statement, on a pair that it is about and on another
said_mine : (pair : ℕ × ℕ) (c : Constraint) → is_about pair c ≡ true → said_of pair (c ∷ []) ≡ c.set
said_mine pair c h = ap (λ b. meet_of (map (λ c. c.set) (cond b (c ∷ []) []))) h ∙ both_of_every c.set

said_other : (pair : ℕ × ℕ) (c : Constraint) → is_about pair c ≡ false → said_of pair (c ∷ []) ≡ every_rel
said_other pair c h = ap (λ b. meet_of (map (λ c. c.set) (cond b (c ∷ []) []))) h

-- meeting the set of the one pair that a statement is about makes the sets those of one more statement
pub says_from_narrows : (p : Problem) (old new : List (ℕ × RelSet)) (pair : ℕ) (c : Constraint) → pair_at p pair ≡ (c.left, c.right) →
    ((k : ℕ) → k < pair_count p → pair_at p k ≡ (c.left, c.right) → k ≡ pair) → Narrows old new pair c.set → Says p old new (c ∷ [])
says_from_narrows p old new pair c at only narrows = record { after = λ statements sets. record { each = λ k within. step statements sets k within } }
  where
    step : (statements : List Constraint) → AreSets p statements old → (k : ℕ) → k < pair_count p → set_at new k ≡ said_of (pair_at p k) (statements ++ c ∷ [])
    step statements sets k within = elim (cases_eq k pair) [
      | inl same ↦
          let mine : is_about (pair_at p k) c ≡ true = about_from (pair_at p k) c (sym (ap (λ q. q.0) (ap (pair_at p) same ∙ at))) (sym (ap (λ q. q.1) (ap (pair_at p) same ∙ at))) in
          narrows k ∙ ap (λ b. if b then both_of (set_at old pair) c.set else set_at old k) (eq-eqb k pair same)
          ∙ ap (λ m. both_of (set_at old m) c.set) (sym same)
          ∙ ap (λ s. both_of s c.set) (sets.each k within)
          ∙ ap (both_of (said_of (pair_at p k) statements)) (sym (said_mine (pair_at p k) c mine))
          ∙ sym (said_of-append (pair_at p k) statements (c ∷ []))
      | inr other ↦
          let not_mine : is_about (pair_at p k) c ≡ false = false_from_ne_true (is_about (pair_at p k) c) (λ mine.
          let parts = about_is (pair_at p k) c mine in
          other (only k within (same_pair (pair_at p k) c.left c.right (sym parts.0) (sym parts.1)))) in
          narrows k ∙ ap (λ b. if b then both_of (set_at old pair) c.set else set_at old k) (false_from_ne_true (eqb k pair) (λ t. other (eqb-true k pair t)))
          ∙ sets.each k within
          ∙ sym (both_of_every (said_of (pair_at p k) statements))
          ∙ ap (both_of (said_of (pair_at p k) statements)) (sym (said_other (pair_at p k) c not_mine))
          ∙ sym (said_of-append (pair_at p k) statements (c ∷ []))
    ]
      where
        same_pair : (q : ℕ × ℕ) (l r : ℕ) → q.0 ≡ l → q.1 ≡ r → q ≡ (l, r)
        same_pair q l r e f = ap (λ x. (x, q.1)) e ∙ ap (λ y. (l, y)) f

-- the set of one pair met with another is put in the place of what was there
pub put_narrows : (old new : List (ℕ × RelSet)) (pair : ℕ) (set met : RelSet) → met ≡ both_of (set_at old pair) set →
    ((k : ℕ) → lookup (nat_eq k) new ≡ cond (nat_eq pair k) (Some met) (lookup (nat_eq k) old)) → Narrows old new pair set
put_narrows old new pair set met is puts k = ap (λ found. unwrap_or found every_rel) (puts k) ∙ elim (cases_eq k pair) [
  | inl same ↦
      ap (λ b. unwrap_or (cond b (Some met) (lookup (nat_eq k) old)) every_rel) (eq-eqb pair k (sym same)) ∙ is ∙
      sym (ap (λ b. if b then both_of (set_at old pair) set else set_at old k) (eq-eqb k pair same))
  | inr other ↦
      ap (λ b. unwrap_or (cond b (Some met) (lookup (nat_eq k) old)) every_rel) (false_from_ne_true (eqb pair k) (λ t. other (sym (eqb-true pair k t)))) ∙
      sym (ap (λ b. if b then both_of (set_at old pair) set else set_at old k) (false_from_ne_true (eqb k pair) (λ t. other (eqb-true k pair t))))
]

-- more marks serve as well
pub more_marks : (sets : List (ℕ × RelSet)) (marks more : List Bool) → ((k : ℕ) → IsTrue (mark_of marks k) → IsTrue (mark_of more k)) → AreMarked sets marks → AreMarked sets more
more_marks sets marks more stay marked k none = marked k (false_from_ne_true (mark_of marks k) (λ t. true≢false (sym (stay k t) ∙ none)))

kept_push : (flags : List Bool) (arts : List Articulation) (b : Bool) (a : Articulation) → length flags ≡ length arts →
    kept_statements (flags ++ b ∷ []) (arts ++ a ∷ []) ≡ kept_statements flags arts ++ said_if b a
kept_push [] [] true a e = one (as_constraint a)
  where
    one : (o : Option Constraint) → cons_option o [] ≡ option_to_list o
    one None = refl
    one (Some c) = refl
kept_push [] [] false a e = refl
kept_push [] (x ∷ arts) b a e = absurd (cc)
kept_push (f ∷ flags) [] b a e = absurd (cc)
kept_push (true ∷ flags) (x ∷ arts) b a e = more (as_constraint x) (kept_push flags arts b a (omega (arith, e)))
  where
    more : (o : Option Constraint) → kept_statements (flags ++ b ∷ []) (arts ++ a ∷ []) ≡ kept_statements flags arts ++ said_if b a →
        cons_option o (kept_statements (flags ++ b ∷ []) (arts ++ a ∷ [])) ≡ cons_option o (kept_statements flags arts) ++ said_if b a
    more None h = h
    more (Some c) h = ap (λ l. c ∷ l) h
kept_push (false ∷ flags) (x ∷ arts) b a e = kept_push flags arts b a (omega (arith, e))

-- one more articulation, with its flag
pub more_articulations : (p : Problem) (flags : List Bool) (arts : List Articulation) (i : ℕ) (old new : List (ℕ × RelSet)) (a : Articulation) → i < length arts → length flags ≡ length arts →
    a ≡ get_or arts i a → AreSets p (kept_statements (take i flags) (take i arts)) old → Says p old new (said_if (get_or flags i false) a) →
    AreSets p (kept_statements (take (i + 1) flags) (take (i + 1) arts)) new
more_articulations p flags arts i old new a within counted is sets says =
    let e : take (i + 1) flags ≡ take i flags ++ get_or flags i false ∷ [] = take_more flags i false (omega (arith, counted)) in
    let f : take (i + 1) arts ≡ take i arts ++ a ∷ [] = take_more arts i a within ∙ ap (λ x. take i arts ++ x ∷ []) (sym is) in
    let same : length (take i flags) ≡ length (take i arts) = length-take-le i flags (omega (arith, counted)) ∙ sym (length-take-le i arts (omega arith)) in
    let g : kept_statements (take (i + 1) flags) (take (i + 1) arts) ≡ kept_statements (take i flags) (take i arts) ++ said_if (get_or flags i false) a =
    ap (λ l. kept_statements l (take (i + 1) arts)) e ∙ ap (λ l. kept_statements (take i flags ++ get_or flags i false ∷ []) l) f
    ∙ kept_push (take i flags) (take i arts) (get_or flags i false) a same in
    subst (λ cs. AreSets p cs new) (sym g) (says.after (kept_statements (take i flags) (take i arts)) sets)

-- nothing more is said
pub says_nothing : (p : Problem) (old new : List (ℕ × RelSet)) → new ≡ old → Says p old new []
says_nothing p old new same = record { after = λ statements sets. subst (λ cs. AreSets p cs new) (sym (append-nil statements)) (subst (AreSets p statements) (sym same) sets) }

-- what articulations and narrowings say together
pub both_said : (p : Problem) (stated narrowings : List Constraint) (kept_sets narrowed_sets : List (ℕ × RelSet)) (k : ℕ) → k < pair_count p →
    AreSets p stated kept_sets → AreSets p narrowings narrowed_sets → both_of (set_at kept_sets k) (set_at narrowed_sets k) ≡ said_of (pair_at p k) (stated ++ narrowings)
both_said p stated narrowings kept_sets narrowed_sets k within a b =
    ap (λ s. both_of s (set_at narrowed_sets k)) (a.each k within) ∙ ap (both_of (said_of (pair_at p k) stated)) (b.each k within) ∙ sym (said_of-append (pair_at p k) stated narrowings)

-- as many true flags as articulations
pub true_flags : (arts : List Articulation) (n : ℕ) (flags : List Bool) → flags ≡ replicate n true → n ≡ length arts → flags ≡ map (λ _. true) arts
true_flags arts n flags e f = e ∙ ap (λ m. replicate m true) f ∙ all arts
  where
    all : (arts : List Articulation) → replicate (length arts) true ≡ map (λ _. true) arts
    all [] = refl
    all (a ∷ arts) = ap (λ l. true ∷ l) (all arts)

-- the first state: all is kept, and nothing is narrowed
pub first_state : (shape : Problem) (flags : List Bool) (sets : List (ℕ × RelSet)) → flags ≡ map (λ _. true) shape.articulations →
    AreSets shape (kept_statements flags shape.articulations) sets → IsState shape flags sets [] []
first_state shape flags sets all said = record {
  flags_counted = ap length all ∙ length-map {B = Bool} shape.articulations (λ _. true);
  about_pairs = refl;
  kept_said = said;
  narrowed_said = record { each = λ k within. refl };
}

-- a state, by equal parts
pub same_state : (shape shape' : Problem) (flags flags' : List Bool) (kept kept' : List (ℕ × RelSet)) (narrowings narrowings' : List Constraint) (narrowed narrowed' : List (ℕ × RelSet)) →
    shape' ≡ shape → flags' ≡ flags → kept' ≡ kept → narrowings' ≡ narrowings → narrowed' ≡ narrowed →
    IsState shape flags kept narrowings narrowed → IsState shape' flags' kept' narrowings' narrowed'
same_state shape shape' flags flags' kept kept' narrowings narrowings' narrowed narrowed' a b c d e s = rw (a, b, c, d, e) s

-- a problem with one more narrowing, by equal parts
pub narrowed_is : (shape shape' : Problem) (flags flags' : List Bool) (narrowings longer : List Constraint) (pair q : ℕ × ℕ) (set : RelSet) →
    shape' ≡ shape → flags' ≡ flags → longer ≡ narrowings ++ record { left = q.0; right = q.1; set = set } ∷ [] → q ≡ pair →
    with_state shape' flags' longer ≡ narrowed (with_state shape flags narrowings) pair set
narrowed_is shape shape' flags flags' narrowings longer pair q set a b c d =
    let at : ℕ × ℕ → Constraint = λ r. record { left = r.0; right = r.1; set = set } in
    ap (λ s. with_state s flags' longer) a ∙ ap (λ f. with_state shape f longer) b ∙ ap (with_state shape flags) (c ∙ ap (λ r. narrowings ++ at r ∷ []) d)
