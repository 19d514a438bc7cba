use Rattle.std.proofs.Common.{ℕ, ◌≡◌, ◌∙◌, ◌+◌, Bool, true, false, eqb, Option, Some, None, refl, sym, ap, subst, arith}
use Rattle.std.specs.Prelude.{Result, Ok, Err, OnOk, OnErr, not, is_none, is_some, is_ok}
use Rattle.std.proofs.lemmas.Bool.{true≢false, eqb-true}
use Rattle.watch_arena.specs.Places.{place_at, is_assumed, is_true}
use Rattle.watch_arena.specs.Trails.{TrailState, places_up_to}
use Rattle.learn_solver.specs.Guides.{AssumptionsState, IsMarked, by_trail, begun}
use Rattle.learn_solver.proofs.Cuts.{true-up_to}
use Rattle.learn_solver.proofs.AssumptionsInvariant.{IsMarked-begun}
use Rattle.learn_solver.proofs.learner.Learner.follows.Goals as goal

not_differs : (a b : Bool) → a ≡ not b → a ≡ false → b ≡ true
not_differs a true e off = refl
not_differs a false e off = absurd (true≢false (sym e ∙ off))

none-told : (o : Option ℕ) → is_some o ≡ false → is_none o ≡ true
none-told None off = refl
none-told (Some at) off = absurd (true≢false off)

-- whether or not the level was noted
marked-either : {T E : Type 0} (r : Result T E) (t : TrailState) (old new : AssumptionsState) → OnOk r (new ≡ begun old) → OnErr r (new ≡ old) → IsMarked (by_trail t (begun old)) → IsMarked (by_trail t old) → IsMarked (by_trail t new)
marked-either (Ok u) t old new ok err more same = subst (λ (a : AssumptionsState). IsMarked (by_trail t a)) (sym ok) more
marked-either (Err e) t old new ok err more same = subst (λ (a : AssumptionsState). IsMarked (by_trail t a)) (sym err) same

kept-either : {T E : Type 0} (r : Result T E) (old new : AssumptionsState) → OnOk r (new ≡ begun old) → OnErr r (new ≡ old) → (new.lits ≡ old.lits) × (new.holding ≡ old.holding)
kept-either (Ok u) old new ok err = (ap (λ (a : AssumptionsState). a.lits) ok, ap (λ (a : AssumptionsState). a.holding) ok)
kept-either (Err e) old new ok err = (ap (λ (a : AssumptionsState). a.lits) err, ap (λ (a : AssumptionsState). a.holding) err)

-- what a good result tells
when-ok : {T E : Type 0} (r : Result T E) (P : Type 0) → OnOk r P → is_ok r ≡ true → P
when-ok (Ok u) P h on = h
when-ok (Err e) P h on = absurd (true≢false (sym on))

pub returns-then-level-guided-clause-followed : goal.returns-then-level-guided-clause-followed
returns-then-level-guided-clause-followed c = λ on.
    let low = c.if-level-guided.true in
    let level = c.level_on-level.ensures in
    let all = c.guided-guided.ensures in
    let same = eqb-true c.lit_on.result c.args.lit (not_differs c.ne.result (eqb c.lit_on.result c.args.lit) c.ne.ensures c.if-ne.false) in
    true-up_to c.args.self.now.trail c.in-Some.place c.args.lit c.args.self.now.assumptions.guided c.facts.ensures c.in-Some.ensures.within.0 (sym c.lit_on.ensures ∙ same) (omega arith)

pub returns-then-is_none-clause-marked : goal.returns-then-is_none-clause-marked
returns-then-is_none-clause-marked c =
    let t = c.args.self.now.trail in
    let high = c.if-level-guided.false in
    let next = c.if-next.true in
    let level = c.level_on-level.ensures in
    let all = c.guided-guided.ensures in
    let same = eqb-true c.lit_on.result c.args.lit (not_differs c.ne.result (eqb c.lit_on.result c.args.lit) c.ne.ensures c.if-ne.false) in
    let none : is_assumed (place_at c.args.self.now.trail.places c.in-Some.place) ≡ true = ap is_none (sym c.reason_on.ensures) ∙ none-told c.reason_on.result c.if-is_none.ensures in
    marked-either c.begin.result c.args.self.now.trail c.args.self.now.assumptions c.begin.new.self c.begin.ensures.ok c.begin.ensures.err
    (IsMarked-begun c.args.self.now.trail c.args.self.now.assumptions c.in-Some.place c.facts.ensures c.requires.marked c.in-Some.ensures.within.0 none (omega arith) (sym c.lit_on.ensures ∙ same ∙ c.requires.next.at) c.requires.next.within)
    c.requires.marked

pub returns-then-is_none-clause-lits : goal.returns-then-is_none-clause-lits
returns-then-is_none-clause-lits c = (kept-either c.begin.result c.args.self.now.assumptions c.begin.new.self c.begin.ensures.ok c.begin.ensures.err).0

pub returns-then-is_none-clause-holding : goal.returns-then-is_none-clause-holding
returns-then-is_none-clause-holding c = (kept-either c.begin.result c.args.self.now.assumptions c.begin.new.self c.begin.ensures.ok c.begin.ensures.err).1

pub returns-then-is_none-clause-followed : goal.returns-then-is_none-clause-followed
returns-then-is_none-clause-followed c = λ on.
    let high = c.if-level-guided.false in
    let next = c.if-next.true in
    let level = c.level_on-level.ensures in
    let all = c.guided-guided.ensures in
    let same = eqb-true c.lit_on.result c.args.lit (not_differs c.ne.result (eqb c.lit_on.result c.args.lit) c.ne.ensures c.if-ne.false) in
    ap (λ (a : AssumptionsState). is_true (places_up_to c.args.self.now.trail.places a.guided) c.args.lit) (when-ok c.begin.result (c.begin.new.self ≡ begun c.args.self.now.assumptions) c.begin.ensures.ok (sym c.is_ok.ensures.value ∙ on))
    ∙ true-up_to c.args.self.now.trail c.in-Some.place c.args.lit (c.args.self.now.assumptions.guided + 1) c.facts.ensures c.in-Some.ensures.within.0 (sym c.lit_on.ensures ∙ same) (omega arith)
