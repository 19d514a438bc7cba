-- What a log tells keeps up with the walk.
use Rattle.std.proofs.Common.{◌≡◌, ◌<◌, ◌⊎◌, Bool, true, false, not, inl, inr, List, [], ◌∷◌, ◌++◌, map, length, Option, Some, None, Result, Ok, Err, OnOk, OnErr, refl, sym, ap, ◌∙◌, subst, IsTrue}
use Rattle.std.specs.Prelude.{is_some, ◌↔◌}
use Rattle.std.specs.Result.{IsErrAnd}
use Rattle.rcc5_core.specs.declared.Rel.{Rel}
use Rattle.rcc5_core.specs.declared.RelSet.{RelSet}
use Rattle.rcc5_core.specs.RelationSet.{has}
use Rattle.std.proofs.lemmas.Bool.{true≢false}
use Rattle.world_model.specs.Problem.{Problem, pair_count}
use Rattle.world_model.specs.Listing.{is_below}
use Rattle.world_model.specs.Alive.{allowed, problem_at, IsAlive}
use Rattle.world_model.specs.Node.{IsNode, pair_at}
use Rattle.point_query.specs.Asking.{AskerState, AskerGoes}
use Rattle.cert_text.specs.declared.line.CertLine.{CertLine}
use Rattle.cert_text.specs.declared.line.CertLine.TheVariants.{Proof}
use Rattle.cert_text.specs.Logs.{Told, IsToldWith}
use Rattle.cert_rules.specs.Trees.{is_branch}
use Rattle.cert_rules.specs.Listings.{listing_next}
use Rattle.cert_rules.specs.ShownNodes.{Branches, IsFirstOf}
use Rattle.cert_rules.specs.Writing.{ToldKeepsUp, TellsOf}
use Rattle.cert_rules.proofs.Told.{told_stays_up_law}
use Rattle.cert_rules.proofs.Writing.{put_keeps_up_law}
use Rattle.cert_rules.proofs.NextNodes.{expected_is_next_law}
use Rattle.cert_rules.proofs.OnTheWay.{walked_is_next_law}
use Rattle.search_log.specs.declared.fault.StepFault.{StepFault}
use Rattle.world_search.specs.declared.walk.Stage.{Stage}
use Rattle.world_search.specs.declared.walk.Stage.TheVariants.{Start, Standing, Past}
use Rattle.world_search.specs.declared.walk.Walk.{Walk}
use Rattle.world_search.specs.Walking.{place, LeadsBy, IsAfter, IsFrom, IsOnWay, IsOpenOrDead, expects_by, expected}
use Rattle.world_model.proofs.Nodes.{child_within}
use Rattle.world_search.proofs.Leading.{place_settled}
use Rattle.search_log.specs.Logging.{next_if, NoneTold, IsFlushed, AddsLines, AreToldWith}
use Rattle.world_search.specs.Logging.{KeepsOn, IsInnerOrDead}

-- the node that comes next in a listing is the one to which the walk leads
first_of_leads : (p : Problem) (K : List Rel → Type 0) (n : List Rel) (stage : Stage) → LeadsBy p K n stage → IsFirstOf p K (expects_by n stage)
first_of_leads p K n Start leads = absurd leads
first_of_leads p K n Standing leads = record { node = leads.node; kind = leads.kind; least = leads.least }
first_of_leads p K n Past leads = leads

pub next_standing : (p : Problem) (from m n : List Rel) (stage : Stage) (branches : Bool) → IsNode p m → IsTrue (not (is_below m from)) → Branches p m branches →
    LeadsBy p (IsAfter m) n stage → listing_next p from branches m ≡ expects_by n stage
next_standing p from m n stage branches node from_there may leads =
    expected_is_next_law.one p from m (listing_next p from branches m) (expects_by n stage)
    (expected_is_next_law.next p from m branches (node, (expected_is_next_law.shown from m).1 (inr from_there)) may)
    (walked_is_next_law.standing p from m (expects_by n stage) from_there (first_of_leads p (IsAfter m) n stage leads))

pub next_on_way : (p : Problem) (from c : List Rel) (r : Rel) (rest : List Rel) (branches : Bool) → from ≡ c ++ r ∷ rest → IsNode p c → Branches p c branches →
    IsNode p (c ++ r ∷ []) → listing_next p from branches c ≡ Some (c ++ r ∷ [])
next_on_way p from c r rest branches begins node may child =
    ap (λ from. listing_next p from branches c) begins
    ∙ expected_is_next_law.one p (c ++ r ∷ rest) c (listing_next p (c ++ r ∷ rest) branches c) (Some (c ++ r ∷ []))
    (expected_is_next_law.next p (c ++ r ∷ rest) c branches (node, (expected_is_next_law.shown (c ++ r ∷ rest) c).1 (inl (r ∷ rest, refl))) may)
    (walked_is_next_law.on_the_way p c r rest child)

pub next_off_way : (p : Problem) (from c : List Rel) (r : Rel) (rest n : List Rel) (stage : Stage) (branches : Bool) → from ≡ c ++ r ∷ rest → IsNode p c → Branches p c branches →
    (IsNode p (c ++ r ∷ []) → ⊥) → LeadsBy p (IsFrom from) n stage → listing_next p from branches c ≡ expects_by n stage
next_off_way p from c r rest n stage branches begins node may none leads =
    let there : LeadsBy p (IsFrom (c ++ r ∷ rest)) n stage = subst (λ from. LeadsBy p (IsFrom from) n stage) begins leads in
    ap (λ from. listing_next p from branches c) begins
    ∙ expected_is_next_law.one p (c ++ r ∷ rest) c (listing_next p (c ++ r ∷ rest) branches c) (expects_by n stage)
    (expected_is_next_law.next p (c ++ r ∷ rest) c branches (node, (expected_is_next_law.shown (c ++ r ∷ rest) c).1 (inl (r ∷ rest, refl))) may)
    (walked_is_next_law.off_the_way p c r rest (expects_by n stage) none (first_of_leads p (IsFrom (c ++ r ∷ rest)) n stage there))

-- an inner node branches, and a dead one does not
pub inner_branches : (p : Problem) (m : List Rel) (branches : Bool) → IsInnerOrDead p m branches → Branches p m branches
inner_branches p m true is = is
inner_branches p m false dead = inl dead

-- what is told keeps up: with an asker as it is, or that went on; where nothing is told; and over two calls
pub keeps_same : (p : Problem) (from : List Rel) (told : Told) (one : AskerState) (at next : Option (List Rel)) → next ≡ at → KeepsOn p from told told one one at next
keeps_same p from told one at next same lines is keeps =
    subst (λ next. ToldKeepsUp p from told one.solver.waiting one.solver.state next) (sym same)
    (subst (λ told. ToldKeepsUp p from told one.solver.waiting one.solver.state at) (sym is) keeps)

pub keeps_goes : (p : Problem) (from : List Rel) (told : Told) (one other : AskerState) (at : Option (List Rel)) → AskerGoes one other → KeepsOn p from told told one other at at
keeps_goes p from told one other at goes lines is keeps =
    subst (λ waiting. ToldKeepsUp p from told waiting other.solver.state at) (sym goes.solver.waits)
    (told_stays_up_law.goes p from told one.solver.waiting goes.solver.added one.solver.state other.solver.state at
    (subst (λ told. ToldKeepsUp p from told one.solver.waiting one.solver.state at) (sym is) keeps) goes.solver.leads.valid goes.solver.leads.after)

pub keeps_untold : (p : Problem) (from : List Rel) (old new : Told) (one other : AskerState) (at next : Option (List Rel)) → old ≡ None → KeepsOn p from old new one other at next
keeps_untold p from old new one other at next none lines is keeps = let no : None ≡ Some lines = sym none ∙ is in absurd (cc)

pub keeps_refused : (p : Problem) (from : List Rel) (old new : Told) (one other : AskerState) (at next : Option (List Rel)) → new ≡ None → KeepsOn p from old new one other at next
keeps_refused p from old new one other at next none lines is keeps =
    subst (λ told. ToldKeepsUp p from told other.solver.waiting other.solver.state next) (sym none) tt

pub keeps_joins : (p : Problem) (from : List Rel) (a b c : Told) (one two three : AskerState) (at mid next : Option (List Rel)) → AddsLines a b →
    KeepsOn p from a b one two at mid → KeepsOn p from b c two three mid next → KeepsOn p from a c one three at next
keeps_joins p from a b c one two three at mid next adds first second lines is keeps =
    let added : AddsLines (Some lines) b = subst (λ a. AddsLines a b) is adds in
    second (lines ++ added.0) added.1
    (subst (λ told. ToldKeepsUp p from told two.solver.waiting two.solver.state mid) added.1 (first lines is keeps))

-- with the waiting lines put
pub keeps_flushed : (p : Problem) (from : List Rel) (old new : Told) (one other : AskerState) (at : Option (List Rel)) → other.solver.state ≡ one.solver.state → other.solver.waiting ≡ [] →
    AreToldWith old (map Proof one.solver.waiting) new → KeepsOn p from old new one other at at
keeps_flushed p from old new one other at state none told lines is keeps =
    let now : new ≡ Some (lines ++ map Proof one.solver.waiting) = subst (λ old. AreToldWith old (map Proof one.solver.waiting) new) is told in
    let begins = keeps.begins in
    let up : ToldKeepsUp p from (Some (lines ++ map Proof one.solver.waiting)) [] one.solver.state at = record {
      lines = keeps.lines ++ map Proof one.solver.waiting;
      begins = ap (λ told. told ++ map Proof one.solver.waiting) begins;
      keeps_up = put_keeps_up_law.flushed p from keeps.lines one.solver.waiting one.solver.state at keeps.keeps_up;
    } in
    subst (λ told. ToldKeepsUp p from told other.solver.waiting other.solver.state at) (sym now)
    (subst (λ waiting. ToldKeepsUp p from (Some (lines ++ map Proof one.solver.waiting)) waiting other.solver.state at) (sym none)
    (subst (λ state. ToldKeepsUp p from (Some (lines ++ map Proof one.solver.waiting)) [] state at) (sym state) up))

-- with the line of the expected node put
pub keeps_put : (p : Problem) (from : List Rel) (old new : Told) (one : AskerState) (m : List Rel) (line : CertLine) → one.solver.waiting ≡ [] → TellsOf p one.solver.state m line →
    IsToldWith old line new → KeepsOn p from old new one one (Some m) (listing_next p from (is_branch line) m)
keeps_put p from old new one m line none tells told lines is keeps =
    let next = listing_next p from (is_branch line) m in
    let now : new ≡ Some (lines ++ line ∷ []) = subst (λ old. IsToldWith old line new) is told in
    let before : ToldKeepsUp p from (Some lines) [] one.solver.state (Some m) = subst (λ waiting. ToldKeepsUp p from (Some lines) waiting one.solver.state (Some m)) none keeps in
    subst (λ told. ToldKeepsUp p from told one.solver.waiting one.solver.state next) (sym now)
    (subst (λ waiting. ToldKeepsUp p from (Some (lines ++ line ∷ [])) waiting one.solver.state next) (sym none)
    (told_stays_up_law.put p from (Some lines) one.solver.state m line before tells))

-- a relation that the pair after a prefix lacks leads to no node, nor does any from a dead prefix
pub lacks_no_node : (p : Problem) (c : List Rel) (r : Rel) → has (allowed p (pair_at p (length c))) r ≡ false → IsNode p (c ++ r ∷ []) → ⊥
lacks_no_node p c r lacks node = true≢false (sym (child_within p c r [] node).allows ∙ lacks)

pub dead_no_node : (p : Problem) (c : List Rel) (r : Rel) → (IsAlive (problem_at p c) → ⊥) → IsNode p (c ++ r ∷ []) → ⊥
dead_no_node p c r dead node = dead (child_within p c r [] node).alive

-- a walk on the way expects the line of its path
pub way_expected : (p : Problem) (from : List Rel) (w : Walk) → IsOnWay p from w → w.next ≡ None → expected w ≡ Some w.path
way_expected p from w way none = ap (expects_by (place w)) way.begun ∙ ap (λ m. Some m) (place_settled w none)

pub keeps_ends : (p : Problem) (from : List Rel) (old new : Told) (one other : AskerState) (at here next last : Option (List Rel)) → at ≡ here → last ≡ next →
    KeepsOn p from old new one other here next → KeepsOn p from old new one other at last
keeps_ends p from old new one other at here next last same end k = subst (KeepsOn p from old new one other at) (sym end) (subst (λ at. KeepsOn p from old new one other at next) (sym same) k)

-- an asker that went on, and then what a call put
pub keeps_after : (p : Problem) (from : List Rel) (old new : Told) (one two three : AskerState) (at next : Option (List Rel)) → AskerGoes one two →
    KeepsOn p from old new two three at next → KeepsOn p from old new one three at next
keeps_after p from old new one two three at next goes k lines is keeps = k lines is (keeps_goes p from (Some lines) one two at goes lines refl keeps)

-- what a call put, and then an asker that went on
pub keeps_before : (p : Problem) (from : List Rel) (old new : Told) (one two three : AskerState) (at next : Option (List Rel)) →
    KeepsOn p from old new one two at next → AskerGoes two three → KeepsOn p from old new one three at next
keeps_before p from old new one two three at next k goes lines is keeps =
    by new (k lines is keeps)
  where
    by : (told : Told) → ToldKeepsUp p from told two.solver.waiting two.solver.state next → ToldKeepsUp p from told three.solver.waiting three.solver.state next
    by None up = tt
    by (Some told) up = keeps_goes p from (Some told) two three next goes told refl up

-- after an error the node that was next is still next
pub keeps_err : {T : Type 0} (Q : StepFault → Type 0) (r : Result T StepFault) (p : Problem) (from : List Rel) (old new : Told) (one other : AskerState) (at next : Option (List Rel)) → IsErrAnd r Q →
    KeepsOn p from old new one other at at → KeepsOn p from old new one other at (next_if r next at)
keeps_err Q (Ok v) p from old new one other at next h k = absurd h
keeps_err Q (Err f) p from old new one other at next h k = k

-- what is put behind the waiting lines: one line, at the node of which it tells
pub keeps_put_if : {T : Type 0} (r : Result T StepFault) (p : Problem) (from : List Rel) (old new : Told) (one : AskerState) (m : List Rel) (line : CertLine) → one.solver.waiting ≡ [] →
    TellsOf p one.solver.state m line → OnOk r (IsToldWith old line new) → OnErr r (new ≡ None) →
    KeepsOn p from old new one one (Some m) (next_if r (listing_next p from (is_branch line) m) (Some m))
keeps_put_if (Ok v) p from old new one m line none tells told err = keeps_put p from old new one m line none tells told
keeps_put_if (Err e) p from old new one m line none tells told err = keeps_refused p from old new one one (Some m) (Some m) err

-- the waiting lines, all of them or none that is told
pub keeps_flushed_if : {T : Type 0} (r : Result T StepFault) (p : Problem) (from : List Rel) (old new : Told) (one other : AskerState) (at : Option (List Rel)) →
    other.solver.state ≡ one.solver.state → IsFlushed r old new one other → KeepsOn p from old new one other at at
keeps_flushed_if (Ok v) p from old new one other at state flushed = keeps_flushed p from old new one other at state flushed.ok.none_waits flushed.ok.told
keeps_flushed_if (Err e) p from old new one other at state flushed = by flushed.err
  where
    by : (new ≡ None) ⊎ NoneTold old new one other → KeepsOn p from old new one other at at
    by (inl none) = keeps_refused p from old new one other at at none
    by (inr same) = λ lines is keeps.
        subst (λ told. ToldKeepsUp p from told other.solver.waiting other.solver.state at) (sym (same.told ∙ is))
        (subst (λ waiting. ToldKeepsUp p from (Some lines) waiting other.solver.state at) (sym same.waits)
        (subst (λ state. ToldKeepsUp p from (Some lines) one.solver.waiting state at) (sym state) keeps))

-- a set that is known makes a node an inner one
pub open_inner : (p : Problem) (m : List Rel) (set : Option RelSet) → IsOpenOrDead p m set → IsInnerOrDead p m (is_some set)
open_inner p m None dead = dead
open_inner p m (Some set) is = (is.0, is.1)

-- whether a short node is alive makes it an inner one or a dead one
pub inner_by : (p : Problem) (m : List Rel) (alive : Bool) → IsTrue alive ↔ IsAlive (problem_at p m) → length m < pair_count p → IsInnerOrDead p m alive
inner_by p m true is short = (is.0 refl, short)
inner_by p m false is short = λ alive. true≢false (sym (is.1 alive))
