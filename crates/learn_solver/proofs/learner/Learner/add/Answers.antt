use Rattle.std.proofs.Common.{◌≡◌, ◌∙◌, [], ◌∷◌, ◌++◌, length, sym, ap, subst, arith}
use Rattle.clause_arena.specs.Records.{new_record}
use Rattle.watch_arena.specs.Trails.{TrailState, SameRecords, Adds}
use Rattle.learn_solver.specs.declared.learner.Learner.{Learner}
use Rattle.learn_solver.specs.Learners.{guide_of}
use Rattle.learn_solver.proofs.AssumptionsInvariant.{guide-same}
use Rattle.learn_solver.proofs.Givens.{given-count, IsLearner-given, AddsGiven-added}
use Rattle.learn_solver.proofs.learner.Learner.add.Goals as goal

pub backtrack-requires-clause-sound : goal.backtrack-requires-clause-sound
backtrack-requires-clause-sound c =
    let noted = c.note_variables.ensures in
    let same = noted.same in
    let adds : Adds c.args.self.now.trail c.note_variables.new.self.trail c.args.lits.now c.in_ok-id.id =
    subst (λ (t : TrailState). Adds c.args.self.now.trail t c.args.lits.now c.in_ok-id.id) (sym (ap (λ (l : Learner). l.trail) same)) c.in_ok-add.ensures.ok in
    let count : c.note_variables.new.self.given ≡ length c.note_variables.new.self.trail.records =
    ap (λ (l : Learner). l.given) same ∙ c.count-self.ensures ∙ ap length c.arena.ensures ∙ ap (λ (l : Learner). length l.trail.records) (sym same) in
    IsLearner-given c.args.self.now c.note_variables.new.self c.args.lits.now c.in_ok-id.id c.requires.sound c.requires.first c.in_ok-id.ensures (let top = c.max-self.ensures in let last = ap (λ (l : Learner). l.last) same in omega arith) (let top = c.max-self.ensures in let last = ap (λ (l : Learner). l.last) same in omega arith) adds count
    (ap (λ (l : Learner). l.waiting.items) same) (ap (λ (l : Learner). l.variables) same) (ap (λ (l : Learner). l.analyzer) same) noted.count noted.kept noted.noted
    (ap (λ (l : Learner). guide_of l) same ∙ guide-same c.args.self.now.trail c.add.new.self c.args.self.now.assumptions c.in_ok-add.ensures.ok.places c.in_ok-add.ensures.ok.level)

pub returns-clause-id : goal.returns-clause-id
returns-clause-id c =
    let enough = c.requires.sound.records.enough in
    let count = given-count c.args.self.now.trail.records c.args.self.now.given enough in
    let id = c.in_ok-id.ensures in
    omega arith

pub returns-clause-ok : goal.returns-clause-ok
returns-clause-ok c =
    let back = c.backtrack.ensures.back in
    let same = c.note_variables.ensures.same in
    let trail : c.note_variables.new.self.trail ≡ c.add.new.self = ap (λ (l : Learner). l.trail) same in
    let records : c.backtrack.new.self.trail.records ≡ c.add.new.self.records = ap (λ (l : Learner). l.trail.records) back ∙ ap (λ (t : TrailState). t.records) trail in
    let added : SameRecords (c.args.self.now.trail.records ++ new_record c.in_ok-id.id c.args.lits.now ∷ []) c.backtrack.new.self.trail.records =
    subst (SameRecords (c.args.self.now.trail.records ++ new_record c.in_ok-id.id c.args.lits.now ∷ [])) (sym records) c.in_ok-add.ensures.ok.records in
    let variables : c.backtrack.new.self.trail.variables ≡ c.args.self.now.trail.variables =
    ap (λ (l : Learner). l.trail.variables) back ∙ ap (λ (t : TrailState). t.variables) trail ∙ c.in_ok-add.ensures.ok.variables in
    let count : c.backtrack.new.self.given ≡ length c.backtrack.new.self.trail.records =
    ap (λ (l : Learner). l.given) back ∙ ap (λ (l : Learner). l.given) same ∙ c.count-self.ensures ∙ ap length c.arena.ensures ∙ ap length (sym records) in
    AddsGiven-added c.args.self.now c.backtrack.new.self c.args.lits.now c.in_ok-id.id c.requires.sound c.requires.first added variables count (ap (λ (l : Learner). l.waiting.items) back ∙ ap (λ (l : Learner). l.waiting.items) same)
