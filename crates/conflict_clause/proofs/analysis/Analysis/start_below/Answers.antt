use Rattle.std.proofs.Common.{◌≡◌, ◌∙◌, ℕ, ◌<◌, Bool, true, false, List, length, ◌∷◌, ◌++◌, [], set, refl, sym, ap, subst, inl, inr, get_or, arith}
use Rattle.std.specs.List.{Contains}
use Rattle.std.proofs.lemmas.List.{get_or-set_same}
use Rattle.std.proofs.lemmas.List.Elements.{Contains-push, Contains-push_cases}
use Rattle.lits_core.specs.Literals.{variable_of}
use Rattle.clause_arena.specs.Records.{record_at}
use Rattle.watch_arena.specs.Places.{place_at}
use Rattle.conflict_clause.proofs.SeenLits.{IsSeenList-same, reason-off}
use Rattle.conflict_clause.proofs.SearchEnds.{IsSearch-below, none_in}
use Rattle.conflict_clause.proofs.analysis.Analysis.start_below.Goals as goal

-- a variable that was marked is marked
entered : (old new : List Bool) (v w : ℕ) → new ≡ set old v true → v ≡ w → w < length old → get_or new w false ≡ true
entered old new v w is same lt = ap (λ (bs : List Bool). get_or bs w false) (is ∙ ap (λ (x : ℕ). set old x true) same) ∙ get_or-set_same old w true false lt

-- the only literal of a list
only_one : (lits : List ℕ) (lit other : ℕ) → lits ≡ [] → Contains (lits ++ lit ∷ []) other → other ≡ lit
only_one lits lit other empty has = elim (Contains-push_cases lits lit other has) [
  | inl before ↦ absurd (none_in lits other empty before)
  | inr same ↦ sym same
]

pub apply-requires-clause-off : goal.apply-requires-clause-off
apply-requires-clause-off c lit has =
    let size : length c.begin.new.self.marks ≡ c.args.trail.now.variables = ap length c.begin.ensures.marks ∙ c.requires.clear.size in
    let range = c.facts.ensures.places_in_range c.args.place c.requires.within in
    reason-off c.args.trail.now c.args.place c.args.at lit c.enter.new.self c.facts.ensures c.requires.within c.requires.reason
    (entered c.begin.new.self.marks c.enter.new.self.marks _ _ c.in_ok-enter.ensures.marks (c.variable.ensures.value ∙ ap variable_of c.lit_on-lit.ensures) (omega arith)) has

pub returns-clause-search : goal.returns-clause-search
returns-clause-search c =
    let own : Contains c.push.new.self.items c.lit_on-lit.result = subst (λ (xs : List ℕ). Contains xs c.lit_on-lit.result) (sym c.in_ok-push.ensures.items) (Contains-push c.enter.new.self.lits.items c.lit_on-lit.result) in
    IsSearch-below c.args.trail.now c.args.place c.args.at c.apply.new.self c.facts.ensures c.requires.within c.requires.reason c.in_ok-apply.ensures.looking c.in_ok-apply.ensures.seen
    (c.in_ok-apply.ensures.sees.kept (place_at c.args.trail.now.places c.args.place).lit (subst (λ (x : ℕ). Contains c.push.new.self.items x) c.lit_on-lit.ensures own))
    (c.in_ok-apply.ensures.hints ∙ ap (λ (hs : List ℕ). hs ++ (record_at c.args.trail.now.records c.args.at).id ∷ []) (c.enter.ensures.hints ∙ c.begin.ensures.hints))

pub returns-clause-only : goal.returns-clause-only
returns-clause-only c lit has =
    elim (c.in_ok-apply.ensures.sees.added lit has) [
      | inl before ↦
          only_one c.enter.new.self.lits.items c.lit_on-lit.result lit (c.enter.ensures.lits ∙ c.begin.ensures.lits) (subst (λ (xs : List ℕ). Contains xs lit) c.in_ok-push.ensures.items before)
          ∙ c.lit_on-lit.ensures
      | inr lower ↦ let none = lower.below in absurd (omega arith)
    ]

pub returns-in_err-enter-clause-seen_list : goal.returns-in_err-enter-clause-seen_list
returns-in_err-enter-clause-seen_list c =
    IsSeenList-same c.enter.new.self _ _ _ c.enter.ensures.seen_list refl refl (ap length c.begin.ensures.marks ∙ c.requires.clear.size)

pub returns-in_err-push-clause-seen_list : goal.returns-in_err-push-clause-seen_list
returns-in_err-push-clause-seen_list c =
    IsSeenList-same c.enter.new.self _ _ _ c.enter.ensures.seen_list refl refl (ap length c.begin.ensures.marks ∙ c.requires.clear.size)

pub returns-in_err-apply-clause-seen_list : goal.returns-in_err-apply-clause-seen_list
returns-in_err-apply-clause-seen_list c = c.apply.ensures.seen_list

pub returns-clause-seen_list : goal.returns-clause-seen_list
returns-clause-seen_list c = c.apply.ensures.seen_list
