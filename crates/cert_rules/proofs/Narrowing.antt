-- A family meets a problem with a pair narrowed to a relation exactly where it meets the problem and has the relation there.
use Rattle.std.proofs.Common.{◌≡◌, ℕ, [], ◌∷◌, ◌++◌, true, inl, inr, refl, sym, ap, ◌∙◌, IsTrue, filter_map}
use Rattle.std.proofs.lemmas.Bool.{and_from}
use Rattle.rcc5_core.specs.declared.Rel.{Rel}
use Rattle.rcc5_core.specs.RelationSet.{has, only}
use Rattle.world_model.specs.Problem.{Problem, Constraint, constraints, kept_articulations, as_constraint, narrowed}
use Rattle.world_model.specs.Family.{Family, holds, meets}
use Rattle.world_model.proofs.Members.{here, all_at, all_from, In-left, In-right, from_append}
use Rattle.world_model.proofs.PointRules.{met_parts, met_whole}
use Rattle.world_model.proofs.PointPositions.{has-only, relation_in}
use Rattle.world_model.proofs.Relations.{one_rel, only_has}

-- a family that shows a relation of a pair meets the problem with the pair narrowed to it
pub shown_is_met : (p : Problem) (pair : ℕ × ℕ) (rel : Rel) (f : Family) → IsTrue (meets p f) → relation_in f pair ≡ rel → IsTrue (meets (narrowed p pair (only rel)) f)
shown_is_met p pair rel f met there =
    let m = met_parts p f met in
    let last : Constraint = record { left = pair.0; right = pair.1; set = only rel } in
    met_whole (narrowed p pair (only rel)) f (record {
      fits = m.fits;
      within = m.within;
      apart = m.apart;
      covered = m.covered;
      nonempty = m.nonempty;
      said = all_from (holds f) (constraints (narrowed p pair (only rel))) (λ c i. elim (from_append (filter_map as_constraint (kept_articulations p)) i) [
        | inl stated ↦ all_at (holds f) m.said (In-left p.narrowings stated)
        | inr rest ↦ elim (from_append p.narrowings rest) [
          | inl before ↦ all_at (holds f) m.said (In-right (filter_map as_constraint (kept_articulations p)) before)
          | inr added ↦ all_at (holds f) (and_from (holds f last) true (ap (has (only rel)) there ∙ has-only rel) refl) added
        ]
      ]);
      summed = m.summed;
    })

-- and the other way round
pub met_is_shown : (p : Problem) (pair : ℕ × ℕ) (rel : Rel) (f : Family) → IsTrue (meets (narrowed p pair (only rel)) f) → IsTrue (meets p f) × (relation_in f pair ≡ rel)
met_is_shown p pair rel f met =
    let m = met_parts (narrowed p pair (only rel)) f met in
    let last : Constraint = record { left = pair.0; right = pair.1; set = only rel } in
    let stated = filter_map as_constraint (kept_articulations p) in (
      met_whole p f (record {
        fits = m.fits;
        within = m.within;
        apart = m.apart;
        covered = m.covered;
        nonempty = m.nonempty;
        said = all_from (holds f) (constraints p) (λ c i. all_at (holds f) m.said (elim (from_append (filter_map as_constraint (kept_articulations p)) i) [
          | inl one ↦ In-left (p.narrowings ++ last ∷ []) one
          | inr one ↦ In-right (filter_map as_constraint (kept_articulations p)) (In-left (last ∷ []) one)
        ]));
        summed = m.summed;
      }),
      sym (one_rel rel (relation_in f pair) (sym (only_has rel (relation_in f pair)) ∙ all_at (holds f) m.said (In-right stated (In-right p.narrowings (here refl))))),
    )
