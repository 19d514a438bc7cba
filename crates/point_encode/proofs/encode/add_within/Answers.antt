use Rattle.std.proofs.Common.{◌++◌, ◌∷◌, [], ℕ, List, Option, ap, sym, ◌∙◌}
use Rattle.std.specs.Option.{option_map, option_to_list}
use Rattle.std.proofs.lemmas.List.{append-nil}
use Rattle.world_model.specs.Problem.{parent_of}
use Rattle.point_encode.specs.Model.Clauses.{is_not, within_clause}
use Rattle.point_encode.proofs.Encoding.{one_more}
use Rattle.point_encode.proofs.encode.add_within.Goals.{in-Some+in_ok-add, in_default}
use Rattle.point_encode.proofs.encode.add_within.Goals as goal

pub loop-concept-preserved : goal.loop-concept-preserved
loop-concept-preserved c =
    let p = c.args.problem.now in
    let done = c.loop-concept.clauses.items in
    let n = c.loop-concept.concept in
    let added : Option ℕ → List (List ℕ) = λ (o : Option ℕ). done ++ option_to_list (option_map (within_clause n) o) in
    one_more (λ c. option_to_list (option_map (within_clause c) (parent_of p c))) c.args.clauses.now.items done c.match-parent_of.clauses.items n
    (elim c.match-parent_of.branch [
      | in-Some+in_ok-add w ↦
          ap (λ v. v.items) w.clauses-is ∙ w.in_ok-add.ensures
          ∙ ap (λ a. done ++ (a ∷ w.is_so.result ∷ []) ∷ []) w.is_not.ensures
          ∙ ap (λ b. done ++ (is_not n ∷ b ∷ []) ∷ []) w.is_so.ensures
          ∙ sym (ap added (sym c.parent_of.ensures.value ∙ w.in-Some.is))
      | in_default w ↦ ap (λ v. v.items) w.clauses-is ∙ sym (append-nil done) ∙ sym (ap added (sym c.parent_of.ensures.value ∙ w.in_default.is))
    ])
    c.loop-concept.invariant
