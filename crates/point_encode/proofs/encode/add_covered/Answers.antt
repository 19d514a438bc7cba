use Rattle.std.proofs.Common.{◌≡◌, ◌++◌, ◌∷◌, [], ℕ, Bool, List, length, map, ap, sym, ◌∙◌}
use Rattle.std.specs.Prelude.{◌==◌, if◌then◌else◌}
use Rattle.std.proofs.lemmas.List.{append-nil}
use Rattle.world_model.specs.Problem.{children_of}
use Rattle.point_encode.specs.Model.Clauses.{covered_clause, is_so}
use Rattle.point_encode.proofs.Encoding.{one_more}
use Rattle.point_encode.proofs.encode.add_covered.Goals.{then-not-is_empty+in_ok-add_with_any, else-not-is_empty}
use Rattle.point_encode.proofs.encode.add_covered.Goals as goal

pub loop-concept-preserved : goal.loop-concept-preserved
loop-concept-preserved c =
    let p = c.args.problem.now in
    let done = c.loop-concept.clauses.items in
    let n = c.loop-concept.concept in
    let added : List ℕ → Bool → List (List ℕ) = λ (l : List ℕ) (b : Bool). done ++ (if b then [] else covered_clause n l ∷ []) in
    let none : (length (children_of p n) == 0) ≡ c.is_empty.result = sym (c.is_empty.ensures ∙ ap (λ l. length l == 0) c.children_of-children.ensures.value) in
    one_more (λ c. if length (children_of p c) == 0 then [] else covered_clause c (children_of p c) ∷ []) c.args.clauses.now.items done c.if-not-is_empty.clauses.items n
    (elim c.if-not-is_empty.branch [
      | then-not-is_empty+in_ok-add_with_any w ↦
          ap (λ v. v.items) w.clauses-is ∙ w.in_ok-add_with_any.ensures
          ∙ ap (λ a. done ++ (a ∷ map is_so c.children_of-children.result.now) ∷ []) w.is_not.ensures
          ∙ ap (λ l. done ++ covered_clause n l ∷ []) c.children_of-children.ensures.value
          ∙ sym (ap (added (children_of p n)) (none ∙ w.if-not-is_empty.true))
      | else-not-is_empty w ↦ ap (λ v. v.items) w.clauses-is ∙ sym (append-nil done) ∙ sym (ap (added (children_of p n)) (none ∙ w.if-not-is_empty.false))
    ])
    c.loop-concept.invariant
