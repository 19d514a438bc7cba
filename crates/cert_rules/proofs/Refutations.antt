-- A table that an accepted listing leaves out has its refutation there.
use Rattle.std.proofs.Common.{◌≡◌, false, List, [], ◌∷◌, Some, inl, inr, refl, subst}
use Rattle.std.proofs.lemmas.Bool.{not_from_false}
use Rattle.rcc5_core.specs.declared.Rel.{Rel}
use Rattle.rcc5_core.specs.RelationSet.{has}
use Rattle.world_model.specs.Problem.{pairs}
use Rattle.world_model.specs.Alive.{allowed}
use Rattle.world_model.specs.Node.{pair_at}
use Rattle.world_model.specs.Listing.{is_below}
use Rattle.world_model.proofs.OrderLists.{between_parts}
use Rattle.cert_rules.specs.Laws.{MissingTablesAreRefuted}
use Rattle.cert_rules.specs.Listings.{Going, header_fault, listing_tree, start, steps}
use Rattle.cert_rules.proofs.Nexts.{shown_from_order}
use Rattle.cert_rules.proofs.Sound.{IsSoundStatus, steps_sound, leaf_is_dead}
use Rattle.cert_rules.proofs.Headers.{no_fault, room, first_is_sound}
use Rattle.cert_rules.proofs.Refuting.{along_or_leaves, reach, tree_parts}

-- nothing comes before the empty position
not_below_empty : (t : List Rel) → is_below t [] ≡ false
not_below_empty [] = refl
not_below_empty (r ∷ t) = refl

pub missing_are_refuted_law : MissingTablesAreRefuted
missing_are_refuted_law p built switches from lines listed e table long between missing =
    let parts = no_fault (header_fault p switches from) 1 (steps (listing_tree p from) (Going 1 (start p)) lines) listed e in
    let sound = steps_sound (listing_tree p from) (Going 1 (start p)) lines (first_is_sound p from built (room p switches from parts.0)) in
    let exact = subst (IsSoundStatus (listing_tree p from)) parts.1 sound in
    let place = between_parts from listed.to table between in
    elim (along_or_leaves p (pairs p) table long) [
      | inr leaves ↦ inl (record {
        prefix = leaves.prefix;
        rel = leaves.rel;
        rest = leaves.rest;
        is = leaves.is;
        lacks = not_from_false (has (allowed p (pair_at p _)) leaves.rel) leaves.lacks;
      })
      | inl along ↦ elim (reach (listing_tree p from) lines 1 (start p).proof (Some []) [] listed table
          (record { along = along; long = long; shown = shown_from_order from table place.0 }) parts.1 (not_below_empty table) place.1) [
            | inl there_is ↦ absurd (missing (exact.sound table there_is).0)
            | inr leaf ↦ inr (record {
              line = leaf.line;
              stand = leaf.stand;
              place = record { before = leaf.before; after = leaf.after; split = leaf.split; number = leaf.number; reached = leaf.reached };
              prefix = leaf.prefix;
              begins = leaf.begins;
              at = leaf.at;
              leaf = leaf.leaf;
              faultless = leaf.faultless;
              dead =
                  let at_leaf = subst (IsSoundStatus (listing_tree p from)) leaf.reached (steps_sound (listing_tree p from) (Going 1 (start p)) leaf.before (first_is_sound p from built (room p switches from parts.0))) in
                  leaf_is_dead (listing_tree p from) leaf.stand.proof leaf.prefix at_leaf.tree_is at_leaf.follow leaf.line leaf.leaf (tree_parts (listing_tree p from) leaf.stand.proof leaf.prefix leaf.line leaf.faultless).1;
            })
          ]
    ]
