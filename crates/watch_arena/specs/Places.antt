-- What a list of places says of literals. A place holds a literal that is true; the literals are those of lits_core, seen as their codes.
use Rattle.std.specs.Prelude.{ℕ, ◌==◌, Bool, not, ◌&&◌, ◌||◌, List, count_by, map, slice_index_or, Option, None, is_none, option_and_then, option_map}
use Rattle.std.specs.List.{list_any, list_all, position_from}
use Rattle.lits_core.specs.Literals.{negation_of, variable_of, is_negative}
use Rattle.watch_arena.specs.declared.places.Place.{Place}

-- what stands for a place past the end
abbrev pub no_place : Place
no_place = record { lit = 0; level = 0; reason = None }

-- the place of a number
abbrev pub place_at : List Place → ℕ → Place
place_at places p = slice_index_or places p no_place

-- whether a literal is true
abbrev pub is_true : List Place → ℕ → Bool
is_true places lit = list_any (λ p. p.lit == lit) places

-- whether a literal is false: its negation is true
abbrev pub is_false : List Place → ℕ → Bool
is_false places lit = is_true places (negation_of lit)

-- the number of the place of a variable, if it has one
abbrev pub place_of : List Place → ℕ → Option ℕ
place_of places variable = position_from (λ p. variable_of p.lit == variable) 0 places

-- whether a variable's positive literal is true or its negative one, if either is
abbrev pub value_of : List Place → ℕ → Option Bool
value_of places variable = option_map (λ p. not (is_negative (place_at places p).lit)) (place_of places variable)

-- the reason of a variable, if it has a place with one
abbrev pub reason_of : List Place → ℕ → Option ℕ
reason_of places variable = option_and_then (λ p. (place_at places p).reason) (place_of places variable)

-- places with their reasons named anew
abbrev pub places_with : (ℕ → Option ℕ) → List Place → List Place
places_with name places = map (λ p. let q : Place = record p { reason = option_and_then name p.reason } in q) places

-- whether a place was assumed
abbrev pub is_assumed : Place → Bool
is_assumed p = is_none p.reason

-- the level that the places have come to: how many were assumed
abbrev pub level_of : List Place → ℕ
level_of places = count_by is_assumed places

-- whether all of a clause's literals are false
abbrev pub is_false_clause : List Place → List ℕ → Bool
is_false_clause places lits = list_all (is_false places) lits

-- whether exactly one of a clause's literals is unassigned, repeats not counted, and all others are false
abbrev pub is_unit_clause : List Place → List ℕ → Bool
is_unit_clause places lits =
    list_any (λ l. not (is_true places l || is_false places l) && list_all (λ m. m == l || is_false places m) lits) lits
