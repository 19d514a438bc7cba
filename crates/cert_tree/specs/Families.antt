-- Families by their words.
use Rattle.std.specs.Prelude.{Option, Some, None, option_and_then, if◌then◌else◌}
use Rattle.world_model.specs.Problem.{Problem}
use Rattle.world_model.specs.Family.{Family, meets}
use Rattle.set_family.specs.Sets.{family_from}

-- the family of some words, where they are one and it meets the problem
abbrev pub met_family : Problem → Family → Option Family
met_family q words = option_and_then (λ f. if meets q f then Some f else None) (family_from words.universe words.sets)
