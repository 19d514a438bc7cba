-- Names with commas between them.
use Rattle.std.proofs.Common.{◌≡◌, ℕ, ◌+◌, ◌<◌, eqb, List, [], ◌∷◌, length, arith}
use Rattle.std.specs.List.{position_or_len, before_first, after_first}
use Rattle.std.proofs.lemmas.List.{length-drop}
use Rattle.std.proofs.lemmas.List.Splits.{slice_split_none, slice_split_first}
use Rattle.std.proofs.lemmas.List.Sums.{fails_before_first}
use Rattle.command_line.specs.Words.{names_in, is_comma}

-- a value with a comma has the name before the first one, and then the names behind it
pub names_cut : (value : List ℕ) → position_or_len is_comma value < length value → names_in value ≡ before_first is_comma value ∷ names_in (after_first is_comma value)
names_cut value h = slice_split_first (λ b. eqb b 44) value 0 h

-- a value without one is one name
pub names_whole : (value : List ℕ) → position_or_len is_comma value ≡ length value → names_in value ≡ value ∷ []
names_whole value h = slice_split_none (λ b. eqb b 44) value (λ k d below. fails_before_first (λ b. eqb b 44) value k d (omega (arith, h)))

pub after_shorter : (value : List ℕ) → position_or_len is_comma value < length value → length (after_first is_comma value) < length value
after_shorter value h = let n = length-drop (position_or_len is_comma value + 1) value in omega (arith, h, n)

pub ruleset name_rules = (names_cut, names_whole, after_shorter)
