-- A token in the order in which it is printed.
use Rattle.std.specs.Prelude.{ℕ, List, ◌++◌, length, codes, decimal}
use Rattle.rcc5_core.specs.declared.Rel.{Rel}
use Rattle.world_model.specs.Problem.{Problem, pair_count}
use Rattle.proof_text.specs.Words.{position_word}

-- the words behind the version's number, and the line end
abbrev pub words_behind : Problem → List ℕ → List Rel → List ℕ
words_behind p digest q =
    decimal (length p.taxonomies) ++ codes " " ++ decimal (pair_count p) ++ codes " " ++ digest ++ codes " " ++ position_word q ++ codes "\n"
