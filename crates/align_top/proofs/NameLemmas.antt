-- Whether a word is the name of one of some watchers, asked one by one.
use Rattle.std.proofs.Common.{◌≡◌, ℕ, ◌+◌, ◌<◌, true, false, ◌||◌, List, length, map, drop, get_or, sym, ap, ◌∙◌}
use Rattle.std.specs.Prelude.{bytes_eq}
use Rattle.std.proofs.lemmas.List.{drop_more}
use Rattle.command_line.specs.Words.{is_among}

-- the first of some watchers has the name
pub known_here : {W : Type 0} (f : W → List ℕ) (ws : List W) (k : ℕ) (w : W) (word : List ℕ) → k < length ws → w ≡ get_or ws k w → bytes_eq word (f w) ≡ true → is_among (map f (drop k ws)) word ≡ true
known_here f ws k w word h at same =
    ap (λ some. is_among (map f some) word) (drop_more ws k w h)
    ∙ ap (λ v. bytes_eq word (f v) || is_among (map f (drop (k + 1) ws)) word) (sym at)
    ∙ ap (λ b. b || is_among (map f (drop (k + 1) ws)) word) same

-- or it is asked of the others
pub known_later : {W : Type 0} (f : W → List ℕ) (ws : List W) (k : ℕ) (w : W) (word : List ℕ) → k < length ws → w ≡ get_or ws k w → bytes_eq word (f w) ≡ false
    → is_among (map f (drop k ws)) word ≡ is_among (map f (drop (k + 1) ws)) word
known_later f ws k w word h at other =
    ap (λ some. is_among (map f some) word) (drop_more ws k w h)
    ∙ ap (λ v. bytes_eq word (f v) || is_among (map f (drop (k + 1) ws)) word) (sym at)
    ∙ ap (λ b. b || is_among (map f (drop (k + 1) ws)) word) other

pub ruleset known_rules = (known_here, known_later)
