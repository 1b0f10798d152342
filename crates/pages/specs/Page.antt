-- What stands on a page after a text was written over a part of it.
use Rattle.std.specs.Prelude.{◌≡◌, ℕ, ◌+◌, ◌-◌, ◌<◌, ◌≤◌, List, ◌++◌, length, take, drop, Result, MatchResult}
use Rattle.pages.specs.declared.short.Short.{Short}

-- the text over the front of the page, and the rest of the page as it was
abbrev pub over : List ℕ → List ℕ → List ℕ
over text page = text ++ drop (length text) page

-- the same from the place at on
abbrev pub over_at : ℕ → List ℕ → List ℕ → List ℕ
over_at at text page = take at page ++ over text (drop at page)

-- a text written to the front of a page: its length, or the length wanted and the page as it was
abbrev pub Writes : List ℕ → List ℕ → Result ℕ Short → List ℕ → Type 0
Writes text before r after =
    MatchResult r
    (λ n. (n ≡ length text) × (length text ≤ length before) × (after ≡ over text before))
    (λ e. (e.wanted ≡ length text) × (length before < length text) × (after ≡ before))

-- a text written from the place at on: the place after it, or the length wanted and the page as it was. A page that ends before the place has nothing left
abbrev pub WritesAt : ℕ → List ℕ → List ℕ → Result ℕ Short → List ℕ → Type 0
WritesAt at text before r after =
    MatchResult r
    (λ n. (n ≡ at + length text) × (length text ≤ length before - at) × (after ≡ over_at at text before))
    (λ e. (e.wanted ≡ length text) × (length before - at < length text) × (after ≡ before))
