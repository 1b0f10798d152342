-- A text that grows at its end.
use Rattle.std.specs.Prelude.{◌≡◌, ℕ, List, ◌++◌}

-- something, or nothing, was added behind the text
abbrev pub AddsTo : List ℕ → List ℕ → Type 0
AddsTo before after = (more : List ℕ) × (after ≡ before ++ more)
