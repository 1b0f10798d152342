use Rattle.std.specs.Prelude.{ℕ}
use Rattle.model.specs.Rankings.{Facts, total}

unfoldable pub heights : Facts → ℕ
heights = total (λ f. f.height)
