-- Edges: twice a node and a sign, and sign 1 complements. Edge 0 is FALSE and edge 1 is TRUE.
use Rattle.std.specs.Prelude.{ℕ, ◌+◌, ◌-◌, ◌*◌, ◌/◌, ◌%◌, Bool, true, false, cond, ◌==◌}
use Rattle.model.specs.Tables.{number}

abbrev pub node_of : ℕ → ℕ
node_of e = e / 2

abbrev pub sign_of : ℕ → Bool
sign_of e = e % 2 == 1

abbrev pub edge : ℕ → Bool → ℕ
edge n s = 2 * n + number s

-- the edge, complemented where the sign is true
abbrev pub signed : ℕ → Bool → ℕ
signed e true = cond (sign_of e) (e - 1) (e + 1)
signed e false = e
