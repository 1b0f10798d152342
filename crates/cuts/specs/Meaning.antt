-- What the leaves and cuts of the code stand for, and what united leaves and joined cuts say.
use Rattle.std.specs.Prelude.{ℕ, Bool, ◌&&◌, cond, List, length, take, Some, None, Option, nat_eq, nat_le}
use Rattle.std.specs.Cmp.Lexicographic.{pointwise}
use Rattle.model.specs.Leaves.{unite}
use Rattle.model.specs.Cuts.{Cut as Meant}
use Rattle.cuts.specs.declared.leaves.Leaves.{Leaves}
use Rattle.cuts.specs.declared.cut.Cut.{Cut}

abbrev pub leaves_of : Leaves → List ℕ
leaves_of l = take l.count l.nodes

abbrev pub meaning : Cut → Meant
meaning c = record { leaves = leaves_of c.leaves; table = c.table }

-- whether two leaves, and two cuts, are one value: whether they mean the same
abbrev pub leaves_eq : Leaves → Leaves → Bool
leaves_eq x y = pointwise nat_eq (leaves_of x) (leaves_of y)

abbrev pub cut_eq : Cut → Cut → Bool
cut_eq x y = nat_eq x.table y.table && leaves_eq x.leaves y.leaves

-- the leaves of either list, unless they are more than k
abbrev pub united : ℕ → List ℕ → List ℕ → Option (List ℕ)
united k a b = cond (nat_le (length (unite a b)) k) (Some (unite a b)) None

abbrev pub listed : Option Leaves → Option (List ℕ)
listed (Some l) = Some (leaves_of l)
listed None = None
