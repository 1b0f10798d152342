use Rattle.std.proofs.Common.{◌≡◌, Bool, true, take, refl, ap₂, arith}
use Rattle.std.specs.Prelude.{Decides, nat_eq}
use Rattle.std.specs.Cmp.Lexicographic.{pointwise}
use Rattle.std.proofs.lemmas.Bool.{eqb-true}
use Rattle.std.proofs.lemmas.Bool.Decides.{Decides-eqb, same_from_decides}
use Rattle.std.proofs.lemmas.Slice.Eq.{slice_eq-Decides}
use Rattle.cuts.specs.Meaning.{leaves_of, leaves_eq}
use Rattle.cuts.specs.declared.leaves.Leaves.{Leaves}
use Rattle.cuts.proofs.Same.{same-places}
use Rattle.cuts.proofs.equality.LeavesPartialEq.eq.Goals as goal

value : (x y : Leaves) (r : Bool) → Decides r (leaves_of x ≡ leaves_of y) → r ≡ leaves_eq x y
value x y r h = same_from_decides r (leaves_eq x y) h (slice_eq-Decides Decides-eqb (leaves_of x) (leaves_of y) (leaves_eq x y) refl)

exact : (x y : Leaves) (r : Bool) → r ≡ pointwise nat_eq x.nodes y.nodes → x.count ≡ y.count → Decides r (leaves_of x ≡ leaves_of y)
exact x y r is same =
    let d = slice_eq-Decides Decides-eqb x.nodes y.nodes r is in (
      λ t. ap₂ take same (d.0 t),
      λ e. d.1 (same-places x.count y.count x.nodes y.nodes (omega arith) (omega arith) (omega arith) x.zeros y.zeros e).1,
    )

apart : (x y : Leaves) (r : Bool) → (r ≡ true → x.count ≡ y.count) → (x.count ≡ y.count → ⊥) → Decides r (leaves_of x ≡ leaves_of y)
apart x y r same other = (
  λ t. absurd (other (same t)),
  λ e. absurd (other (same-places x.count y.count x.nodes y.nodes (omega arith) (omega arith) (omega arith) x.zeros y.zeros e).0),
)

pub returns-then-self-other : goal.returns-then-self-other
returns-then-self-other c =
    let d = exact c.args.self.now c.args.other.now c.eq.result c.eq.ensures c.if-self-other.true in
    record { value = value c.args.self.now c.args.other.now c.eq.result d; exact = d }

pub returns-else-self-other : goal.returns-else-self-other
returns-else-self-other c =
    let x = c.args.self.now in
    let y = c.args.other.now in
    let d = apart x y (nat_eq x.count y.count) (eqb-true x.count y.count) c.if-self-other.false in
    record { value = value x y (nat_eq x.count y.count) d; exact = d }
