use Rattle.std.proofs.Common.{◌≡◌, ◌+◌, ◌-◌, ◌<◌, leb, ◌⊎◌, length, take, set, sym, refl, ap, ◌∙◌, subst, inl, inr, arith, length-set}
use mir.Val.{bool_byte}
use Rattle.std.proofs.lemmas.Bool.{eqb-true, eqb-false}
use Rattle.model.specs.Leaves.{Rising, unite}
use Rattle.model.proofs.Uniting.{Merged, merged-all, merged-full, merged_as, unite-rising}
use Rattle.model.proofs.Merging.{merged-step, front}
use Rattle.cuts.specs.Meaning.{leaves_of}
use Rattle.cuts.proofs.Shrinking.{front-drop, rest_fits, rest_is}
use Rattle.cuts.proofs.United.{united-none}
use Rattle.cuts.proofs.leaves.Leaves.unite.Goals as goal
use Rattle.cuts.proofs.leaves.Leaves.unite.Goals.{then-not-is_empty, else-not-is_empty+then-not-is_empty-2}

pub returns-then-count-most : goal.returns-then-count-most
returns-then-count-most c =
    let xs = leaves_of c.args.self.now in
    let ys = leaves_of c.args.other.now in
    let inv = c.loop-a.invariant in
    let i = length xs - length c.loop-a.a.now in
    let j = length ys - length c.loop-a.b.now in
    let fits = rest_fits xs c.loop-a.a.now inv.a in
    let also = rest_fits ys c.loop-a.b.now inv.b in
    let some : (i < length xs) ⊎ (j < length ys) = elim c.if-not-is_empty.branch [ then-not-is_empty w ↦ inl (omega (arith, eqb-false _ _ (sym w.if-not-is_empty.ensures))) | else-not-is_empty+then-not-is_empty-2 w ↦ inr (omega (arith, eqb-false _ _ (sym w.if-not-is_empty-2.ensures))) ] in
    let wide = merged-full c.min-most.result xs ys c.args.self.now.rising c.args.other.now.rising i j c.loop-a.count c.loop-a.nodes inv.merged c.if-count-most.true some in
    united-none _ xs ys (omega (arith, c.min-most.ensures))

pub loop-a-preserved : goal.loop-a-preserved
loop-a-preserved c =
    let xs = leaves_of c.args.self.now in
    let ys = leaves_of c.args.other.now in
    let inv = c.loop-a.invariant in
    let a = c.loop-a.a.now in
    let b = c.loop-a.b.now in
    let i = length xs - length a in
    let j = length ys - length b in
    let x = c.lowest-x.result in
    let y = c.lowest-y.result in
    let fits = rest_fits xs a inv.a in
    let also = rest_fits ys b inv.b in
    let some : (i < length xs) ⊎ (j < length ys) = elim c.if-not-is_empty.branch [ then-not-is_empty w ↦ inl (omega (arith, eqb-false _ _ (sym w.if-not-is_empty.ensures))) | else-not-is_empty+then-not-is_empty-2 w ↦ inr (omega (arith, eqb-false _ _ (sym w.if-not-is_empty-2.ensures))) ] in
    let ex : x ≡ front 65536 xs i = c.lowest-x.ensures.front ∙ ap (λ l. front 65536 l 0) inv.a ∙ front-drop 65536 xs i in
    let ey : y ≡ front 65536 ys j = c.lowest-y.ensures.front ∙ ap (λ l. front 65536 l 0) inv.b ∙ front-drop 65536 ys j in
    let m : Merged c.min-most.result xs ys (i + bool_byte (leb x y)) (j + bool_byte (leb y x)) (c.loop-a.count + 1) (set c.loop-a.nodes c.loop-a.count c.min.result) =
    merged-step c.min-most.result 65536 xs ys c.args.self.now.rising c.args.other.now.rising i j c.loop-a.count c.loop-a.nodes inv.merged (omega (arith, inv.merged.few)) x y ex ey
    (λ h. c.lowest-x.ensures.less (omega arith)) (λ h. c.lowest-y.ensures.less (omega arith)) some refl refl refl c.min.ensures refl in
    let r = rest_is xs a (bool_byte (leb x y)) inv.a (omega (arith, m.of_a)) in
    let q = rest_is ys b (bool_byte (leb y x)) inv.b (omega (arith, m.of_b)) in
    record {
      merged = merged_as m (omega (arith, r.0, m.of_a)) (omega (arith, q.0, m.of_b)) refl refl;
      a = r.1;
      b = q.1;
      places = length-set c.loop-a.nodes c.loop-a.count c.min.result ∙ inv.places;
    }

pub invariant_of-result : goal.invariant_of-result
invariant_of-result c =
    let xs = leaves_of c.args.self.now in
    let ys = leaves_of c.args.other.now in
    let inv = c.loop-a.invariant in
    let none : length c.loop-a.a.now ≡ 0 = eqb-true _ _ (sym c.if-not-is_empty.ensures) in
    let neither : length c.loop-a.b.now ≡ 0 = eqb-true _ _ (sym c.if-not-is_empty-2.ensures) in
    let all : take c.loop-a.count c.loop-a.nodes ≡ unite xs ys =
    merged-all c.min-most.result xs ys c.args.self.now.rising c.args.other.now.rising (length xs - length c.loop-a.a.now) (length ys - length c.loop-a.b.now) c.loop-a.count c.loop-a.nodes inv.merged (omega (arith, none)) (omega (arith, neither)) in
    record {
      places = inv.places;
      few = omega (arith, inv.merged.few);
      rising = subst Rising (sym all) (unite-rising xs ys c.args.other.now.rising);
      zeros = inv.merged.zeros;
    }
