use Rattle.std.proofs.Common.{◌≡◌, ◌+◌, min, length, ap, arith}
use Rattle.lent.proofs.Inserting.{put-items, put-rest}
use Rattle.lent.proofs.list.LentList.insert.Goals as goal
use Rattle.lent.proofs.list.LentList.insert.Goals.{then-self, else-self}

pub returns-then-place-self-clause-items : goal.returns-then-place-self-clause-items
returns-then-place-self-clause-items g c =
    let s = c.args.self.now in
    let same : c.if-self.self.places.now ≡ s.places.now = elim c.if-self.branch [ then-self w ↦ ap (λ l. l.places.now) w.self-is | else-self w ↦ ap (λ l. l.places.now) w.self-is ] in
    let end : c.if-self.self.count ≡ min (length s.places.now) (s.count + 1) =
    elim c.if-self.branch [
      | then-self w ↦ omega (arith, w.if-self.true, ap (λ l. l.count) w.self-is)
      | else-self w ↦ omega (arith, s.within, w.if-self.false, ap (λ l. l.count) w.self-is)
    ] in
    put-items s.places.now c.args.at s.count c.min-place.result c.if-self.self.count c.args.item s.within c.min-place.ensures end c.if-place-self.true
    c.if-self.self.places.now c.copy_within.new.self same c.copy_within.ensures.after

pub returns-then-place-self-clause-rest : goal.returns-then-place-self-clause-rest
returns-then-place-self-clause-rest g c =
    let s = c.args.self.now in
    let same : c.if-self.self.places.now ≡ s.places.now = elim c.if-self.branch [ then-self w ↦ ap (λ l. l.places.now) w.self-is | else-self w ↦ ap (λ l. l.places.now) w.self-is ] in
    let end : c.if-self.self.count ≡ min (length s.places.now) (s.count + 1) =
    elim c.if-self.branch [
      | then-self w ↦ omega (arith, w.if-self.true, ap (λ l. l.count) w.self-is)
      | else-self w ↦ omega (arith, s.within, w.if-self.false, ap (λ l. l.count) w.self-is)
    ] in
    put-rest s.places.now c.args.at s.count c.min-place.result c.if-self.self.count c.args.item s.within c.min-place.ensures end c.if-place-self.true
    c.if-self.self.places.now c.copy_within.new.self same c.copy_within.ensures.after
