use Rattle.std.proofs.Common.{◌<◌, cond, leb, get_or, length, sym, ◌∙◌, arith}
use Rattle.std.proofs.lemmas.Bool.{le-leb, ltb-true, ltb-false}
use Rattle.std.proofs.lemmas.List.{take_all}
use Rattle.model.specs.Leaves.{place}
use Rattle.model.proofs.Stretching.{partly_start, partly_skip, partly_move, partly_done, stretch_law}
use Rattle.model.proofs.Masked.{loose-rests, agree-rests}
use Rattle.model.proofs.Places.{within-fewer}
use Rattle.cuts.proofs.Fronts.{shorter, front_of, last-in}
use Rattle.cuts.proofs.stretching.stretch.Goals as goal

pub loop-left-init : goal.loop-left-init
loop-left-init c =
    let old = c.args.old.now in
    let new = c.args.new.now in
    record {
      old = sym (take_all (length old) old (omega arith));
      new = sym (take_all (length new) new (omega arith));
      partly = partly_start 4 c.args.table old new c.requires.rising.0 c.requires.rising.1 c.requires.within (loose-rests 4 c.args.table (length old) c.requires.loose) (omega arith);
    }

pub moved-word-requires : goal.moved-word-requires
moved-word-requires c =
    let left = shorter c.loop-left.left.now in
    let places = shorter c.loop-left.places.now in
    let fewer = within-fewer c.args.old.now c.args.new.now c.requires.rising.0 c.requires.rising.1 c.requires.within in
    (omega (arith, c.loop-left.invariant.partly.some), omega (arith, c.loop-left.invariant.partly.fits))

pub loop-left-preserved-then-last-leaf : goal.loop-left-preserved-then-last-leaf
loop-left-preserved-then-last-leaf c =
    let old = c.args.old.now in
    let new = c.args.new.now in
    let left = c.loop-left.left.now in
    let places = c.loop-left.places.now in
    let inv = c.loop-left.invariant in
    let some : 0 < length left = omega (arith, ltb-false) in
    let more : 0 < length places = omega (arith, ltb-false) in
    record {
      old = front_of left old inv.old;
      new = front_of places new inv.new;
      partly = rw (shorter left, shorter places)
          (partly_move 4 c.args.table old new c.requires.rising.0 c.requires.rising.1 c.requires.within (loose-rests 4 c.args.table (length old) c.requires.loose)
          (length left) (length places) c.loop-left.word c.moved-word.result (omega arith) (omega arith) inv.partly
          (sym (last-in left old inv.old (omega arith)) ∙ c.if-last-leaf.true ∙ last-in places new inv.new (omega arith))
          c.moved-word.type_inv (λ v. rw (← shorter left, ← shorter places) (c.moved-word.ensures v)));
    }

pub loop-left-preserved : goal.loop-left-preserved
loop-left-preserved c =
    let old = c.args.old.now in
    let new = c.args.new.now in
    let left = c.loop-left.left.now in
    let places = c.loop-left.places.now in
    let inv = c.loop-left.invariant in
    let some : 0 < length left = omega (arith, ltb-false) in
    let more : 0 < length places = omega (arith, ltb-false) in
    record {
      old = inv.old;
      new = front_of places new inv.new;
      partly = rw (shorter places)
          (partly_skip 4 c.args.table old new c.requires.rising.0 c.requires.rising.1 c.requires.within (loose-rests 4 c.args.table (length old) c.requires.loose)
          (length left) (length places) c.loop-left.word (omega arith) inv.partly
          (λ some same. c.if-last-leaf.false (last-in left old inv.old some ∙ same ∙ sym (last-in places new inv.new (omega arith)))));
    }

pub returns-after-loop-left : goal.returns-after-loop-left
returns-after-loop-left c =
    let old = c.args.old.now in
    let new = c.args.new.now in
    let inv = c.loop-left.invariant.partly in
    let rests = loose-rests 4 c.args.table (length old) c.requires.loose in
    stretch_law 4 c.args.table c.loop-left.word old new inv.small
    (omega (arith, within-fewer old new c.requires.rising.0 c.requires.rising.1 c.requires.within)) rests c.requires.within
    (partly_done 4 c.args.table old new c.requires.rising.0 c.requires.rising.1 c.requires.within rests
    (length c.loop-left.left.now) (length c.loop-left.places.now) c.loop-left.word inv (omega arith))

pub returns-then-left-lt1 : goal.returns-then-left-lt1
returns-then-left-lt1 c =
    let old = c.args.old.now in
    let new = c.args.new.now in
    let inv = c.loop-left.invariant.partly in
    let none : length c.loop-left.left.now < 1 = omega (arith, ltb-true) in
    let rests = loose-rests 4 c.args.table (length old) c.requires.loose in
    stretch_law 4 c.args.table c.loop-left.word old new inv.small
    (omega (arith, within-fewer old new c.requires.rising.0 c.requires.rising.1 c.requires.within)) rests c.requires.within
    (λ v. inv.means v ∙ agree-rests 4 c.args.table (length old) (λ q. cond (leb (length c.loop-left.left.now) q) (v (place (get_or old q 0) new)) (v q)) (λ q. v (place (get_or old q 0) new)) rests (λ q _. rw (le-leb (length c.loop-left.left.now) q (omega arith))))
