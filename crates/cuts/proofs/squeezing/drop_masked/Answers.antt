use Rattle.std.proofs.Common.{◌≡◌, ℕ, ◌-◌, cond, eqb, [], take, sym, ap, ◌∙◌, subst, add-one, arith}
use lib.Bits.{bit_and}
use Rattle.model.specs.Cuts.{Cut}
use Rattle.model.specs.Tables.{Loose}
use Rattle.model.proofs.Squeezing.{dropped_skips, dropped_keeps}
use Rattle.model.proofs.Wellformed.{dropped_all, constant-table}
use Rattle.cuts.proofs.Bit.{odd}
use Rattle.cuts.proofs.squeezing.drop_masked.Goals as goal
use Rattle.cuts.proofs.squeezing.drop_masked.Goals.{then-not-is_free, else-not-is_free}

pub loop-position-preserved : goal.loop-position-preserved
loop-position-preserved c =
    elim c.if-not-is_free.branch [
      | then-not-is_free w ↦
          dropped_keeps 4 c.args.table c.args.leaves.now c.requires.few c.loop-position-test.true c.loop-position.invariant (sym w.if-not-is_free.ensures) w.moved-word.type_inv w.moved-word.ensures
          (add-one c.loop-position.position) (w.count-is ∙ add-one c.loop-position.count) w.word-is w.found-is
      | else-not-is_free w ↦
          dropped_skips 4 c.args.table c.args.leaves.now c.requires.few c.loop-position-test.true c.loop-position.invariant (sym w.if-not-is_free.ensures)
          (add-one c.loop-position.position) w.count-is w.word-is w.found-is
    ]

pub returns-then-count-eq0 : goal.returns-then-count-eq0
returns-then-count-eq0 c =
    let none : c.loop-position.count ≡ 0 = omega arith in
    let r = dropped_all 4 c.args.table c.args.leaves.now c.loop-position.position c.loop-position.count c.loop-position.word c.loop-position.found
    c.requires.few c.requires.rising c.requires.loose (omega arith) c.loop-position.invariant in
    let word = c.loop-position.word in
    let value : word ≡ cond (eqb (bit_and word 1) 1) (65535 - 0) 0 =
    constant-table 4 word r.small (subst (Loose 4 word) none r.loose) ∙ ap (λ s. cond s (65535 - 0) 0) (sym (odd word)) in
    ap {A = ℕ} {B = Cut} (λ w. record { leaves = []; table = w }) (sym value)
    ∙ ap {A = ℕ} {B = Cut} (λ n. record { leaves = take n c.loop-position.found; table = word }) (sym none)
    ∙ r.cut

pub invariant_of-leaves : goal.invariant_of-leaves
invariant_of-leaves c =
    let r = dropped_all 4 c.args.table c.args.leaves.now c.loop-position.position c.loop-position.count c.loop-position.word c.loop-position.found
    c.requires.few c.requires.rising c.requires.loose (omega arith) c.loop-position.invariant in
    record { places = omega (arith, c.loop-position.invariant.room); few = r.few; rising = r.rising; zeros = r.zeros }

pub invariant_of-result : goal.invariant_of-result
invariant_of-result c =
    let r = dropped_all 4 c.args.table c.args.leaves.now c.loop-position.position c.loop-position.count c.loop-position.word c.loop-position.found
    c.requires.few c.requires.rising c.requires.loose (omega arith) c.loop-position.invariant in
    record { some = omega arith; loose = r.loose; tight = r.tight }

pub returns : goal.returns
returns c =
    let r = dropped_all 4 c.args.table c.args.leaves.now c.loop-position.position c.loop-position.count c.loop-position.word c.loop-position.found
    c.requires.few c.requires.rising c.requires.loose (omega arith) c.loop-position.invariant in
    r.cut
