use Rattle.std.proofs.Common.{◌≡◌, ℕ, ◌+◌, ◌-◌, ◌<◌, cond, length, sym, ap, ◌∙◌, subst, arith, length-set, rules}
use Rattle.sweeper.specs.States.{state_in}
use Rattle.sweeper.proofs.Reaching.{ordered}
use Rattle.cones.proofs.Passing.{Going, starts, goes_on, more, finished, too_many}
use Rattle.cones.proofs.counting.count.Goals as goal
use Rattle.cones.proofs.counting.count.Goals.{then-spread+else-gates-cap, else-spread}

pub loop-node-init : goal.loop-node-init
loop-node-init c =
    let s = state_in c.args.session.now in
    (starts s.reduced (ordered s c.args.session.now.reached) c.args.top c.requires.known c.fill.new.self (omega arith) (search rules), omega arith)

pub loop-node-preserved : goal.loop-node-preserved
loop-node-preserved c =
    let s = state_in c.args.session.now in
    let l = c.loop-node in
    let room : length s.reduced < length l.marks = omega (arith, simp length-set at l.auto.marks) in
    let after = goes_on s.reduced (ordered s c.args.session.now.reached) c.args.top c.requires.known l.marks l.node l.gates (omega arith) l.invariant.0 room
    c.spread.result c.spread.ensures.is c.spread.new.marks c.spread.ensures.marked in
    let G : ℕ → Type 0 = λ v. Going s.reduced c.args.top c.spread.new.marks (l.node - 1) v in
    elim c.if-spread.branch [
      | then-spread+else-gates-cap w ↦ (subst G (ap (λ b. cond b (l.gates + 1) l.gates) w.if-spread.true ∙ sym w.gates-is) after, omega arith)
      | else-spread w ↦ (subst G (ap (λ b. cond b (l.gates + 1) l.gates) w.if-spread.false ∙ sym w.gates-is) after, omega arith)
    ]

pub returns-then-gates-cap : goal.returns-then-gates-cap
returns-then-gates-cap c =
    let s = state_in c.args.session.now in
    let l = c.loop-node in
    too_many s.reduced c.args.top l.gates (l.node - 1) c.args.cap
    (more s.reduced (ordered s c.args.session.now.reached) c.args.top c.requires.known l.marks l.node l.gates (omega arith) l.invariant.0 c.if-spread.ensures.is)
    (omega arith)

pub returns : goal.returns
returns c =
    let s = state_in c.args.session.now in
    let l = c.loop-node in
    let zero : l.node ≡ 0 = omega arith in
    finished s.reduced c.args.top l.marks l.gates c.args.cap (subst (λ k. Going s.reduced c.args.top l.marks k l.gates) zero l.invariant.0) (omega arith)
