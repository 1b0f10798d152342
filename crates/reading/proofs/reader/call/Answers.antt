use Rattle.std.proofs.Common.{Ok, Err, sym, ap, ◌∙◌, subst, ⊎_elim}
use Rattle.model.specs.Rankings.{Ranking}
use Rattle.model.specs.Sessions.{positions}
use Rattle.lines.specs.declared.lines.Line.TheVariants.{Input, Gate, Out}
use Rattle.sweeper.specs.Answers.{told_node, told_swept, told_edge}
use Rattle.sweeper.specs.States.{state_in}
use Rattle.sweeper.specs.Tables.{state_of}
use Rattle.reading.specs.Reading.{called, Becomes}
use Rattle.reading.proofs.Calling.{input-called, gate-called, output_called, refused-called, net-called, end-called}
use Rattle.reading.proofs.reader.call.Goals as goal

pub returns-in_err-input-in-Input-clause-calls : goal.returns-in_err-input-in-Input-clause-calls
returns-in_err-input-in-Input-clause-calls g c =
    let before = g.R.Ranking.before c.args.by.now in
    let s = state_in c.args.session.now in
    let u = state_in c.input.new.self in
    let f = c.in_err-input-in-Input.field-0.0 in
    let told = c.in_err-input-in-Input.ensures in
    let r = c.from_residual.result in
    subst (λ l. Becomes (called before s l) s r u) (sym c.in-Input.is)
    (refused-called before s u (Input c.in-Input.field-0) r f c.from_residual.ensures.1 (input-called {s = s} {u = u} {a = told_node (Err f)} before c.in-Input.field-0 told.runs.steps) (ap state_of told.refused))

pub returns-in_err-gate-in-Gate-clause-calls : goal.returns-in_err-gate-in-Gate-clause-calls
returns-in_err-gate-in-Gate-clause-calls g c =
    let before = g.R.Ranking.before c.args.by.now in
    let s = state_in c.args.session.now in
    let u = state_in c.gate.new.self in
    let f = c.in_err-gate-in-Gate.field-0.0 in
    let told = c.in_err-gate-in-Gate.ensures in
    let r = c.from_residual-in_err-gate-in-Gate.result in
    let ranking : Ranking positions = record { before = before; mark = g.R.Ranking.INPUTS_FIRST; lawful = told.runs.lawful } in
    subst (λ l. Becomes (called before s l) s r u) (sym c.in-Gate.is)
    (refused-called before s u (Gate c.in-Gate.a c.in-Gate.b) r f c.from_residual-in_err-gate-in-Gate.ensures.1 (gate-called {s = s} {u = u} {a = told_swept (Err f)} ranking c.new.ensures c.new-in-Gate.ensures told.runs.extends.steps) (ap state_of told.refused))

pub returns-in_err-output-in-Out-clause-calls : goal.returns-in_err-output-in-Out-clause-calls
returns-in_err-output-in-Out-clause-calls g c =
    let before = g.R.Ranking.before c.args.by.now in
    let s = state_in c.args.session.now in
    let u = state_in c.output.new.self in
    let f = c.in_err-output-in-Out.field-0.0 in
    let told = c.in_err-output-in-Out.ensures in
    let r = c.from_residual-in_err-output-in-Out.result in
    subst (λ l. Becomes (called before s l) s r u) (sym c.in-Out.is)
    (refused-called before s u (Out c.in-Out.edge) r f c.from_residual-in_err-output-in-Out.ensures.1 (output_called {s = s} {u = u} {a = told_edge (Err f)} before c.new-in-Out.ensures told.runs.steps) (ap state_of told.refused))

pub returns-in-Net-clause-calls : goal.returns-in-Net-clause-calls
returns-in-Net-clause-calls g c =
    let before = g.R.Ranking.before c.args.by.now in
    let s = state_in c.args.session.now in
    ⊎_elim (λ e. ap (called before s) e.1 ∙ net-called before s e.0) (λ e. ap (called before s) e.1 ∙ end-called before s e.0) c.in-Net.is

pub returns-in_ok-input-in-Input-clause-calls : goal.returns-in_ok-input-in-Input-clause-calls
returns-in_ok-input-in-Input-clause-calls g c =
    let before = g.R.Ranking.before c.args.by.now in
    let s = state_in c.args.session.now in
    let u = state_in c.input.new.self in
    ap (called before s) c.in-Input.is ∙ input-called {s = s} {u = u} {a = told_node (Ok c.in_ok-input-in-Input.field-0)} before c.in-Input.field-0 c.in_ok-input-in-Input.ensures.runs.steps

pub returns-in_ok-gate-in-Gate-clause-calls : goal.returns-in_ok-gate-in-Gate-clause-calls
returns-in_ok-gate-in-Gate-clause-calls g c =
    let before = g.R.Ranking.before c.args.by.now in
    let s = state_in c.args.session.now in
    let u = state_in c.gate.new.self in
    let told = c.in_ok-gate-in-Gate.ensures in
    let ranking : Ranking positions = record { before = before; mark = g.R.Ranking.INPUTS_FIRST; lawful = told.runs.lawful } in
    ap (called before s) c.in-Gate.is ∙ gate-called {s = s} {u = u} {a = told_swept (Ok c.in_ok-gate-in-Gate.field-0)} ranking c.new.ensures c.new-in-Gate.ensures told.runs.extends.steps

pub returns-in_ok-output-in-Out-clause-calls : goal.returns-in_ok-output-in-Out-clause-calls
returns-in_ok-output-in-Out-clause-calls g c =
    let before = g.R.Ranking.before c.args.by.now in
    let s = state_in c.args.session.now in
    let u = state_in c.output.new.self in
    ap (called before s) c.in-Out.is ∙ output_called {s = s} {u = u} {a = told_edge (Ok c.in_ok-output-in-Out.field-0)} before c.new-in-Out.ensures c.in_ok-output-in-Out.ensures.runs.steps
