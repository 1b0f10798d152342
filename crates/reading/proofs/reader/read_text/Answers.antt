use Rattle.std.proofs.Common.{◌≡◌, Ok, Err, sym, ap, ◌∙◌, subst}
use Rattle.std.proofs.lemmas.Result.{err_from_is_err_and}
use Rattle.model.specs.Sessions.{State}
use Rattle.rankings.proofs.Laws.{lawful-from}
use Rattle.sweeper.specs.States.{state_in, image_in}
use Rattle.lines.specs.declared.faults.TextFault.{TextFault}
use Rattle.lines.specs.Position.{position_of}
use Rattle.lines.proofs.Moving.{answered-ok, answered-err}
use Rattle.reading.specs.declared.faults.ReadFault.{ReadFault}
use Rattle.reading.specs.Faults.{answer_in}
use Rattle.reading.specs.Reading.{Steps}
use Rattle.reading.specs.Calls.{RunsOn}
use Rattle.reading.proofs.Answering.{told, accepts, refuses}
use Rattle.reading.proofs.Continuing.{continues}
use Rattle.reading.proofs.Growth.{rest-joined}
use Rattle.reading.proofs.Stepping.{read_step, read_from-step, step-shorter, steps-longer}
use Rattle.reading.proofs.reader.read_text.Given as given
use Rattle.reading.proofs.reader.read_text.Goals as goal

-- the calls of any lines that are accepted continue every run
runs_on : (g : given.Over) (by : g.row.R.Denot) (s : State) → RunsOn (g.R.Ranking.before by) g.R.Ranking.INPUTS_FIRST s
runs_on g by s =
    let m = g.met.R.Ranking in
    let law = lawful-from g.R.Ranking.before g.R.Ranking.INPUTS_FIRST m.irreflexive m.transitive m.ties m.inputs by in
    record { lawful = law; continues = λ ls u h. continues (record { before = g.R.Ranking.before by; mark = g.R.Ranking.INPUTS_FIRST; lawful = law }) ls s u h }

pub returns-in_err-at_line : goal.returns-in_err-at_line
returns-in_err-at_line g c =
    let before = g.R.Ranking.before c.args.by.now in
    let text = c.args.text.now in
    let s = state_in c.args.session.now in
    let p = position_of c.loop.reader in
    let here = state_in c.loop.session in
    let u = state_in c.take_line.new.session in
    let e = c.in_err-at_line.field-0.0 in
    let r = err_from_is_err_and {Q = λ (y : TextFault ReadFault). y ≡ e} c.from_residual.result c.from_residual.ensures.1 in
    let q = answered-err c.line.result c.take_line.result c.at_line.result e c.at_line.ensures c.in_err-at_line.was in
    let stays = subst (λ x. Steps before p here x (position_of c.take_line.new.reader) u) q.0 c.take_line.ensures.steps in
    let said = ap answer_in (r.1 ∙ ap Err (r.2 ∙ q.1 ∙ ap (λ k. record { line = k; fault = e.fault }) c.line.ensures)) in
    let is = sym c.loop.invariant.0 ∙ read_from-step before p here ∙ ap (read_step before p here) stays.0 ∙ (λ i. record { answer = sym said i; state = sym stays.1.1 i }) in
    record {
      reads = is;
      told = told before s text c.from_residual.result u is;
      accepts = accepts before s text c.from_residual.result u is;
      refuses = refuses before s text c.from_residual.result u is;
      runs = runs_on g c.args.by.now s;
      rest = rest-joined (image_in c.args.session.now) (image_in c.loop.session) (image_in c.take_line.new.session) c.loop.invariant.1 c.take_line.ensures.rest (steps-longer before p here (position_of c.take_line.new.reader) u c.take_line.result c.take_line.ensures.steps);
    }

pub loop-smaller : goal.loop-smaller
loop-smaller g c =
    let before = g.R.Ranking.before c.args.by.now in
    let p = position_of c.loop.reader in
    let here = state_in c.loop.session in
    let q = position_of c.take_line.new.reader in
    let u = state_in c.take_line.new.session in
    let went = answered-ok c.line.result c.take_line.result c.at_line.result c.in_ok-at_line.field-0 c.at_line.ensures c.in_ok-at_line.was ∙ ap Ok c.if-branch.true in
    step-shorter before p here q u (subst (λ x. Steps before p here x q u) went c.take_line.ensures.steps)

pub loop-preserved : goal.loop-preserved
loop-preserved g c =
    let before = g.R.Ranking.before c.args.by.now in
    let p = position_of c.loop.reader in
    let here = state_in c.loop.session in
    let q = position_of c.take_line.new.reader in
    let u = state_in c.take_line.new.session in
    let went = answered-ok c.line.result c.take_line.result c.at_line.result c.in_ok-at_line.field-0 c.at_line.ensures c.in_ok-at_line.was ∙ ap Ok c.if-branch.true in
    let moves = subst (λ x. Steps before p here x q u) went c.take_line.ensures.steps in (
      sym (read_from-step before p here ∙ ap (read_step before p here) moves) ∙ c.loop.invariant.0,
      rest-joined (image_in c.args.session.now) (image_in c.loop.session) (image_in c.take_line.new.session) c.loop.invariant.1 c.take_line.ensures.rest (steps-longer before p here q u c.take_line.result c.take_line.ensures.steps),
    )

pub returns : goal.returns
returns g c =
    let before = g.R.Ranking.before c.args.by.now in
    let text = c.args.text.now in
    let s = state_in c.args.session.now in
    let p = position_of c.loop.reader in
    let here = state_in c.loop.session in
    let q = position_of c.take_line.new.reader in
    let u = state_in c.take_line.new.session in
    let went = answered-ok c.line.result c.take_line.result c.at_line.result c.in_ok-at_line.field-0 c.at_line.ensures c.in_ok-at_line.was ∙ ap Ok c.if-branch.false in
    let stays = subst (λ x. Steps before p here x q u) went c.take_line.ensures.steps in
    let is = sym c.loop.invariant.0 ∙ read_from-step before p here ∙ ap (read_step before p here) stays.0 ∙ (λ i. record { answer = Ok tt; state = sym stays.1.1 i }) in
    record {
      reads = is;
      told = told before s text (Ok tt) u is;
      accepts = accepts before s text (Ok tt) u is;
      refuses = refuses before s text (Ok tt) u is;
      runs = runs_on g c.args.by.now s;
      rest = rest-joined (image_in c.args.session.now) (image_in c.loop.session) (image_in c.take_line.new.session) c.loop.invariant.1 c.take_line.ensures.rest (steps-longer before p here q u c.take_line.result c.take_line.ensures.steps);
    }
