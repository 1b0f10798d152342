use Rattle.std.proofs.Common.{refl, subst, ap, ◌∙◌}
use Rattle.std.proofs.lemmas.Result.{err_from_is_err_and}
use Rattle.model.specs.Rankings.{by_height}
use Rattle.reading.specs.Faults.{stop_in}
use Rattle.reading.specs.Net.{Refused}
use Rattle.sweeper.specs.States.{state_in}
use Rattle.netsweep.specs.Sweeping.{stopped, too_wide}
use Rattle.netsweep.proofs.Putting.{opened-run, swept, wanting}
use Rattle.netsweep.proofs.sweep_short.Goals as goal

pub returns-in_err-read_text : goal.returns-in_err-read_text
returns-in_err-read_text c =
    let p = err_from_is_err_and c.from_residual.result c.from_residual.ensures.1 in
    let u = state_in c.read_text.new.session in
    let e = c.in_err-read_text.field-0.0 in
    rw p.1 (stopped e u (subst (λ x. Refused by_height x c.args.text.now (stop_in e) u) (opened-run c.open-session.ensures.run) c.in_err-read_text.ensures.told) p.2, refl)

pub returns-in_err-write_report : goal.returns-in_err-write_report
returns-in_err-write_report c =
    let p = err_from_is_err_and c.from_residual-in_err-write_report.result c.from_residual-in_err-write_report.ensures.1 in
    let s = state_in c.open-session.result in
    let u = state_in c.read_text.new.session in
    let w = c.in_err-write_report.ensures in
    rw p.1 (too_wide u (swept s c.args.text.now u c.open-session.ensures.run c.in_ok-read_text.ensures.told c.read_text.ensures.runs) w.1 (p.2 ∙ ap wanting w.0), w.2)

pub returns : goal.returns
returns c =
    let s = state_in c.open-session.result in
    let u = state_in c.read_text.new.session in
    let w = c.in_ok-write_report.ensures in
    record { state = u; swept = swept s c.args.text.now u c.open-session.ensures.run c.in_ok-read_text.ensures.told c.read_text.ensures.runs; count = w.0; fits = w.1; page = w.2 }
