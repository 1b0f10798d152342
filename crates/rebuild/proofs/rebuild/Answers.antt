use Rattle.std.proofs.Common.{Ok, refl, subst}
use Rattle.std.proofs.lemmas.Result.{err_from_is_err_and}
use Rattle.reading.specs.Faults.{stop_in}
use Rattle.reading.specs.Net.{Follows, Refused}
use Rattle.listing.specs.Sections.{net_text}
use Rattle.sweeper.specs.States.{state_in}
use Rattle.rebuild.proofs.Carried.{Accepting, read_back, rebuilds_short, rebuilds_refused, rebuilds_read}
use Rattle.rebuild.proofs.rebuild.Goals as goal

pub returns-in_err-length : goal.returns-in_err-length
returns-in_err-length g c =
    let s = state_in c.args.listed.now in
    let t = state_in c.args.into.now in
    let p = err_from_is_err_and c.from_residual.result c.from_residual.ensures.1 in
    let w = c.in_err-length.ensures in
    rw (p.1, p.2) record { carries = (w.0, w.1, w.2, refl); rebuilds = rebuilds_short (g.R.Ranking.before c.args.by.now) s t c.args.page.now _ t w.1 }

pub returns-in_err-read_text-clause-carries : goal.returns-in_err-read_text-clause-carries
returns-in_err-read_text-clause-carries g c =
    let f = g.R.Ranking.before c.args.by.now in
    let s = state_in c.args.listed.now in
    let t = state_in c.args.into.now in
    let u = state_in c.read_text.new.session in
    let w = c.in_ok-length.ensures in
    let p = err_from_is_err_and c.from_residual-in_err-read_text.result c.from_residual-in_err-read_text.ensures.1 in
    let back = read_back (net_text s) c.args.page.now c.write_net.new.page c.in_ok-length.length w.0 w.2 in
    rw (p.1, p.2) (w.2, subst (λ x. Refused f t x (stop_in c.in_err-read_text.field-0.0) u) back c.in_err-read_text.ensures.told)

pub returns-in_err-read_text-clause-rebuilds : goal.returns-in_err-read_text-clause-rebuilds
returns-in_err-read_text-clause-rebuilds g c =
    let f = g.R.Ranking.before c.args.by.now in
    let s = state_in c.args.listed.now in
    let t = state_in c.args.into.now in
    let u = state_in c.read_text.new.session in
    let w = c.in_ok-length.ensures in
    let back = read_back (net_text s) c.args.page.now c.write_net.new.page c.in_ok-length.length w.0 w.2 in
    let accepts = subst (λ x. Accepting f t x c.read_text.result u) back c.read_text.ensures.accepts in
    rebuilds_refused f s t c.args.page.now _ u c.args.listed.now.reached c.read_text.result accepts c.in_err-read_text.field-0.0 c.in_err-read_text.was

pub returns : goal.returns
returns g c =
    let f = g.R.Ranking.before c.args.by.now in
    let s = state_in c.args.listed.now in
    let t = state_in c.args.into.now in
    let u = state_in c.read_text.new.session in
    let w = c.in_ok-length.ensures in
    let back = read_back (net_text s) c.args.page.now c.write_net.new.page c.in_ok-length.length w.0 w.2 in
    let accepts = subst (λ x. Accepting f t x c.read_text.result u) back c.read_text.ensures.accepts in
    record {
      carries = (w.0, w.2, subst (λ x. Follows f t x u) back c.in_ok-read_text.ensures.told);
      rebuilds = rebuilds_read f s t c.args.page.now (Ok c.in_ok-length.length) u c.args.listed.now.reached c.read_text.result accepts c.in_ok-length.length w.0 refl;
    }
