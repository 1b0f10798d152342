use Rattle.std.proofs.Common.{◌≡◌, Ok, Err, refl, ap₂, min, max, ◌∙◌, arith, rules}
use Rattle.model.proofs.Sound.{extends}
use Rattle.rankings.proofs.Laws.{lawful-from}
use Rattle.sweeper.specs.Tables.{image}
use Rattle.sweeper.proofs.Gated.{same_rest, gate-first, gate-second, gate-full}
use Rattle.sweeper.proofs.Lists.{in_use}
use Rattle.sweeper.proofs.Mapping.{mapped_parts}
use Rattle.sweeper.proofs.session.Session.gate.Goals as goal

pub returns-in_err-p : goal.returns-in_err-p
returns-in_err-p g c =
    let m = g.met.R.Ranking in
    let law = lawful-from g.R.Ranking.before g.R.Ranking.INPUTS_FIRST m.irreflexive m.transitive m.ties m.inputs c.args.by.now in
    let i = image c.args.self.now.core in
    let p = mapped_parts i c.args.a 0 (Err c.in_err-p.field-0.0) c.in_err-p.ensures in
    let is : c.from_residual.result ≡ Err c.in_err-p.field-0.0 = search rules in
    rw (is, p.1) (record { runs = record { lawful = law; extends = extends (gate-first i _ c.args.a.number c.args.b.number p.0) }; rest = same_rest i; refused = refl })

pub returns-in_err-q : goal.returns-in_err-q
returns-in_err-q g c =
    let m = g.met.R.Ranking in
    let law = lawful-from g.R.Ranking.before g.R.Ranking.INPUTS_FIRST m.irreflexive m.transitive m.ties m.inputs c.args.by.now in
    let i = image c.args.self.now.core in
    let p = mapped_parts i c.args.a 0 (Ok c.in_ok-p.p) c.in_ok-p.ensures in
    let q = mapped_parts i c.args.b 1 (Err c.in_err-q.field-0.0) c.in_err-q.ensures in
    let is : c.from_residual-in_err-q.result ≡ Err c.in_err-q.field-0.0 = search rules in
    rw (is, q.1) (record { runs = record { lawful = law; extends = extends (gate-second i _ c.args.a.number c.args.b.number p.0 q.0) }; rest = same_rest i; refused = refl })

pub returns-then-len-self : goal.returns-then-len-self
returns-then-len-self g c =
    let m = g.met.R.Ranking in
    let law = lawful-from g.R.Ranking.before g.R.Ranking.INPUTS_FIRST m.irreflexive m.transitive m.ties m.inputs c.args.by.now in
    let i = image c.args.self.now.core in
    let p = mapped_parts i c.args.a 0 (Ok c.in_ok-p.p) c.in_ok-p.ensures in
    let q = mapped_parts i c.args.b 1 (Ok c.in_ok-q.q) c.in_ok-q.ensures in
    record { runs = record { lawful = law; extends = extends (gate-full i _ c.args.a.number c.args.b.number p.0 q.0 (omega (arith, c.if-len-self.true, c.len.ensures, in_use c.args.self.now.core.source))) }; rest = same_rest i; refused = refl }

pub sweep-requires : goal.sweep-requires
sweep-requires g c =
    let i = image c.args.self.now.core in
    let p = mapped_parts i c.args.a 0 (Ok c.in_ok-p.p) c.in_ok-p.ensures in
    let q = mapped_parts i c.args.b 1 (Ok c.in_ok-q.q) c.in_ok-q.ensures in
    let low : c.min.result.number ≡ min c.in_ok-p.p.number c.in_ok-q.q.number = search rules in
    let high : c.max.result.number ≡ max c.in_ok-p.p.number c.in_ok-q.q.number = search rules in
    record {
      first = p.0;
      second = q.0;
      room = omega (arith, c.if-len-self.false, c.len.ensures, in_use c.args.self.now.core.source);
      low = low ∙ ap₂ min p.1 q.1;
      high = high ∙ ap₂ max p.1 q.1;
    }

pub returns : goal.returns
returns g c = record {
  runs = record { lawful = c.sweep.ensures.gates.lawful; extends = extends c.sweep.ensures.gates.steps };
  rest = c.sweep.ensures.rest;
  refused = tt;
}
