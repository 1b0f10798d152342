use Rattle.std.proofs.Common.{length, sym, refl, ◌∙◌}
use Rattle.std.proofs.lemmas.Result.{err_from_is_err_and}
use Rattle.sweeper.specs.States.{state_in}
use Rattle.evaluation.proofs.Earlier.{same_inputs}
use Rattle.evaluation.proofs.Checked.{ready, room-ready, both_first, both-second, both-filled}
use Rattle.evaluation.proofs.Laned.{all-agree}
use Rattle.evaluation.proofs.both.walk_both.Goals as goal

pub fill-requires : goal.fill-requires
fill-requires g c =
    let is = ready (state_in c.args.session.now).source (length c.args.given.now) (length c.args.source.now) c.in_ok-count.count c.in_ok-count.ensures in
    record { given = is.signals; room = is.room }

-- the inputs of both graphs are as many
pub fill-requires-2 : goal.fill-requires-2
fill-requires-2 g c =
    let s = state_in c.args.session.now in
    let is = ready s.source (length c.args.given.now) (length c.args.source.now) c.in_ok-count.count c.in_ok-count.ensures in
    record {
      given = is.signals ∙ sym (same_inputs s c.args.session.now.reached);
      room = room-ready s.reduced (length c.args.reduced.now) c.in_ok-check_room.field-0 c.in_ok-check_room.ensures;
    }

pub returns-in_err-count : goal.returns-in_err-count
returns-in_err-count g c =
    let p = err_from_is_err_and c.from_residual.result c.from_residual.ensures.1 in
    rw p.1 record {
      answer = both_first (state_in c.args.session.now) (length c.args.given.now) (length c.args.source.now) (length c.args.reduced.now) p.0 c.in_err-count.field-0.0 p.2 c.in_err-count.ensures;
      source = refl {a = c.args.source.now};
      reduced = refl {a = c.args.reduced.now};
      agree = tt;
    }

pub returns-in_err-check_room : goal.returns-in_err-check_room
returns-in_err-check_room g c =
    let p = err_from_is_err_and c.from_residual-in_err-check_room.result c.from_residual-in_err-check_room.ensures.1 in
    rw p.1 record {
      answer = both-second (state_in c.args.session.now) (length c.args.given.now) (length c.args.source.now) (length c.args.reduced.now) c.in_ok-count.count c.in_ok-count.ensures p.0 c.in_err-check_room.field-0.0 p.2 c.in_err-check_room.ensures;
      source = refl {a = c.args.source.now};
      reduced = refl {a = c.args.reduced.now};
      agree = tt;
    }

pub returns : goal.returns
returns g c =
    let laws = g.met.S.Signal in
    record {
      answer = both-filled (state_in c.args.session.now) (length c.args.given.now) (length c.args.source.now) (length c.args.reduced.now) c.in_ok-count.count c.in_ok-count.ensures c.in_ok-check_room.field-0 c.in_ok-check_room.ensures;
      source = c.fill.ensures;
      reduced = c.fill-2.ensures;
      agree = all-agree g.S.Signal (λ i h. record { lows = laws.lows i h; meets = λ a b. laws.meets a b i h; flips = λ a. laws.flips a i h })
          (state_in c.args.session.now) c.args.session.now.reached c.args.given.now c.args.source.now c.args.reduced.now c.fill.new.places c.fill-2.new.places c.fill.ensures c.fill-2.ensures;
    }
