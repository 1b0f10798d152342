use Rattle.std.proofs.Common.{length, refl}
use Rattle.std.proofs.lemmas.Result.{err_from_is_err_and}
use Rattle.model.specs.Sessions.{filled}
use Rattle.sweeper.specs.States.{state_in}
use Rattle.evaluation.specs.Sides.{graph_in, side_in}
use Rattle.evaluation.proofs.Checked.{walk_extends, walk_refused, ready}
use Rattle.evaluation.proofs.walking.walk.Goals as goal

pub fill-requires : goal.fill-requires
fill-requires g c =
    let is = ready (graph_in c.args.side c.args.session.now) (length c.args.given.now) (length c.args.places.now) c.in_ok-count.count c.in_ok-count.ensures in
    record { given = is.signals; room = is.room }

pub returns-in_err-count : goal.returns-in_err-count
returns-in_err-count g c =
    let p = err_from_is_err_and c.from_residual.result c.from_residual.ensures.1 in
    rw p.1 record {
      runs = walk_refused (side_in c.args.side) (state_in c.args.session.now) (length c.args.given.now) (length c.args.places.now) p.0 c.in_err-count.field-0.0 p.2 c.in_err-count.ensures;
      places = refl {a = c.args.places.now};
    }

pub returns : goal.returns
returns g c = record {
  runs = walk_extends (side_in c.args.side) (state_in c.args.session.now) (length c.args.given.now) (length c.args.places.now) (filled c.in_ok-count.count) c.in_ok-count.ensures;
  places = c.fill.ensures;
}
