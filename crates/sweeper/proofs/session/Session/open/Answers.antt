use Rattle.std.proofs.Common.{◌≡◌, take, refl, sym, ap, ◌∙◌, subst, arith, length-take}
use Rattle.model.specs.Sessions.{output_limit}
use Rattle.model.specs.Runs.{opening}
use Rattle.sweeper.specs.Tables.{Sound, lengths_of, state_of}
use Rattle.sweeper.proofs.Fresh.{capacity_lem, fresh, fresh-sound, fresh-state, take_min}
use Rattle.sweeper.proofs.Lists.{emptied, with_lists}
use Rattle.sweeper.proofs.session.Session.open.Goals as goal

pub invariant_of-result : goal.invariant_of-result
invariant_of-result c =
    let t = c.args.tables in
    let n = lengths_of t in
    let most = capacity_lem n _ _ _ _ _ c.min-by_cuts.ensures c.min.ensures c.min-2.ensures c.min-by_rows.ensures c.min-3.ensures in
    let rows = length-take c.min-rows.result t.outputs.now in
    let p = emptied c.new.result t.source.now c.new.ensures.empty c.new.ensures.rest in
    let q = emptied c.new-2.result t.reduced.now c.new-2.ensures.empty c.new-2.ensures.rest in
    let r = emptied c.new-3.result (take c.min-rows.result t.outputs.now) c.new-3.ensures.empty c.new-3.ensures.rest in
    let i = fresh t.source.now t.reduced.now t.cuts.now c.open.result.slots.now c.open-2.result.slots.now (take c.min-rows.result t.outputs.now) c.min-3.result c.new-4.result in
    let same : with_lists i c.new.result.places.now c.new.result.count c.new-2.result.places.now c.new-2.result.count c.new-3.result.places.now c.new-3.result.count ≡ i = λ j. with_lists i (p.0 j) (p.1 j) (q.0 j) (q.1 j) (r.0 j) (r.1 j) in
    record {
      sound = subst Sound (sym same) (fresh-sound t.source.now t.reduced.now t.cuts.now c.open.result.slots.now c.open-2.result.slots.now i.outputs c.min-3.result c.new-4.result n.outputs n.pairs n.keys most
          c.open.ensures.room c.open-2.ensures.room (omega (arith, c.min-rows.ensures)) c.open.ensures.stands c.open-2.ensures.stands c.new-4.ensures.rows);
      reached = ∣ record {
        tables = n;
        events = _;
        run = opening (ap state_of same ∙ fresh-state t.source.now t.reduced.now t.cuts.now c.open.result.slots.now c.open-2.result.slots.now i.outputs c.min-3.result c.new-4.result n most (omega (arith, c.min-rows.ensures)) c.new-4.ensures.none);
      } ∣₁;
    }

pub returns : goal.returns
returns c =
    let t = c.args.tables in
    let n = lengths_of t in
    let most = capacity_lem n _ _ _ _ _ c.min-by_cuts.ensures c.min.ensures c.min-2.ensures c.min-by_rows.ensures c.min-3.ensures in
    let rows = length-take c.min-rows.result t.outputs.now in
    let p = emptied c.new.result t.source.now c.new.ensures.empty c.new.ensures.rest in
    let q = emptied c.new-2.result t.reduced.now c.new-2.ensures.empty c.new-2.ensures.rest in
    let r = emptied c.new-3.result (take c.min-rows.result t.outputs.now) c.new-3.ensures.empty c.new-3.ensures.rest in
    let i = fresh t.source.now t.reduced.now t.cuts.now c.open.result.slots.now c.open-2.result.slots.now (take c.min-rows.result t.outputs.now) c.min-3.result c.new-4.result in
    let same : with_lists i c.new.result.places.now c.new.result.count c.new-2.result.places.now c.new-2.result.count c.new-3.result.places.now c.new-3.result.count ≡ i = λ j. with_lists i (p.0 j) (p.1 j) (q.0 j) (q.1 j) (r.0 j) (r.1 j) in
    record {
      source = p.0;
      reduced = q.0;
      cuts = refl;
      outputs = r.0 ∙ ap (λ n. take n t.outputs.now) c.min-rows.ensures ∙ take_min output_limit t.outputs.now;
      run = opening (ap state_of same ∙ fresh-state t.source.now t.reduced.now t.cuts.now c.open.result.slots.now c.open-2.result.slots.now i.outputs c.min-3.result c.new-4.result n most (omega (arith, c.min-rows.ensures)) c.new-4.ensures.none);
    }
