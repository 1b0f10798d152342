use Rattle.std.proofs.Common.{sym, ap, ◌∙◌}
use Rattle.model.proofs.Keys.{same-is}
use Rattle.lookup.specs.Slots.{ends}
use Rattle.lookup.proofs.slots.is_end.Goals as goal

pub returns-in-Some : goal.returns-in-Some
returns-in-Some g c =
    let mean = g.K.Key.meaning in
    let m = mean c.args.key.now in
    sym (ap (ends mean m) c.in-Some.is ∙ same-is (mean c.in-Some.k) m c.same.result c.same.ensures.yes c.same.ensures.no)
