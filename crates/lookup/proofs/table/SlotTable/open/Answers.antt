use Rattle.std.proofs.Common.{rules, ◌≡◌, length, replicate, None}
use Rattle.lookup.proofs.Standing.{free-stands, free-holds}
use Rattle.lookup.proofs.table.SlotTable.open.Goals as goal

pub returns-clause-stands : goal.returns-clause-stands
returns-clause-stands g c =
    let all : c.fill.new.self ≡ replicate (length c.args.slots.now) None = search rules in rw all (free-stands g.K.Key.meaning g.K.HashedKey.slot (length c.args.slots.now))

pub returns-clause-holds : goal.returns-clause-holds
returns-clause-holds g c =
    let all : c.fill.new.self ≡ replicate (length c.args.slots.now) None = search rules in rw all (free-holds g.K.Key.meaning g.K.HashedKey.slot (length c.args.slots.now))
