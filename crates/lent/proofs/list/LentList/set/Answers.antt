use Rattle.lent.proofs.Inserting.{take_set}
use Rattle.lent.proofs.list.LentList.set.Goals as goal

pub returns-clause-items : goal.returns-clause-items
returns-clause-items g c = take_set c.args.self.now.count c.args.self.now.places.now c.args.place c.args.item
