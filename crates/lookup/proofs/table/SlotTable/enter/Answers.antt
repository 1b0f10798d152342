use Rattle.std.proofs.Common.{◌∙◌}
use Rattle.lookup.proofs.Standing.{answers, new-stands, after_holds}
use Rattle.lookup.proofs.table.SlotTable.enter.Goals as goal

pub returns-clause-told : goal.returns-clause-told
returns-clause-told g c = c.store.ensures.answer ∙ answers g.K.Key.meaning g.K.HashedKey.slot g.met.K.HashedKey.within c.args.self.now.slots.now c.args.key c.args.value

pub returns-clause-new : goal.returns-clause-new
returns-clause-new g c = λ look n s e l.
    rw (c.store.ensures.slots, c.store.ensures.answer)
    (new-stands g.K.Key.meaning g.K.HashedKey.slot g.met.K.HashedKey.within c.args.self.now.slots.now c.args.key c.args.value look n s e l)

pub returns-clause-holds : goal.returns-clause-holds
returns-clause-holds g c = λ entries s.
    rw (c.store.ensures.slots, c.store.ensures.answer)
    (after_holds g.K.Key.meaning g.K.HashedKey.slot g.met.K.HashedKey.within c.args.self.now.slots.now c.args.key c.args.value entries s)
