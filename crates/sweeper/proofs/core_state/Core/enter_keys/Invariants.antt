use Rattle.std.proofs.Common.{◌≡◌, take}
use Rattle.sweeper.specs.Tables.{image, with_keys, Enters}
use Rattle.sweeper.proofs.core_state.Core.enter_keys.Given as goal

abbrev pub invariant-loop-cut : goal.invariant-loop-cut
invariant-loop-cut l =
    (image l.self ≡ with_keys (image l.initial.self) (image l.self).keys)
    × Enters (take l.cut-index l.kept) l.edge.number (image l.initial.self).keys (image l.self).keys
