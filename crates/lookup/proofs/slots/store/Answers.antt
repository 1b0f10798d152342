use Rattle.std.proofs.Common.{rules, ◌≡◌, ◌<◌, length, get_or, true, false, None, is_some, sym, refl, ap, ◌∙◌}
use Rattle.std.proofs.lemmas.List.{get_or_default}
use Rattle.lookup.proofs.Ends.{taken_there, free_there}
use Rattle.lookup.proofs.slots.store.Goals as goal

pub returns-then-is_some : goal.returns-then-is_some
returns-then-is_some g c =
    let xs = c.args.slots.now in
    let i = c.in_ok-at.at in
    let end = sym c.probe.ensures.exact ∙ c.in_ok-at.ensures.ok_part in
    let within : i < length xs = rw c.in_ok-at.ensures.ok_part at c.probe.ensures.within in
    let held : is_some (get_or xs i c.index-slots-at.result) ≡ true = search rules in
    let found = taken_there g.K.Key.meaning g.K.HashedKey.slot xs (g.K.Key.meaning c.args.key) i end (ap is_some (get_or_default xs i None c.index-slots-at.result within) ∙ held) in
    record { slots = rw found.1 refl; answer = rw found.1 refl }

pub returns : goal.returns
returns g c =
    let xs = c.args.slots.now in
    let i = c.in_ok-at.at in
    let end = sym c.probe.ensures.exact ∙ c.in_ok-at.ensures.ok_part in
    let within : i < length xs = rw c.in_ok-at.ensures.ok_part at c.probe.ensures.within in
    let held : is_some (get_or xs i c.index-slots-at.result) ≡ false = search rules in
    let free = free_there g.K.Key.meaning g.K.HashedKey.slot xs (g.K.Key.meaning c.args.key) i end (ap is_some (get_or_default xs i None c.index-slots-at.result within) ∙ held) in
    record { slots = rw free refl; answer = rw free refl }
