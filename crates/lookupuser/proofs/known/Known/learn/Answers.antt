use Rattle.std.proofs.Common.{◌≡◌, ℕ, false, not, ◌&&◌, is_some, Some, None, Option, sym, refl, ap, ◌∙◌, arith}
use Rattle.std.proofs.lemmas.Bool.{lt-ltb}
use Rattle.lookup.specs.Hash.{hashed_slot}
use Rattle.lookup.specs.Slots.{found}
use Rattle.lookup.specs.Entries.{Stands}
use Rattle.lookupuser.specs.declared.known.Known.{Known}
use Rattle.lookupuser.specs.Leaves.{leaf_meaning}
use Rattle.lookupuser.proofs.known.Known.learn.Goals as goal

-- what a table with these facts stands for
stands : (k : Known) → Stands leaf_meaning hashed_slot k.keys.slots.now (found leaf_meaning hashed_slot k.keys.slots.now) k.count
stands k = record { tidy = k.tidy; gives = λ q. refl; count = k.counted }

absent : (o : Option ℕ) → is_some o ≡ false → o ≡ None
absent None e = refl
absent (Some v) e = cc

pub invariant_of-self : goal.invariant_of-self
invariant_of-self c =
    let k = c.args.self.now in
    let none = sym c.find.ensures.exact ∙ absent c.find.result (sym c.is_some.ensures ∙ c.if-is_some.false) in
    let new = c.enter.ensures.new (found leaf_meaning hashed_slot k.keys.slots.now) k.count (stands k) none (omega (arith, k.room, c.if-self.false)) in
    record { tidy = new.1.tidy; counted = new.1.count; room = omega (arith, c.enter.ensures.room, k.room) }

pub returns-clause-told : goal.returns-clause-told
returns-clause-told c =
    let k = c.args.self.now in
    let m = leaf_meaning c.args.key in
    let none = sym c.find.ensures.exact ∙ absent c.find.result (sym c.is_some.ensures ∙ c.if-is_some.false) in
    sym (ap (λ t. t && not (is_some (found leaf_meaning hashed_slot k.keys.slots.now m))) (lt-ltb k.count k.limit (omega arith)) ∙ ap (λ o. not (is_some o)) none)

pub returns-clause-learned : goal.returns-clause-learned
returns-clause-learned c = λ _.
    let k = c.args.self.now in
    let none = sym c.find.ensures.exact ∙ absent c.find.result (sym c.is_some.ensures ∙ c.if-is_some.false) in
    let new = c.enter.ensures.new (found leaf_meaning hashed_slot k.keys.slots.now) k.count (stands k) none (omega (arith, k.room, c.if-self.false)) in
    new.1.gives
