use Rattle.std.proofs.Common.{◌≡◌, ◌+◌, ◌*◌, ◌-◌, ◌<◌, max, List, [], ◌∷◌, length, get_or, sym, refl, ap, ◌∙◌, subst, ap₂, arith, length-set, rules}
use Rattle.lookup.specs.Pairs.{pair_meaning}
use Rattle.lookup.specs.Hash.{hashed_slot}
use Rattle.lookup.specs.Entries.{Stands, with_entry, taken}
use Rattle.search.specs.declared.rows.ReducedRow.{ReducedRow}
use Rattle.search.specs.declared.rows.Node.TheVariants.{Gate}
use Rattle.sweeper.specs.Tables.{image, with_keys, with_reduced, with_pairs, with_row, used_at, used_once, no_reduced, pair_look, graph_of, Grown, Enters}
use Rattle.model.specs.Edges.{node_of}
use Rattle.sweeper.proofs.Lists.{in_use, pushed, with_lists}
use Rattle.sweeper.proofs.Growth.{grown, row-height-few, row-uses-few, used-other}
use Rattle.sweeper.proofs.core_state.Core.grow.Goals as goal

pub overflow_add-height : goal.overflow_add-height
overflow_add-height c =
    let i = image c.args.self.now in
    let g = c.requires.growable in
    let x = c.node-first.ensures in
    let y = c.node-second.ensures in
    let hx = row-height-few i c.requires.sound c.node-first.result (omega (arith, g.first)) (omega (arith, g.first_known)) in
    let hy = row-height-few i c.requires.sound c.node-second.result (omega (arith, g.second)) (omega (arith, g.second_known)) in
    let fits : c.max-height.result + 1 < 65536 = omega (arith, c.max-height.ensures, c.height_of.ensures, c.height_of-2.ensures, c.requires.sound.few, c.requires.sound.room, c.requires.sound.fewer) in
    search rules

pub use_node-requires : goal.use_node-requires
use_node-requires c =
    let i = image c.args.self.now in
    let g = c.requires.growable in
    let s = c.requires.sound in
    let x = c.node-first.ensures in
    let same : (image c.enter_keys.new.self).reduced ≡ i.reduced = ap (λ j. j.reduced) c.enter_keys.ensures.frame ∙ ap (λ j. j.reduced) c.store_cuts.ensures in
    let few = row-uses-few i s c.node-first.result (omega (arith, g.first)) (omega (arith, g.first_known)) in
    record {
      some = omega (arith, g.first);
      known = omega (arith, g.first_known, ap (λ j. j.nodes) c.enter_keys.ensures.frame, ap (λ j. j.nodes) c.store_cuts.ensures);
      few = subst (λ (l : List ReducedRow). (get_or l (c.node-first.result - 1) no_reduced).facts.uses < 65535) (sym same) (omega (arith, few, s.few, s.room, s.fewer));
    }

pub use_node-requires-2 : goal.use_node-requires-2
use_node-requires-2 c =
    let i = image c.args.self.now in
    let g = c.requires.growable in
    let s = c.requires.sound in
    let x = c.node-first.ensures in
    let y = c.node-second.ensures in
    let a = c.node-first.result - 1 in
    let b = c.node-second.result - 1 in
    let before : (image c.enter_keys.new.self).reduced ≡ i.reduced = ap (λ j. j.reduced) c.enter_keys.ensures.frame ∙ ap (λ j. j.reduced) c.store_cuts.ensures in
    let same : (image c.use_node.new.self).reduced ≡ used_at a i.reduced = ap (λ j. j.reduced) c.use_node.ensures ∙ ap (used_at a) before in
    let few = row-uses-few i s c.node-second.result (omega (arith, g.second)) (omega (arith, g.second_known)) in
    let fits : a < length i.reduced = omega (arith, g.first, g.first_known, g.room, s.room, s.reduced_rows) in
    let other : get_or (used_at a i.reduced) b no_reduced ≡ get_or i.reduced b no_reduced = used-other i.reduced a fits b (λ z. g.apart (omega (arith, g.first, g.second))) in
    record {
      some = omega (arith, g.second);
      known = omega (arith, g.second_known, ap (λ j. j.nodes) c.use_node.ensures, ap (λ j. j.nodes) c.enter_keys.ensures.frame, ap (λ j. j.nodes) c.store_cuts.ensures);
      few = subst (λ (l : List ReducedRow). (get_or l b no_reduced).facts.uses < 65535) (sym same) (subst (λ (r : ReducedRow). r.facts.uses < 65535) (sym other) (omega (arith, few, s.few, s.room, s.fewer)));
    }

pub returns : goal.returns
returns c =
    let i = image c.args.self.now in
    let g = c.requires.growable in
    let s = c.requires.sound in
    let x = c.args.x in
    let y = c.args.y in
    let kept = c.args.kept.now in
    let keys = (image c.enter_keys.new.self).keys in
    let pairs = c.enter.new.self.slots.now in
    let e₁ = c.store_cuts.ensures in
    let e₂ = c.enter_keys.ensures.frame ∙ ap (λ j. with_keys j keys) e₁ in
    let e₃ = ap (λ j. with_pairs j pairs) e₂ in
    let e₄ = c.use_node.ensures ∙ ap₂ (λ j n. with_reduced j (used_at (n - 1) j.reduced)) e₃ c.node-first.ensures in
    let e₅ = c.use_node-2.ensures ∙ ap₂ (λ j n. with_reduced j (used_at (n - 1) j.reduced)) e₄ c.node-second.ensures in
    let h = c.max-height.result + 1 in
    let row : ReducedRow = record { node = Gate x y; facts = record { height = h; uses = 0 }; kept = length kept } in
    let used = image c.use_node-2.new.self in
    let fits : used.nodes < length used.reduced = omega (
      arith,
      ap (λ j. j.nodes) e₅,
      ap (λ j. length j.reduced) e₅,
      length-set i.reduced (node_of x.number - 1) (used_once (get_or i.reduced (node_of x.number - 1) no_reduced)),
      length-set (used_at (node_of x.number - 1) i.reduced) (node_of y.number - 1) (used_once (get_or (used_at (node_of x.number - 1) i.reduced) (node_of y.number - 1) no_reduced)),
      g.room,
      s.room,
      s.reduced_rows,
    ) in
    let p = pushed c.use_node-2.new.self.reduced c.push.new.self row c.push.ensures.items c.push.ensures.rest fits in
    let e₆ : with_lists used used.source used.sources c.push.new.self.places.now c.push.new.self.count used.outputs used.outs ≡ with_row used row = λ j. with_lists used used.source used.sources (p.0 j) (p.1 j) used.outputs used.outs in
    let number = c.new-edge.ensures ∙ ap (λ n. 2 * (n + 1)) (c.len.ensures ∙ in_use c.args.self.now.reduced) in
    let look = pair_look (graph_of i) in
    let was : (image c.enter_keys.new.self).pairs ≡ i.pairs = ap (λ j. j.pairs) e₂ in
    let key = ap₂ (λ a b. a ∷ (b ∷ [])) c.number.ensures c.number-2.ensures in
    let stood : Stands pair_meaning hashed_slot (image c.enter_keys.new.self).pairs look (taken (image c.enter_keys.new.self).pairs) =
    subst (λ l. Stands pair_meaning hashed_slot l look (taken l)) (sym was) (record { tidy = s.tidy_pairs; gives = s.pairs; count = refl }) in
    let size : taken (image c.enter_keys.new.self).pairs < length (image c.enter_keys.new.self).pairs =
    subst (λ l. taken l < length l) (sym was) (omega (arith, s.few_pairs, g.room, s.room, s.pair_slots)) in
    let new = c.enter.ensures.new look (taken (image c.enter_keys.new.self).pairs) stood (ap look key ∙ g.new_pair) size in
    let paired : Stands pair_meaning hashed_slot pairs (with_entry (x.number ∷ y.number ∷ []) c.new-edge.result.number look) (taken i.pairs + 1) = record {
      tidy = new.1.tidy;
      gives = λ q. new.1.gives q ∙ ap₂ (λ k v. with_entry k v look q) key c.number-3.ensures;
      count = new.1.count ∙ ap (λ l. taken l + 1) was;
    } in
    let entered : Enters kept c.new-edge.result.number i.keys keys = subst (λ l. Enters kept c.new-edge.result.number l keys) (ap (λ j. j.keys) e₁) c.enter_keys.ensures.enters in
    let high = ap (λ n. n + 1) (c.max-height.ensures ∙ ap₂ max (c.height_of.ensures ∙ ap (λ n. (get_or i.reduced (n - 1) no_reduced).facts.height) c.node-first.ensures) (c.height_of-2.ensures ∙ ap (λ n. (get_or i.reduced (n - 1) no_reduced).facts.height) c.node-second.ensures)) in
    record {
      grown = subst (Grown i x.number y.number kept) (sym (e₆ ∙ ap (λ j. with_row j row) e₅))
          (grown i s x y kept g c.new-edge.result.number h number high pairs keys paired (c.enter.ensures.room ∙ ap length was) entered);
      is = number;
    }
