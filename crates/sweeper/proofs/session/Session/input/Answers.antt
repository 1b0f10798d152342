use Rattle.std.proofs.Common.{◌≡◌, ◌+◌, ◌*◌, ◌<◌, refl, sym, ap, ◌∙◌, subst, arith, drop-set-lt}
use Rattle.model.specs.RunLaws.{Extends}
use Rattle.model.specs.Sessions.{positions, input_call, node}
use Rattle.model.proofs.Sound.{extends}
use Rattle.sweeper.specs.Runs.{Reached}
use Rattle.sweeper.specs.Tables.{Sound, Rest, image, state_of}
use Rattle.sweeper.proofs.Inputting.{after_input, input-sound, input-steps, input-full}
use Rattle.sweeper.proofs.Lists.{in_use, pushed, with_lists}
use Rattle.sweeper.proofs.Gated.{same_rest}
use Rattle.sweeper.proofs.Reaching.{reached-more}
use Rattle.sweeper.proofs.session.Session.input.Goals as goal

pub returns-then-at-core : goal.returns-then-at-core
returns-then-at-core c =
    let i = image c.args.self.now.core in
    record { runs = extends (input-full i (omega (arith, c.if-at-core.true, c.len-at.ensures, in_use c.args.self.now.core.source))); rest = same_rest i; refused = refl }

pub invariant_of-self-2 : goal.invariant_of-self-2
invariant_of-self-2 c =
    let i = image c.args.self.now.core in
    let s = c.args.self.now.sound in
    let e = c.new-mapped.result in
    let room : i.sources < i.capacity = omega (arith, c.if-at-core.false, c.len-at.ensures, in_use c.args.self.now.core.source) in
    let number : e.number ≡ 2 * (i.nodes + 1) = c.new-mapped.ensures ∙ ap (λ n. 2 * (n + 1)) (c.len.ensures ∙ in_use c.args.self.now.core.reduced) in
    let p = pushed c.args.self.now.core.source c.push-2.new.self _ c.push-2.ensures.items c.push-2.ensures.rest (omega (arith, room, s.source_rows)) in
    let q = pushed c.args.self.now.core.reduced c.push.new.self _ c.push.ensures.items c.push.ensures.rest (omega (arith, room, s.fewer, s.reduced_rows)) in
    let same : with_lists i c.push-2.new.self.places.now c.push-2.new.self.count c.push.new.self.places.now c.push.new.self.count i.outputs i.outs ≡ after_input i e = λ j. with_lists i (p.0 j) (p.1 j) (q.0 j) (q.1 j) i.outputs i.outs in
    record {
      sound = subst Sound (sym same) (input-sound i s e room number c.args.self.now.reached);
      reached = subst (λ d. Reached (state_of d)) (sym same) (reached-more (input-steps i s e room number) c.args.self.now.reached);
    }

pub returns : goal.returns
returns c =
    let i = image c.args.self.now.core in
    let s = c.args.self.now.sound in
    let e = c.new-mapped.result in
    let room : i.sources < i.capacity = omega (arith, c.if-at-core.false, c.len-at.ensures, in_use c.args.self.now.core.source) in
    let number : e.number ≡ 2 * (i.nodes + 1) = c.new-mapped.ensures ∙ ap (λ n. 2 * (n + 1)) (c.len.ensures ∙ in_use c.args.self.now.core.reduced) in
    let p = pushed c.args.self.now.core.source c.push-2.new.self _ c.push-2.ensures.items c.push-2.ensures.rest (omega (arith, room, s.source_rows)) in
    let q = pushed c.args.self.now.core.reduced c.push.new.self _ c.push.ensures.items c.push.ensures.rest (omega (arith, room, s.fewer, s.reduced_rows)) in
    let same : with_lists i c.push-2.new.self.places.now c.push-2.new.self.count c.push.new.self.places.now c.push.new.self.count i.outputs i.outs ≡ after_input i e = λ j. with_lists i (p.0 j) (p.1 j) (q.0 j) (q.1 j) i.outputs i.outs in
    let count = c.len-at.ensures ∙ in_use c.args.self.now.core.source in
    record {
      runs = subst (λ d. Extends positions (state_of i) input_call (state_of d) (node (c.len-at.result + 1))) (sym same)
          (subst (λ n. Extends positions (state_of i) input_call (state_of (after_input i e)) (node (n + 1))) (sym count) (extends (input-steps i s e room number)));
      rest = subst (Rest i) (sym same) (record {
        source = drop-set-lt (i.sources + 1) i.source i.sources _ (omega arith);
        reduced = drop-set-lt (i.nodes + 1) i.reduced i.nodes _ (omega arith);
        cuts = refl;
        outputs = refl;
      });
      refused = tt;
    }
