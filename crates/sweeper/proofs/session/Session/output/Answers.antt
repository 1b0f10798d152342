use Rattle.std.proofs.Common.{◌≡◌, ◌+◌, ◌<◌, ◌≤◌, length, Ok, Err, refl, sym, ◌∙◌, ap₂, subst, ⊎_elim, arith, rules, drop-set-lt}
use Rattle.std.proofs.lemmas.Bool.{cases_lt, ltb-true, ltb-false}
use Rattle.model.specs.RunLaws.{Extends}
use Rattle.model.specs.Sessions.{positions, output_call, mapped_edge, refused, no_output_row}
use Rattle.model.proofs.Sound.{extends}
use Rattle.sweeper.specs.Runs.{Reached}
use Rattle.sweeper.specs.Tables.{Sound, Rest, image, state_of}
use Rattle.sweeper.proofs.Lists.{in_use, pushed, none-pushed, with_lists}
use Rattle.sweeper.proofs.Mapping.{after_output, mapped_parts, output_sound, output_steps, output_full, output_unknown}
use Rattle.sweeper.proofs.Gated.{same_rest}
use Rattle.sweeper.proofs.Reaching.{reached-more}
use Rattle.sweeper.proofs.session.Session.output.Goals as goal

pub returns-in_err-mapped : goal.returns-in_err-mapped
returns-in_err-mapped c =
    let i = image c.args.self.now.core in
    let p = mapped_parts i c.args.e 0 (Err c.in_err-mapped.field-0.0) c.in_err-mapped.ensures in
    let is : c.from_residual.result ≡ Err c.in_err-mapped.field-0.0 = search rules in
    rw (is, p.1) (record { runs = extends (output_unknown i c.args.e.number p.0); rest = same_rest i; refused = refl })

pub invariant_of-self : goal.invariant_of-self
invariant_of-self c =
    let i = image c.args.self.now.core in
    let m = c.in_ok-mapped.mapped in
    let w = c.args.self.now.core.outputs in
    let o = c.push.new.self in
    let s = c.args.self.now.sound in
    let was = c.args.self.now.reached in
    let p = mapped_parts i c.args.e 0 (Ok m) c.in_ok-mapped.ensures in
    ⊎_elim
    (λ (h : i.outs < length i.outputs).
    let more = pushed w o m c.push.ensures.items c.push.ensures.rest h in
    let same : with_lists i i.source i.sources i.reduced i.nodes o.places.now o.count ≡ after_output i m = ap₂ (with_lists i i.source i.sources i.reduced i.nodes) more.0 more.1 in
    record { sound = subst Sound (sym same) (output_sound i s m h); reached = subst (λ d. Reached (state_of d)) (sym same) (reached-more (output_steps i c.args.e.number m p.1 p.0 h) was) })
    (λ (h : length i.outputs ≤ i.outs).
    let none = none-pushed w o m c.push.ensures.items c.push.ensures.rest h in
    let same : with_lists i i.source i.sources i.reduced i.nodes o.places.now o.count ≡ i = ap₂ (with_lists i i.source i.sources i.reduced i.nodes) none.0 none.1 in
    record { sound = subst Sound (sym same) s; reached = subst (λ d. Reached (state_of d)) (sym same) was })
    (cases_lt i.outs (length i.outputs))

pub returns-then-push : goal.returns-then-push
returns-then-push c =
    let i = image c.args.self.now.core in
    let m = c.in_ok-mapped.mapped in
    let w = c.args.self.now.core.outputs in
    let o = c.push.new.self in
    let p = mapped_parts i c.args.e 0 (Ok m) c.in_ok-mapped.ensures in
    let h : i.outs < length i.outputs = omega (arith, ltb-true _ _ (sym c.push.ensures.told ∙ c.if-push.true), in_use w) in
    let more = pushed w o m c.push.ensures.items c.push.ensures.rest h in
    let same : with_lists i i.source i.sources i.reduced i.nodes o.places.now o.count ≡ after_output i m = ap₂ (with_lists i i.source i.sources i.reduced i.nodes) more.0 more.1 in
    record {
      runs = subst (λ d. Extends positions (state_of i) (output_call c.args.e.number) (state_of d) (mapped_edge m.number)) (sym same) (extends (output_steps i c.args.e.number m p.1 p.0 h));
      rest = subst (Rest i) (sym same) (record { source = refl; reduced = refl; cuts = refl; outputs = drop-set-lt (i.outs + 1) i.outputs i.outs m (omega arith) });
      refused = tt;
    }

pub returns-else-push : goal.returns-else-push
returns-else-push c =
    let i = image c.args.self.now.core in
    let m = c.in_ok-mapped.mapped in
    let w = c.args.self.now.core.outputs in
    let o = c.push.new.self in
    let p = mapped_parts i c.args.e 0 (Ok m) c.in_ok-mapped.ensures in
    let h : length i.outputs ≤ i.outs = omega (arith, ltb-false _ _ (sym c.push.ensures.told ∙ c.if-push.false), in_use w) in
    let none = none-pushed w o m c.push.ensures.items c.push.ensures.rest h in
    let same : with_lists i i.source i.sources i.reduced i.nodes o.places.now o.count ≡ i = ap₂ (with_lists i i.source i.sources i.reduced i.nodes) none.0 none.1 in
    let count = c.len.ensures ∙ in_use o ∙ none.1 in
    record {
      runs = subst (λ d. Extends positions (state_of i) (output_call c.args.e.number) (state_of d) (refused (no_output_row c.len.result))) (sym same)
          (subst (λ n. Extends positions (state_of i) (output_call c.args.e.number) (state_of i) (refused (no_output_row n))) (sym count) (extends (output_full i c.args.e.number p.0 h)));
      rest = subst (Rest i) (sym same) (same_rest i);
      refused = same;
    }
