use Rattle.std.proofs.Common.{◌≡◌, ◌+◌, ◌*◌, ◌<◌, ◌≤◌, Bool, true, false, sym, refl, ap, ◌∙◌, subst, arith, rules}
use mir.Val.{bool_byte}
use Rattle.model.specs.Tables.{number}
use Rattle.model.specs.Edges.{edge}
use Rattle.model.specs.Search.{folded, merged}
use Rattle.model.specs.Sessions.{swept, was_folded, with_gate, outcome_of, edge_of}
use Rattle.search.specs.Finding.{existing}
use Rattle.sweeper.specs.declared.tally.Outcome.TheVariants.{Folded, Merged}
use Rattle.sweeper.specs.Tables.{Sound, image, state_of, graph_of, Rest}
use Rattle.sweeper.specs.Answers.{swept_in, NodeFits}
use Rattle.sweeper.proofs.Gated.{edge-sound, edge-state, edge-rest}
use Rattle.sweeper.proofs.core_state.Core.reuse.Goals as goal

byte : (s : Bool) → bool_byte s ≡ number s
byte true = refl
byte false = refl

small : (s : Bool) → number s ≤ 1
small true = omega arith
small false = omega arith

pub overflow_mul-node : goal.overflow_mul-node
overflow_mul-node c = let f : c.in-Folded.node < 32768 = subst NodeFits c.in-Folded.is c.requires.fits in let g : 2 * c.in-Folded.node < 65536 = omega arith in search rules

pub overflow_add-node : goal.overflow_add-node
overflow_add-node c =
    let f : c.in-Folded.node < 32768 = subst NodeFits c.in-Folded.is c.requires.fits in
    let g : 2 * c.in-Folded.node + bool_byte c.in-Folded.sign < 65536 = omega (arith, byte c.in-Folded.sign, small c.in-Folded.sign) in
    search rules

pub returns-in-Folded : goal.returns-in-Folded
returns-in-Folded c =
    let i = image c.args.self.now in
    let m = c.new-edge.result in
    let e = edge c.in-Folded.node c.in-Folded.sign in
    let same : m.number ≡ e = c.new-edge.ensures ∙ ap (λ n. 2 * c.in-Folded.node + n) (byte c.in-Folded.sign) in
    let after = c.accept.ensures.after in
    let is = ap existing c.in-Folded.is in
    record {
      kept = subst Sound (sym after) (edge-sound i c.requires.sound c.args.a c.args.b Folded m c.requires.room);
      state = λ x y. ap state_of after ∙ edge-state i c.requires.sound c.args.a c.args.b c.requires.room Folded m x y (folded e) refl (sym same) refl refl
          ∙ ap (λ d. (with_gate (state_of i) c.args.a.number c.args.b.number x y d).state) (sym is);
      rest = subst (Rest i) (sym after) (edge-rest i c.requires.sound c.args.a c.args.b c.requires.room Folded m);
      is = ap swept_in c.accept.ensures.is ∙ ap (swept was_folded) same ∙ ap (λ d. swept (outcome_of d) (edge_of (graph_of i) d)) (sym is);
    }

pub returns-in-Merged : goal.returns-in-Merged
returns-in-Merged c =
    let i = image c.args.self.now in
    let m = c.in-Merged.edge in
    let after = c.accept-in-Merged.ensures.after in
    let is = ap existing c.in-Merged.is in
    record {
      kept = subst Sound (sym after) (edge-sound i c.requires.sound c.args.a c.args.b Merged m c.requires.room);
      state = λ x y. ap state_of after ∙ edge-state i c.requires.sound c.args.a c.args.b c.requires.room Merged m x y (merged m.number) refl refl refl refl
          ∙ ap (λ d. (with_gate (state_of i) c.args.a.number c.args.b.number x y d).state) (sym is);
      rest = subst (Rest i) (sym after) (edge-rest i c.requires.sound c.args.a c.args.b c.requires.room Merged m);
      is = ap swept_in c.accept-in-Merged.ensures.is ∙ ap (λ d. swept (outcome_of d) (edge_of (graph_of i) d)) (sym is);
    }
