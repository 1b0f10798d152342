use Rattle.std.proofs.Common.{sym, ap, ◌∙◌, subst, arith}
use Rattle.model.specs.Sessions.{swept, was_made}
use Rattle.sweeper.specs.declared.tally.Outcome.TheVariants.{Made}
use Rattle.sweeper.specs.Tables.{Sound, image, Growable, Grown, node_in, no_reduced}
use Rattle.sweeper.specs.Answers.{swept_in}
use Rattle.sweeper.proofs.Lists.{in_use}
use Rattle.sweeper.proofs.Newest.{newest-length}
use Rattle.sweeper.proofs.Gated.{edge-sound, made-state, made-rest}
use Rattle.sweeper.proofs.core_state.Core.make.Goals as goal

pub grow-requires : goal.grow-requires
grow-requires c =
    let i = image c.args.self.now in
    let m = c.new-edge.result in
    let after = c.accept-answer.ensures.after in
    record {
      sound = subst Sound (sym after) (edge-sound i c.requires.sound c.args.a c.args.b Made m c.requires.room);
      growable = subst (λ j. Growable j c.args.x.number c.args.y.number c.args.kept.now) (sym after) (c.requires.growable m);
    }

pub returns : goal.returns
returns c =
    let i = image c.args.self.now in
    let m = c.new-edge.result in
    let after = c.accept-answer.ensures.after in
    let nodes = c.len.ensures ∙ in_use c.args.self.now.reduced in
    let count = newest-length (λ r. node_in r.node) no_reduced i.reduced i.nodes in
    let grown = subst (λ j. Grown j c.args.x.number c.args.y.number c.args.kept.now (image c.grow.new.self)) after c.grow.ensures.grown in
    record {
      kept = c.grow.ensures.grown.sound;
      state = made-state i c.requires.sound c.args.a c.args.b c.requires.room m c.args.x.number c.args.y.number c.args.kept.now (image c.grow.new.self) (omega (arith, c.new-edge.ensures, nodes, count)) grown;
      rest = made-rest i c.requires.sound c.args.a c.args.b c.requires.room m c.args.x.number c.args.y.number c.args.kept.now (image c.grow.new.self) grown;
      is = ap swept_in c.accept-answer.ensures.is ∙ ap (swept was_made) (omega (arith, c.new-edge.ensures, nodes, count));
    }
