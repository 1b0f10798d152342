use Rattle.std.proofs.Common.{ap, ◌∙◌, arith}
use Rattle.model.specs.Edges.{node_of, sign_of}
use Rattle.cuts.specs.Keys.{key_meaning}
use Rattle.lookup.specs.Hash.{hashed_slot}
use Rattle.lookup.specs.Slots.{found}
use Rattle.search.specs.Leaves.{leaf_at}
use Rattle.sweeper.specs.Tables.{image}
use Rattle.sweeper.proofs.Looking.{kept_few, leaves-are, decides_by}
use Rattle.sweeper.proofs.session.Session.decide.Goals as goal

pub returns : goal.returns
returns g c =
    let i = image c.args.self.now.core in
    let s = c.args.self.now.sound in
    let x = c.args.x.number in
    let y = c.args.y.number in
    let p = c.fanin.result in
    let q = c.fanin-2.result in
    record {
      is = c.decide.ensures.decision
          ∙ decides_by (g.R.Ranking.before c.args.by.now) i x y _ (found key_meaning hashed_slot i.keys) (leaf_at c.items.result.now)
          (sign_of p.edge.number) (sign_of q.edge.number) (node_of p.edge.number) (node_of q.edge.number) p.cuts.now q.cuts.now
          c.requires.places s.keys (leaves-are i s c.args.self.now.reached c.items.result.now c.items.ensures)
          (ap (λ e. sign_of e.number) c.fanin.ensures.is) (ap (λ e. sign_of e.number) c.fanin-2.ensures.is) (ap (λ e. node_of e.number) c.fanin.ensures.is) (ap (λ e. node_of e.number) c.fanin-2.ensures.is)
          (kept_few i s (node_of x) p.cuts.now c.fanin.ensures.cuts) c.fanin.ensures.cuts
          (kept_few i s (node_of y) q.cuts.now c.fanin-2.ensures.cuts) c.fanin-2.ensures.cuts;
      few = omega (arith, c.decide.ensures.many);
    }
