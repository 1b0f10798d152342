use Rattle.std.proofs.Common.{arith}
use Rattle.sweeper.specs.Tables.{image}
use Rattle.sweeper.proofs.Lists.{pushed}
use Rattle.sweeper.proofs.core_state.Core.accept.Goals as goal

pub returns-clause-after : goal.returns-clause-after
returns-clause-after c =
    let i = image c.args.self.now in
    let p = pushed c.args.self.now.source c.push.new.self _ c.push.ensures.items c.push.ensures.rest (omega (arith, c.requires.room, c.requires.sound.source_rows)) in
    λ j. record {
      source = p.0 j;
      reduced = i.reduced;
      cuts = i.cuts;
      pairs = i.pairs;
      keys = i.keys;
      outputs = i.outputs;
      capacity = i.capacity;
      sources = p.1 j;
      nodes = i.nodes;
      outs = i.outs;
      tally = c.note.ensures j;
    }
