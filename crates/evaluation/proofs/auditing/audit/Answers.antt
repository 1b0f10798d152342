use Rattle.std.proofs.Common.{◌≤◌, leb, ap, arith}
use Rattle.std.proofs.lemmas.Bool.{leb-true}
use Rattle.model.specs.Graphs.{inputs}
use Rattle.model.specs.Sessions.{positions, lean}
use Rattle.model.proofs.Sound.{every-run-is-sound, sessions-fit}
use Rattle.sweeper.specs.States.{state_in}
use Rattle.evaluation.proofs.auditing.audit.Goals as goal

pub returns : goal.returns
returns c =
    let s = state_in c.args.session.now in
    record {
      tells = record {
        given = c.inputs-inputs.ensures;
        source = c.source_nodes.ensures;
        reduced = c.reduced_nodes.ensures;
        outputs = c.outputs.ensures;
        tally = c.tally.ensures;
        few = ap (λ n. leb n 4) c.inputs-inputs.ensures;
      };
      reached = c.args.session.now.reached;
      laws = λ m t es fit run. every-run-is-sound positions m t es s fit run;
      complete = λ h t es run first.
          let few : inputs s.source ≤ 4 = (let z = leb-true c.inputs-inputs.result 4 h in omega (arith, z, c.inputs-inputs.ensures)) in
          (every-run-is-sound positions lean t es s sessions-fit run).complete few first;
    }
