use Rattle.std.proofs.Common.{length, ◌∙◌, arith, rules, tests}
use Rattle.std.specs.List.{range_with_len}
use Rattle.std.proofs.lemmas.Iterator.{YieldsList-from_range, YieldsList-from_map}
use Rattle.std.proofs.lemmas.Iterator.Consumers.{fits_by_from_yields_list, sum_by_from_yields_List}
use Rattle.evaluation.specs.Sides.{nodes_in}
use Rattle.evaluation.proofs.Counted.{input_at, inputs_counted, inputs_few}
use Rattle.evaluation.proofs.graph.Graph.inputs.Goals as goal

pub sum-requires-clause-fits : goal.sum-requires-clause-fits
sum-requires-clause-fits c =
    let g = nodes_in c.args.self.now in
    let numbers = YieldsList-from_range {s = c.map.result.iter} 0 (length g) (length g) (search rules) (omega arith) in
    fits_by_from_yields_list (input_at g) (range_with_len 0 (length g)) c.map.result _
    (YieldsList-from_map _ (input_at g) numbers c.map.ensures.closure (λ x r q k. search (rules, tests)))
    (omega (arith, inputs_counted g, inputs_few g, c.nodes.ensures))

pub returns : goal.returns
returns c =
    let g = nodes_in c.args.self.now in
    let numbers = YieldsList-from_range {s = c.map.result.iter} 0 (length g) (length g) (search rules) (omega arith) in
    sum_by_from_yields_List (input_at g) (range_with_len 0 (length g)) c.map.result c.sum.result c.sum.ensures.ran
    (YieldsList-from_map _ (input_at g) numbers c.map.ensures.closure (λ x r q k. search (rules, tests)))
    ∙ inputs_counted g
