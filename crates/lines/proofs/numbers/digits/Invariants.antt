use Rattle.std.proofs.Common.{◌≡◌, ◌^◌, ◌<◌, drop}
use Rattle.lines.specs.Shape.{all_digits, value_on}
use Rattle.lines.proofs.numbers.digits.Given as goal

abbrev pub invariant-loop-b : goal.invariant-loop-b
invariant-loop-b l = (all_digits (drop l.b-index l.text) ≡ all_digits l.text) × (value_on l.sum (drop l.b-index l.text) ≡ value_on 0 l.text) × (l.sum < 10 ^ l.b-index)
