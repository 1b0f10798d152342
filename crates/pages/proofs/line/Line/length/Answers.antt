use Rattle.std.proofs.Common.{length, ap, arith}
use Rattle.model.specs.Reports.{and}
use Rattle.model.specs.Texts.{written}
use Rattle.pages.specs.Lines.{numbered, line_in}
use Rattle.pages.proofs.Over.{width_few}
use Rattle.pages.proofs.Wording.{key-few, numbered-long, gate-long, written-long}
use Rattle.pages.proofs.line.Line.length.Goals as goal

pub overflow_add-result : goal.overflow_add-result
overflow_add-result c = omega (arith, ap length c.text.ensures, key-few c.in-Number.key, width_few c.in-Number.n)

pub overflow_add-result-in-Number : goal.overflow_add-result-in-Number
overflow_add-result-in-Number c = omega (arith, ap length c.text.ensures, key-few c.in-Number.key, width_few c.in-Number.n)

pub overflow_add-result-in-Gate : goal.overflow_add-result-in-Gate
overflow_add-result-in-Gate c = omega (arith, width_few c.in-Gate.x, width_few c.in-Gate.y)

pub overflow_add-result-in-Gate-2 : goal.overflow_add-result-in-Gate-2
overflow_add-result-in-Gate-2 c = omega (arith, width_few c.in-Gate.x, width_few c.in-Gate.y)

pub returns-in-Number : goal.returns-in-Number
returns-in-Number c =
    let k = c.in-Number.key in
    let n = c.in-Number.n in
    let e = ap length c.text.ensures in
    let is = ap (λ l. length (written (line_in l))) c.in-Number.is in
    record { value = omega (arith, is, written-long (numbered k n), numbered-long k n, e); bound = omega (arith, e, key-few k, width_few n) }

pub returns-in-Gate : goal.returns-in-Gate
returns-in-Gate c =
    let x = c.in-Gate.x in
    let y = c.in-Gate.y in
    let is = ap (λ l. length (written (line_in l))) c.in-Gate.is in
    record { value = omega (arith, is, written-long (and x y), gate-long x y); bound = omega (arith, width_few x, width_few y) }
