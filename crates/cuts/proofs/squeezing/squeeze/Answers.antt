use Rattle.std.proofs.Common.{◌≡◌, length, sym, subst, arith, length-take-le}
use Rattle.model.specs.Tables.{Loose}
use Rattle.model.proofs.Wellformed.{squeeze-same}
use Rattle.cuts.specs.Meaning.{leaves_of}
use Rattle.cuts.proofs.squeezing.squeeze.Goals as goal

pub returns-then-depends_on_first : goal.returns-then-depends_on_first
returns-then-depends_on_first c =
    let l = c.args.leaves.now in
    let n : length (leaves_of l) ≡ l.count = length-take-le l.count l.nodes (omega arith) in
    squeeze-same 4 c.args.table (leaves_of l) (omega arith) (omega arith) l.rising (subst (Loose 4 c.args.table) (sym n) c.requires)
    (λ q h. c.depends_on_first.ensures.0 c.if-depends_on_first.true q (omega arith) (omega arith))
