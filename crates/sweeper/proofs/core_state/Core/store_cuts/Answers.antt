use Rattle.std.proofs.Common.{◌*◌, ◌∙◌, ap, arith}
use Rattle.sweeper.specs.Tables.{image, with_cuts, stored}
use Rattle.sweeper.proofs.Lists.{in_use}
use Rattle.sweeper.proofs.Storing.{put-stored}
use Rattle.sweeper.proofs.core_state.Core.store_cuts.Goals as goal

pub returns : goal.returns
returns c =
    let i = image c.args.self.now in
    let count = c.len-first.ensures ∙ in_use c.args.self.now.reduced in
    ap (with_cuts i) (put-stored i.cuts c.copy_from_slice.new.self c.args.kept.now _ _ c.copy_from_slice.ensures.after (omega (arith, count)) ∙ ap (λ n. stored (4 * n) c.args.kept.now i.cuts) count)
