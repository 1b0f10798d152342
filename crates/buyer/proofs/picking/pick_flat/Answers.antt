use Rattle.std.proofs.Common.{◌≡◌, [], ◌∷◌}
use Rattle.model.specs.Rankings.{ranked, rank_in}
use Rattle.buyer.proofs.picking.pick_flat.Goals as goal

pub returns : goal.returns
unfolding ranked rank_in
returns c = let e : c.pick.result ∷ [] ≡ 0 ∷ [] = c.pick.ensures in cc
