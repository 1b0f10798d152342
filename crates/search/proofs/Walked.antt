-- A walk over the cuts of a fanin: the trivial one, then those kept. Assumes nothing.
use Rattle.std.proofs.Common.{◌≡◌, ◌≤◌, false, [], ◌∷◌, length, map, take, Some, sym, ap, ◌∙◌, subst, arith}
use Rattle.std.specs.Borrow.{Bor}
use Rattle.std.specs.Iterator.Adapters.{once_item, once_steps, chain_first, chain_second, chain_first_done, chain_second_done, chain_steps}
use Rattle.std.specs.Option.{option_to_list}
use Rattle.std.specs.Slice.Iter.{iter_rest}
use Rattle.std.proofs.iter.Yields.{fronts}
use Rattle.std.proofs.lemmas.List.{length-map, length-take}
use Rattle.std.proofs.lemmas.Iterator.{YieldsList}
use Rattle.std.proofs.lemmas.Iterator.Consumers.{YieldsList-from_shown, YieldsList-from_chain}
use Rattle.model.specs.Cuts.{Cut as Meant, trivial}
use Rattle.model.specs.Edges.{node_of}
use Rattle.model.specs.Sessions.{positions}
use Rattle.cuts.specs.Meaning.{meaning}
use Rattle.cuts.specs.declared.cut.Cut.{Cut}
use Rattle.search.specs.declared.fanin.Fanin.{Fanin}
use Rattle.search.specs.Fanins.{most, most_cuts, cuts_of}

abbrev pub read : Bor Cut → Meant
read c = meaning c.now

pub walk : (y : Fanin) (t : Bor Cut) {s : _} → once_item (chain_first s) ≡ Some t → read t ≡ trivial positions (node_of y.edge.number)
    → iter_rest (chain_second s) ≡ take most y.cuts.now → chain_first_done s ≡ false → chain_second_done s ≡ false
    → YieldsList (chain_steps once_steps fronts) read s (cuts_of y)
walk y t {s} first same second begun going =
    let one = YieldsList-from_shown once_steps read (λ u. map read (option_to_list (once_item u))) (λ u t p. ap (λ k. length (map read (option_to_list k))) (sym p.0))
    (λ u x t p. ap (λ k. map read (option_to_list k)) (sym p.0) ∙ ap (λ k. read x ∷ map read (option_to_list k)) (sym p.1)) (chain_first s) in
    let rest = YieldsList-from_shown fronts read (λ u. map meaning (iter_rest u)) (λ u t p. length-map (iter_rest u) meaning ∙ p.0) (λ u x t p. ap (map meaning) p) (chain_second s) in
    YieldsList-from_chain
    (subst (YieldsList once_steps read (chain_first s)) (ap (λ k. map read (option_to_list k)) first ∙ ap (λ c. c ∷ []) same) one)
    (subst (YieldsList fronts read (chain_second s)) (ap (map meaning) second) rest)
    begun going

pub few_cuts : (y : Fanin) → length (cuts_of y) ≤ most_cuts
few_cuts y = omega (arith, length-map (take most y.cuts.now) meaning, length-take most y.cuts.now)
