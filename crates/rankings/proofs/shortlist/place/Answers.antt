use Rattle.std.proofs.Common.{rules, ◌≡◌, ℕ, ◌≤◌, Bool, List, cond, ltb, length, Some, None, sym, refl, ap, ◌∙◌, arith}
use Rattle.std.specs.Option.{unwrap_or}
use Rattle.std.specs.List.{position_or_len}
use Rattle.std.proofs.lemmas.Iterator.{YieldsList-from_slice}
use Rattle.std.proofs.lemmas.Iterator.Search.{position_from_yields_List}
use Rattle.std.proofs.lemmas.List.Recursion.{is_position_or_len}
use Rattle.model.specs.Rankings.{spot}
use Rattle.model.proofs.Ranks.{spot-within}
use Rattle.rankings.specs.Candidates.{by_facts}
use Rattle.rankings.proofs.shortlist.place.Goals as goal

-- a place past the last is the length
or_len : (p n : ℕ) → p ≤ n → unwrap_or (cond (ltb p n) (Some p) None) n ≡ p
or_len p n h = grind arith

spot_is : {X : Type 0} (B : X → X → Bool) (x : X) (xs : List X) → spot B x xs ≡ position_or_len (B x) xs
unfolding spot
spot_is B x = is_position_or_len (spot B x) (B x) refl (λ y ys. ap (λ n. cond (B x y) 0 n) (omega arith))

pub returns : goal.returns
returns g c =
    let B = by_facts (g.R.Ranking.before c.args.by.now) in
    let x = c.args.candidate.now in
    let xs = c.args.list.now in
    let found = position_from_yields_List (B x) _ _ c.position.result c.position.ensures.ran (YieldsList-from_slice xs cc) (λ y b q k. search rules) in
    let e = spot_is B x xs in
    c.unwrap_or.ensures ∙ ap (λ o. unwrap_or o (length xs)) found ∙ or_len (position_or_len (B x) xs) (length xs) (omega (arith, e, spot-within B x xs)) ∙ sym e
