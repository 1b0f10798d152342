use Rattle.std.proofs.Common.{◌≡◌, ◌+◌, Some, None, take, drop, sym, subst, rules, tests}
use Rattle.std.proofs.lemmas.Iterator.{IsFirst-from_position, YieldsList-from_slice}
use Rattle.std.proofs.lemmas.List.{take_rest}
use Rattle.std.specs.Option.{MatchOption}
use Rattle.lines.specs.Shape.{Cuts, cut_at}
use Rattle.lines.proofs.Cuts.{cut-found_at}
use Rattle.lines.proofs.lines.cut_at.Goals as goal

pub returns-in_err-at : goal.returns-in_err-at
returns-in_err-at c =
    let xs = c.args.text.now in
    let mark = c.args.mark in
    let found = cut-found_at mark xs c.position.result (IsFirst-from_position _ _ c.position.result (λ x. x ≡ mark) (λ x. x ≡ mark → ⊥) c.position.ensures.ran (YieldsList-from_slice xs cc) (λ x q k. search (rules, tests)) (λ x q k. search (rules, tests))) in
    subst (Cuts mark xs) (sym c.from_residual.ensures) (subst (λ r. MatchOption r (cut_at mark xs ≡ None) (λ i. cut_at mark xs ≡ Some (take i xs, drop (i + 1) xs))) c.in_err-at.was found)

pub returns : goal.returns
returns c =
    let xs = c.args.text.now in
    let mark = c.args.mark in
    let found = cut-found_at mark xs c.position.result (IsFirst-from_position _ _ c.position.result (λ x. x ≡ mark) (λ x. x ≡ mark → ⊥) c.position.ensures.ran (YieldsList-from_slice xs cc) (λ x q k. search (rules, tests)) (λ x q k. search (rules, tests))) in
    simp take_rest (subst (λ r. MatchOption r (cut_at mark xs ≡ None) (λ i. cut_at mark xs ≡ Some (take i xs, drop (i + 1) xs))) c.in_ok-at.was found)
