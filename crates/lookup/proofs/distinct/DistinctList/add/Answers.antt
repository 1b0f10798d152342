use Rattle.std.proofs.Common.{◌≡◌, ◌+◌, min, [], ◌∷◌, ◌++◌, length, take, drop, sym, ap, ◌∙◌, arith}
use Rattle.std.proofs.lemmas.List.{length-take, length-take-le, length_push, drop-drop, drop_min}
use Rattle.lookup.proofs.distinct.DistinctList.add.Goals as goal

pub returns-then-not-is_in-clause-rest : goal.returns-then-not-is_in-clause-rest
returns-then-not-is_in-clause-rest g c =
    let old = c.args.self.now.list in
    let new = c.push.new.self in
    let xs = old.places.now in
    let long = length-take (length xs) (take old.count xs ++ (c.args.key ∷ [])) in
    let more = length_push (take old.count xs) c.args.key in
    let counted : new.count ≡ min (old.count + 1) (length xs) =
    omega (arith, length-take-le new.count new.places.now new.within, ap length c.push.ensures.items, long, more, length-take-le old.count xs old.within) in
    c.push.ensures.rest ∙ drop-drop 1 old.count xs ∙ sym (drop_min (old.count + 1) xs) ∙ ap (λ n. drop n xs) (sym counted)
