-- The laws of a kind of ranking, at one ranking of it, as the model's record, and the facts that they speak of. Assumes nothing.
use Rattle.std.proofs.Common.{◌≡◌, Bool, true, false, take, arith}
use Rattle.std.proofs.lemmas.List.{length-map, length-take-le}
use Rattle.model.specs.Rankings.{Facts, Before, Sized, any_gate, Lawful}
use Rattle.model.specs.Sessions.{positions}
use Rattle.rankings.specs.declared.facts.CutFacts.{CutFacts}
use Rattle.rankings.specs.Facts.{leaf_of, facts_of}

-- In a proof of code generic over R: let m = g.met.R.Ranking in
-- lawful-from g.R.Ranking.before g.R.Ranking.INPUTS_FIRST m.irreflexive m.transitive m.ties m.inputs by
pub lawful-from : {S : Type 0} (before : S → Before) (mark : Bool)
    → ((s : S) (a : Facts) → Sized positions a → before s a a ≡ false)
    → ((s : S) (a b c : Facts) → Sized positions a → Sized positions b → Sized positions c
    → before s a b ≡ true → before s b c ≡ true → before s a c ≡ true)
    → ((s : S) (a b c : Facts) → Sized positions a → Sized positions b → Sized positions c
    → before s a b ≡ false → before s b a ≡ false → before s b c ≡ false → before s c b ≡ false → before s a c ≡ false)
    → (mark ≡ true → (s : S) (a b : Facts) → Sized positions a → Sized positions b → any_gate a ≡ false → any_gate b ≡ true → before s a b ≡ true)
    → (s : S) → Lawful positions (before s) mark
lawful-from before mark irreflexive transitive ties inputs s =
    record { irreflexive = irreflexive s; transitive = transitive s; ties = ties s; inputs_first = λ e. inputs e s }

-- the facts of a cut are of one to `positions` leaves, by their type
pub facts_sized : (f : CutFacts) → Sized positions (facts_of f)
facts_sized f =
    let m = length-map (take f.count f.leaves) leaf_of in
    let n = length-take-le f.count f.leaves (omega (arith, f.few, f.full)) in
    (omega (arith, m, n, f.some), omega (arith, m, n, f.few))
