-- What a list over lent places has in its places, and how many, once it was changed.
use Rattle.std.proofs.Common.{◌≡◌, ℕ, zero, suc, ◌+◌, ◌<◌, ◌≤◌, List, [], ◌∷◌, ◌++◌, length, take, drop, set, sym, refl, ap, ◌∙◌, ap₂, arith, length-append, length-take-le, length-set, take_all, drop-set-lt}
use Rattle.std.proofs.lemmas.List.{take-append-drop, take_at, drop_all}
use Rattle.lent.specs.Lists.{listed, unused, room}
use Rattle.lent.specs.declared.list.LentList.{LentList}
use Rattle.lent.proofs.Inserting.{take_set}
use Rattle.cuts.specs.declared.edge.Edge.{Edge}
use Rattle.search.specs.declared.rows.ReducedRow.{ReducedRow}
use Rattle.sweeper.specs.declared.rows.SourceRow.{SourceRow}
use Rattle.sweeper.specs.Tables.{Image}

-- the tables with other rows and counts of both graphs and of the outputs
abbrev pub with_lists : Image → List SourceRow → ℕ → List ReducedRow → ℕ → List Edge → ℕ → Image
with_lists c source sources reduced nodes outputs outs = record {
  source = source;
  reduced = reduced;
  cuts = c.cuts;
  pairs = c.pairs;
  keys = c.keys;
  outputs = outputs;
  capacity = c.capacity;
  sources = sources;
  nodes = nodes;
  outs = outs;
  tally = c.tally;
}

set-next : {X : Type 0} (xs : List X) (n : ℕ) (x : X) → n < length xs → (take n xs ++ (x ∷ [])) ++ drop 1 (drop n xs) ≡ set xs n x
set-next [] n x h = absurd (omega arith)
set-next (y ∷ ys) zero x h = refl
set-next (y ∷ ys) (suc n) x h = ap (λ l. y ∷ l) (set-next ys n x (omega arith))

pub in_use : {X : Type 0} (l : LentList X) → length (listed l) ≡ l.count
in_use l = length-take-le l.count l.places.now l.within

parts : {X : Type 0} (l : LentList X) → listed l ++ unused l ≡ l.places.now
parts l = take-append-drop l.count l.places.now

-- an empty list
pub emptied : {X : Type 0} (l : LentList X) (xs : List X) → listed l ≡ [] → unused l ≡ xs → (l.places.now ≡ xs) × (l.count ≡ 0)
emptied l xs items rest = (sym (parts l) ∙ ap₂ (λ p q. p ++ q) items rest, sym (in_use l) ∙ ap length items)

module _ {X : Type 0} (l m : LentList X) where
  -- one item more
  pub pushed : (x : X) → listed m ≡ take (room l) (listed l ++ (x ∷ [])) → unused m ≡ drop 1 (unused l) → l.count < room l → (m.places.now ≡ set l.places.now l.count x) × (m.count ≡ l.count + 1)
  pushed x items rest h =
      let size = length-append (listed l) (x ∷ []) in
      let all : listed m ≡ listed l ++ (x ∷ []) = items ∙ take_all (room l) (listed l ++ (x ∷ [])) (omega (arith, size, in_use l)) in
      (sym (parts m) ∙ ap₂ (λ p q. p ++ q) all rest ∙ set-next l.places.now l.count x h, omega (arith, ap length all, size, in_use l, in_use m))

  -- another item in a place
  pub replaced : (i : ℕ) (x : X) → listed m ≡ set (listed l) i x → unused m ≡ unused l → i < l.count → (m.places.now ≡ set l.places.now i x) × (m.count ≡ l.count)
  replaced i x items rest h =
      let same = ap₂ (λ p q. p ++ q) (sym (take_set l.count l.places.now i x)) (sym (drop-set-lt l.count l.places.now i x h)) ∙ take-append-drop l.count (set l.places.now i x) in
      (sym (parts m) ∙ ap₂ (λ p q. p ++ q) items rest ∙ same, omega (arith, ap length items, length-set (listed l) i x, in_use l, in_use m))

  -- none more, since there is no place for it
  pub none-pushed : (x : X) → listed m ≡ take (room l) (listed l ++ (x ∷ [])) → unused m ≡ drop 1 (unused l) → room l ≤ l.count → (m.places.now ≡ l.places.now) × (m.count ≡ l.count)
  none-pushed x items rest h =
      let same : listed m ≡ listed l = items ∙ take_at (listed l) (x ∷ []) (room l) (omega (arith, in_use l, l.within)) in
      let left = drop_all l.count l.places.now h in
      (sym (parts m) ∙ ap₂ (λ p q. p ++ q) same (rest ∙ ap (drop 1) left ∙ sym left) ∙ parts l, omega (arith, ap length same, in_use l, in_use m))
