-- While inputs are few and rankings put them first, every node has a cut over inputs alone.
use Rattle.std.proofs.Common.{◌≡◌, ℕ, ◌<◌, ◌≤◌, Bool, true, false, cond, List, ◌∷◌, map, length, Some, None, sym, ap, subst, ⊎_elim, arith}
use mathlib.Core.List.{Memᴰ}
use lib.ListN.{length-map}
use Rattle.std.proofs.lemmas.Bool.{cases_Bool, both_ways, le-leb}
use Rattle.model.specs.Leaves.{unite}
use Rattle.model.specs.Cuts.{Cut, Formed, join, joined}
use Rattle.model.specs.Edges.{node_of, sign_of}
use Rattle.model.specs.Graphs.{Graph, inputs, find_key, cuts_of}
use Rattle.model.specs.Rankings.{Every, Ranking, Sized, any_gate, first_by}
use Rattle.model.specs.Search.{candidates, by_leaves, leaf_in, search_in}
use Rattle.model.proofs.Lists.{mem-place, every-mem, every-chosen, every_weaken}
use Rattle.model.proofs.Uniting.{unite-rising, every-united}
use Rattle.model.proofs.Meaning.{every-joined}
use Rattle.model.proofs.Choosing.{none-left-out, some-chosen}
use Rattle.model.proofs.Deciding.{CutOf, KeptWell, AndOf, cuts_of_lem, joined-and}
use Rattle.model.proofs.Candidates.{every_candidate, every-key-there}
use Rattle.model.proofs.Inputs.{InputNode, few-inputs, no_gate_leaf, inputs_no_gate}

-- a cut over inputs alone
pub record InputCut (p : ℕ) (g : Graph) (cs : List Cut) : Type 0 where
  pub cut : Cut
  pub there : Memᴰ cut cs
  pub inputs : Every (InputNode g) cut.leaves

-- a ranking that puts inputs first keeps an input cut if there is one
first-has-input : (p : ℕ) (r : Ranking p) → r.mark ≡ true → (g : Graph) (n : ℕ) → 0 < n → (cs : List Cut)
    → Every (λ c. Sized p (map (leaf_in g) c.leaves)) cs → Every (λ c. Every (λ l. (0 < l) × (l ≤ length g)) c.leaves) cs
    → InputCut p g cs → InputCut p g (first_by (by_leaves r.before (leaf_in g)) n cs)
first-has-input p r mark g n pos cs sized known f =
    let S : Cut → Type 0 = λ c. Sized p (map (leaf_in g) c.leaves) in
    let K : Cut → Type 0 = λ c. Every (λ l. (0 < l) × (l ≤ length g)) c.leaves in
    let before : Cut → Cut → Bool = by_leaves r.before (leaf_in g) in
    let ks = first_by before n cs in
    let some : 0 < length cs = omega (arith, (mem-place f.cut cs f.cut f.there).1) in
    let one = some-chosen before n cs pos some in
    let k = one.0 in
    ⊎_elim
    (λ (z : Memᴰ f.cut ks). record { cut = f.cut; there = z; inputs = f.inputs })
    (λ (z : before f.cut k ≡ false).
    ⊎_elim
    (λ (e : any_gate (map (leaf_in g) k.leaves) ≡ true). absurd (both_ways (before f.cut k) z
    (r.lawful.inputs_first mark (map (leaf_in g) f.cut.leaves) (map (leaf_in g) k.leaves)
    (every-mem S cs sized f.cut f.there) (every-mem S ks (every-chosen S before n cs sized) k one.1) (inputs_no_gate g f.cut.leaves f.inputs) e)))
    (λ (e : any_gate (map (leaf_in g) k.leaves) ≡ false).
    record { cut = k; there = one.1; inputs = no_gate_leaf g k.leaves (every-mem K ks (every-chosen K before n cs known) k one.1) e })
    (cases_Bool (any_gate (map (leaf_in g) k.leaves))))
    (none-left-out p r (leaf_in g) n cs sized f.cut k f.there one.1)

-- an input cut of each fanin gives the gate one
module _ (p k : ℕ) (pos : 0 < p) (fits : k ≤ p) (g : Graph) (ks : List (List Cut)) (w : KeptWell p g ks) (few : inputs g ≤ k)
    (x y : ℕ) (hx : 0 < node_of x) (kx : node_of x ≤ length g) (hy : 0 < node_of y) (ky : node_of y ≤ length g) where
  -- two cuts over inputs are joined: together they have no more leaves than there are inputs
  joined-inputs : (a b : Cut) → Formed p b → Every (InputNode g) a.leaves → Every (InputNode g) b.leaves
      → joined p k (sign_of x) (sign_of y) a b ≡ Some (join p a (sign_of x) b (sign_of y))
  joined-inputs a b fb ia ib =
      let ls = unite a.leaves b.leaves in
      let short = few-inputs g ls (unite-rising a.leaves b.leaves fb.rising) (every-united (InputNode g) a.leaves b.leaves ia ib) in
      ap (λ t. cond t (Some (join p a (sign_of x) b (sign_of y))) None) (le-leb (length ls) k (omega (arith, short)))

  -- a candidate: two leaves or more, and a cut of the AND
  abbrev WideAnd : Cut → Type 0
  WideAnd c = (2 ≤ length c.leaves) × AndOf p g x y c

  pub gate-has-input : (r : Ranking p) → r.mark ≡ true → (n : ℕ) → 0 < n → (cs : List Cut) → search_in p k g ks x y ≡ candidates cs
      → InputCut p g (cuts_of p ks (node_of x)) → InputCut p g (cuts_of p ks (node_of y)) → InputCut p g (first_by (by_leaves r.before (leaf_in g)) n cs)
  gate-has-input r mark n some cs h ix iy =
      let xs = cuts_of p ks (node_of x) in
      let ys = cuts_of p ks (node_of y) in
      let of-x = every-mem (CutOf p g (node_of x)) xs (cuts_of_lem p g ks (node_of x) pos hx kx w) in
      let of-y = every-mem (CutOf p g (node_of y)) ys (cuts_of_lem p g ks (node_of y) pos hy ky w) in
      let join-xy = joined p k (sign_of x) (sign_of y) in
      let both = join p ix.cut (sign_of x) iy.cut (sign_of y) in
      let is = joined-inputs ix.cut iy.cut (of-y iy.cut iy.there).formed ix.inputs iy.inputs in
      let q = every-key-there p (find_key p ks) join-xy xs ys cs h ix.cut iy.cut both ix.there iy.there is in
      let each : Every WideAnd cs = every_candidate p (find_key p ks) WideAnd join-xy xs ys cs
      (λ a b c ma mb e wide _. (wide, joined-and p k fits g x y a b c (of-x a ma) (of-y b mb) e)) h in
      first-has-input p r mark g n some cs
      (every_weaken WideAnd (λ c. Sized p (map (leaf_in g) c.leaves)) cs
      (λ c z. (omega (arith, length-map c.leaves (leaf_in g), z.0), omega (arith, length-map c.leaves (leaf_in g), z.1.formed.few))) each)
      (every_weaken WideAnd (λ c. Every (λ l. (0 < l) × (l ≤ length g)) c.leaves) cs (λ c z. z.1.leaves) each)
      (record {
        cut = q.one;
        there = q.there;
        inputs = subst (Every (InputNode g)) (sym (tail-eq q.key)) (every-joined (InputNode g) p ix.cut (sign_of x) iy.cut (sign_of y) ix.inputs iy.inputs);
      })
    where
      tail-eq : {m n : ℕ} {ls ns : List ℕ} → m ∷ ls ≡ n ∷ ns → ls ≡ ns
      tail-eq h = cc
