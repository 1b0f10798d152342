-- Whatever a gate call decides has the value of the AND of its fanins, and each candidate describes it.
use Rattle.std.proofs.Common.{◌≡◌, ℕ, suc, ◌+◌, ◌*◌, ◌<◌, ◌≤◌, Bool, true, false, cond, not, ◌&&◌, ◌||◌, eqb, leb, ◌⊎◌, List, [], ◌∷◌, length, Some, None, Option, sym, refl, ap, ◌∙◌, subst, ap₂, inl, inr, ⊎_elim, arith}
use mathlib.Core.Bool.{and_self, and-not_self}
use Rattle.std.proofs.lemmas.Bool.{eq-eqb, eqb-true, eqb-false, leb-true, cases_lt, and_parts, or_cases}
use Rattle.model.specs.Tables.{number, flip_if, bit_at, row, put, complemented}
use Rattle.model.specs.Leaves.{unite}
use Rattle.model.specs.Cuts.{Cut, value_of, Formed, join, joined, trivial, key_sign, key_of, key_list}
use Rattle.model.specs.Keys.{eq_list, first_of}
use Rattle.model.specs.Edges.{node_of, sign_of, edge, signed}
use Rattle.model.specs.Graphs.{Node, input, gate, Graph, at, bits, value, edge_value, Ordered, or_else, find_pair, find_key, cuts_of}
use Rattle.model.specs.Rankings.{Every, Before}
use Rattle.model.specs.Search.{Decision, folded, shared, merged, made, settled, judged, considered, Limits, fold_pair, in_order, search_in, decide, by_leaves, leaf_in, chosen}
use Rattle.model.proofs.Keys.{same-eq}
use Rattle.model.proofs.Unique.{leaf_matters}
use Rattle.model.proofs.Meaning.{joining, every-joined, trivial-cut, complements}
use Rattle.model.proofs.Lists.{every-added}
use Rattle.model.proofs.Searching.{Comes, search-comes, chosen-comes}
use Rattle.model.proofs.Growing.{edge-old, signal_gate, at_old, at_new, at_none}
use Rattle.model.proofs.Signs.{flip_false, node-edge, node-signed, edge-value, value-edge, value-signed, value_false, value_true, value-constant, flip-back}

-- ---- fanins that are constants or of one node
module _ (g : Graph) (env : ℕ → Bool) where
  pub fold-value : (x y e : ℕ) → fold_pair x y ≡ Some e → edge_value g env e ≡ (edge_value g env x && edge_value g env y)
  fold-value x y e h = go (eqb x 0 || eqb (signed x true) y) refl (eqb x 1) refl (eqb x y) refl h
    where
      zero-first : (s : ℕ) → s ≡ 0 → (edge_value g env s && edge_value g env y) ≡ false
      zero-first s z = ap (λ n. edge_value g env n && edge_value g env y) z ∙ ap (λ b. b && edge_value g env y) (value_false g env)

      opposite : signed x true ≡ y → (edge_value g env x && edge_value g env y) ≡ false
      opposite z = ap (λ n. edge_value g env x && edge_value g env n) (sym z) ∙ ap (λ b. edge_value g env x && b) (value-signed g env x true) ∙ and-not_self (edge_value g env x)

      go : (a : Bool) → (eqb x 0 || eqb (signed x true) y) ≡ a → (b : Bool) → eqb x 1 ≡ b → (c : Bool) → eqb x y ≡ c
          → cond a (Some 0) (cond b (Some y) (cond c (Some x) None)) ≡ Some e → edge_value g env e ≡ (edge_value g env x && edge_value g env y)
      go true p b q c r k =
          let z : 0 ≡ e = cc in
          ap (edge_value g env) (sym z) ∙ value_false g env
          ∙ sym (⊎_elim (λ (w : eqb x 0 ≡ true). zero-first x (eqb-true x 0 w)) (λ (w : eqb (signed x true) y ≡ true). opposite (eqb-true (signed x true) y w)) (or_cases (eqb x 0) (eqb (signed x true) y) p))
      go false p true q c r k =
          let z : y ≡ e = cc in
          ap (edge_value g env) (sym z) ∙ sym (ap (λ n. edge_value g env n && edge_value g env y) (eqb-true x 1 q) ∙ ap (λ b. b && edge_value g env y) (value_true g env))
      go false p false q true r k =
          let z : x ≡ e = cc in
          ap (edge_value g env) (sym z) ∙ sym (ap (λ n. edge_value g env x && edge_value g env n) (sym (eqb-true x y r)) ∙ and_self (edge_value g env x))
      go false p false q false r k = let z : ◌≡◌ {A = ℕ} 0 1 = cc in absurd (omega arith)

pub fold-known : (x y e n : ℕ) → fold_pair x y ≡ Some e → node_of x ≤ n → node_of y ≤ n → node_of e ≤ n
fold-known x y e n h hx hy = go (eqb x 0 || eqb (signed x true) y) (eqb x 1) (eqb x y) h
  where
    go : (a b c : Bool) → cond a (Some 0) (cond b (Some y) (cond c (Some x) None)) ≡ Some e → node_of e ≤ n
    go true b c k = let z : 0 ≡ e = cc in subst (λ m. node_of m ≤ n) z (omega arith)
    go false true c k = let z : y ≡ e = cc in subst (λ m. node_of m ≤ n) z hy
    go false false true k = let z : x ≡ e = cc in subst (λ m. node_of m ≤ n) z hx
    go false false false k = let z : ◌≡◌ {A = ℕ} 0 1 = cc in absurd (omega arith)

-- where nothing folds, neither fanin is a constant
pub fold-none : (x y : ℕ) → x ≤ y → fold_pair x y ≡ None → (0 < node_of x) × (0 < node_of y)
fold-none x y le h = go (eqb x 0) refl (eqb (signed x true) y) (eqb x 1) refl (eqb x y) h
  where
    go : (a : Bool) → eqb x 0 ≡ a → (b c : Bool) → eqb x 1 ≡ c → (d : Bool)
        → cond (a || b) (Some 0) (cond c (Some y) (cond d (Some x) None)) ≡ None → (0 < node_of x) × (0 < node_of y)
    go true p b c r d k = let z : ◌≡◌ {A = ℕ} 0 1 = cc in absurd (omega arith)
    go false p true c r d k = let z : ◌≡◌ {A = ℕ} 0 1 = cc in absurd (omega arith)
    go false p false true r d k = let z : ◌≡◌ {A = ℕ} 0 1 = cc in absurd (omega arith)
    go false p false false r d k =
        let a : x ≡ 0 → ⊥ = eqb-false x 0 p in
        let b : x ≡ 1 → ⊥ = eqb-false x 1 r in
        (omega arith, omega arith)

-- ---- the pair of fanins
-- an edge of the graph with the value of the AND
pub record EdgeFor (g : Graph) (x y e : ℕ) : Type 0 where
  pub known : node_of e ≤ length g
  pub value : (env : ℕ → Bool) → edge_value g env e ≡ (edge_value g env x && edge_value g env y)

pub record PairFound (g : Graph) (x y e : ℕ) : Type 0 where
  pub first : node_of x ≤ length g
  pub second : node_of y ≤ length g
  pub edge_for : EdgeFor g x y e

pair_later : (nd : Node) (g : Graph) (x y e : ℕ) → PairFound g x y e → PairFound (nd ∷ g) x y e
pair_later nd g x y e f = record {
  first = omega (arith, f.first);
  second = omega (arith, f.second);
  edge_for = record {
    known = omega (arith, f.edge_for.known);
    value = λ env. edge-old bits env nd g e f.edge_for.known ∙ f.edge_for.value env ∙ sym (ap₂ ◌&&◌ (edge-old bits env nd g x f.first) (edge-old bits env nd g y f.second));
  };
}

pub pair_value : (x y : ℕ) (g : Graph) → Ordered g → (e : ℕ) → find_pair x y g ≡ Some e → PairFound g x y e
unfolding find_pair
pair_value x y [] o e h = let z : ◌≡◌ {A = ℕ} 0 1 = cc in absurd (omega arith)
pair_value x y (input ∷ g) o e h = pair_later input g x y e (pair_value x y g o e h)
pair_value x y (gate a b ∷ g) o e h = go (eqb a x && eqb b y) refl h (pair_value x y g o.2 e)
  where
    here : a ≡ x → b ≡ y → edge (suc (length g)) false ≡ e → PairFound (gate a b ∷ g) x y e
    here p q z =
        let hx : node_of x ≤ length g = subst (λ n. node_of n ≤ length g) p o.0 in
        let hy : node_of y ≤ length g = subst (λ n. node_of n ≤ length g) q o.1 in
        record {
          first = omega arith;
          second = omega arith;
          edge_for = record {
            known = subst (λ n. node_of n ≤ suc (length g)) z (omega (arith, node-edge (suc (length g)) false));
            value = λ env.
                ap (edge_value (gate a b ∷ g) env) (sym z) ∙ value-edge (gate a b ∷ g) env (suc (length g)) false ∙ signal_gate bits env g a b
                ∙ ap₂ (λ m n. edge_value g env m && edge_value g env n) p q
                ∙ sym (ap₂ ◌&&◌ (edge-old bits env (gate a b) g x hx) (edge-old bits env (gate a b) g y hy));
          };
        }

    go : (t : Bool) → (eqb a x && eqb b y) ≡ t → cond t (Some (edge (suc (length g)) false)) (find_pair x y g) ≡ Some e → (find_pair x y g ≡ Some e → PairFound g x y e) → PairFound (gate a b ∷ g) x y e
    go true t k ih = let p = and_parts (eqb a x) (eqb b y) t in let z : edge (suc (length g)) false ≡ e = cc in here (eqb-true a x p.0) (eqb-true b y p.1) z
    go false t k ih = pair_later (gate a b) g x y e (ih k)

-- ---- cuts of a node

-- a well-formed cut over nodes of the graph that gives a value
pub record CutFor (p : ℕ) (g : Graph) (v : (ℕ → Bool) → Bool) (c : Cut) : Type 0 where
  pub formed : Formed p c
  pub leaves : Every (λ l. (0 < l) × (l ≤ length g)) c.leaves
  pub describes : (env : ℕ → Bool) → value_of c (value g env) ≡ v env

-- that of a node, and the AND of two edges
abbrev pub CutOf : ℕ → Graph → ℕ → Cut → Type 0
CutOf p g n = CutFor p g (λ env. value g env n)

abbrev pub AndOf : ℕ → Graph → ℕ → ℕ → Cut → Type 0
AndOf p g x y = CutFor p g (λ env. edge_value g env x && edge_value g env y)

-- every kept cut is a cut of its node
pub record KeptWell (p : ℕ) (g : Graph) (ks : List (List Cut)) : Type 0 where
  pub same : length ks ≡ length g
  pub cuts : (n : ℕ) → Every (CutOf p g n) (at [] ks n)

pub trivial_of : (p : ℕ) (g : Graph) (n : ℕ) → 0 < p → 0 < n → n ≤ length g → CutOf p g n (trivial p n)
trivial_of p g n pos h k = let t = trivial-cut p n pos in record { formed = t.0; leaves = ((h, k), tt); describes = λ env. t.1 (value g env) }

pub cuts_of_lem : (p : ℕ) (g : Graph) (ks : List (List Cut)) (n : ℕ) → 0 < p → 0 < n → n ≤ length g → KeptWell p g ks → Every (CutOf p g n) (cuts_of p ks n)
cuts_of_lem p g ks n pos h k w = (trivial_of p g n pos h k, w.cuts n)

-- ---- joined cuts

pub joined-some : (p k : ℕ) (s t : Bool) (a b c : Cut) → joined p k s t a b ≡ Some c → (length (unite a.leaves b.leaves) ≤ k) × (join p a s b t ≡ c)
joined-some p k s t a b c h = go (leb (length (unite a.leaves b.leaves)) k) refl h
  where
    go : (u : Bool) → leb (length (unite a.leaves b.leaves)) k ≡ u → cond u (Some (join p a s b t)) None ≡ Some c → (length (unite a.leaves b.leaves) ≤ k) × (join p a s b t ≡ c)
    go true e z = (leb-true (length (unite a.leaves b.leaves)) k e, cc)
    go false e z = let w : ◌≡◌ {A = ℕ} 0 1 = cc in absurd (omega arith)

module _ (p k : ℕ) (fits : k ≤ p) (g : Graph) (x y : ℕ) where
  pub joined-and : (a b c : Cut) → CutOf p g (node_of x) a → CutOf p g (node_of y) b → joined p k (sign_of x) (sign_of y) a b ≡ Some c → AndOf p g x y c
  joined-and a b c ca cb h =
      let q = joined-some p k (sign_of x) (sign_of y) a b c h in
      let j = joining p a (sign_of x) b (sign_of y) ca.formed cb.formed (omega (arith, q.0)) in
      subst (AndOf p g x y) q.1 (record {
        formed = j.formed;
        leaves = every-joined (λ l. (0 < l) × (l ≤ length g)) p a (sign_of x) b (sign_of y) ca.leaves cb.leaves;
        describes = λ env. j.means (value g env) ∙ ap₂ (λ v w. flip_if (sign_of x) v && flip_if (sign_of y) w) (ca.describes env) (cb.describes env) ∙ sym (ap₂ ◌&&◌ (edge-value g env x) (edge-value g env y));
      })

-- a well-formed cut with one leaf says the leaf, under the key's sign
one_leaf : (p l t : ℕ) → Formed p (record { leaves = l ∷ []; table = t }) → (v : ℕ → Bool) → value_of (record { leaves = l ∷ []; table = t }) v ≡ flip_if (bit_at t 0) (v l)
one_leaf p l t f v = go (v l)
  where
    unlike : bit_at t 1 ≡ not (bit_at t 0)
    unlike = ⊎_elim
        (λ (e : bit_at t 1 ≡ bit_at t 0). absurd (leaf_matters p (record { leaves = l ∷ []; table = t }) f l (rw (eq-eqb l l refl)) (λ w b. flat (put w l b l) e ∙ sym (flat (w l) e))))
        (λ (e : bit_at t 1 ≡ not (bit_at t 0)). e)
        (two_ways (bit_at t 1) (bit_at t 0))
      where
        flat : (b : Bool) → bit_at t 1 ≡ bit_at t 0 → bit_at t (number b + 2 * 0) ≡ bit_at t 0
        flat true e = e
        flat false e = refl

        two_ways : (a b : Bool) → (a ≡ b) ⊎ (a ≡ not b)
        two_ways true true = inl refl
        two_ways true false = inr refl
        two_ways false true = inr refl
        two_ways false false = inl refl

    go : (b : Bool) → bit_at t (number b + 2 * 0) ≡ flip_if (bit_at t 0) b
    go true = unlike ∙ turned (bit_at t 0)
      where
        turned : (b : Bool) → not b ≡ flip_if b true
        turned true = refl
        turned false = refl
    go false = sym (flip_false (bit_at t 0))

-- ---- keys

-- the key says what the cut says, under the key's sign
pub key-value : (p : ℕ) (c : Cut) → Formed p c → (v : ℕ → Bool) → value_of (key_of p c) v ≡ flip_if (key_sign c) (value_of c v)
key-value p c f v = go (key_sign c)
  where
    go : (s : Bool) → value_of (record { leaves = c.leaves; table = cond s (complemented p c.table) c.table }) v ≡ flip_if s (value_of c v)
    go true = (complements p c f).means v
    go false = refl

-- cuts with one list of key numbers have one key
pub one_key : (p : ℕ) (c d : Cut) → key_list p c ≡ key_list p d → key_of p c ≡ key_of p d
one_key p c d h = let t : (key_of p c).table ≡ (key_of p d).table = cc in let l : c.leaves ≡ d.leaves = cc in λ i. record { leaves = l i; table = t i }

-- the cut under whose key an edge was found
pub record KeyFound (p : ℕ) (C : ℕ → Cut → Type 0) (ks : List (List Cut)) (q : List ℕ) (e : ℕ) : Type 0 where
  pub number : ℕ
  pub cut : Cut
  pub some : 0 < number
  pub there : number ≤ length ks
  pub holds : C number cut
  pub key : key_list p cut ≡ q
  pub edge : signed (edge number false) (key_sign cut) ≡ e

first_found : (p n : ℕ) (P : Cut → Type 0) (q : List ℕ) (e : ℕ) (cs : List Cut) → Every P cs
    → first_of (key_list p) (λ c. Some (signed (edge n false) (key_sign c))) None q cs ≡ Some e
    → (c : Cut) × P c × (key_list p c ≡ q) × (signed (edge n false) (key_sign c) ≡ e)
unfolding first_of
first_found p n P q e [] h k = let z : ◌≡◌ {A = ℕ} 0 1 = cc in absurd (omega arith)
first_found p n P q e (c ∷ cs) h k = go (eq_list (key_list p c) q) refl k (first_found p n P q e cs h.1)
  where
    go : (t : Bool) → eq_list (key_list p c) q ≡ t
        → cond t (Some (signed (edge n false) (key_sign c))) (first_of (key_list p) (λ c. Some (signed (edge n false) (key_sign c))) None q cs) ≡ Some e
        → (first_of (key_list p) (λ c. Some (signed (edge n false) (key_sign c))) None q cs ≡ Some e → (c : Cut) × P c × (key_list p c ≡ q) × (signed (edge n false) (key_sign c) ≡ e))
        → (c : Cut) × P c × (key_list p c ≡ q) × (signed (edge n false) (key_sign c) ≡ e)
    go true s z ih = (c, h.0, same-eq (key_list p c) q s, cc)
    go false s z ih = ih z

-- what holds of the cuts of each node holds so for the earlier ones
pub tail-cuts : (C : ℕ → Cut → Type 0) (cs : List Cut) (ks : List (List Cut)) → ((n : ℕ) → Every (C n) (at [] (cs ∷ ks) n)) → (n : ℕ) → Every (C n) (at [] ks n)
tail-cuts C cs ks h n = ⊎_elim
    (λ (z : n < suc (length ks)). subst (Every (C n)) (at_old [] cs ks n (omega arith)) (h n))
    (λ (z : suc (length ks) ≤ n). subst (Every (C n)) (sym (at_none [] ks n (omega arith))) tt)
    (cases_lt n (suc (length ks)))

pub key-found : (p : ℕ) (C : ℕ → Cut → Type 0) (ks : List (List Cut)) → ((n : ℕ) → Every (C n) (at [] ks n)) → (q : List ℕ) (e : ℕ) → find_key p ks q ≡ Some e → KeyFound p C ks q e
unfolding find_key
key-found p C [] h q e k = let z : ◌≡◌ {A = ℕ} 0 1 = cc in absurd (omega arith)
key-found p C (cs ∷ ks) h q e k =
    go (first_of (key_list p) (λ c. Some (signed (edge (suc (length ks)) false) (key_sign c))) None q cs) refl k (key-found p C ks (tail-cuts C cs ks h) q e)
  where
    go : (r : Option ℕ) → first_of (key_list p) (λ c. Some (signed (edge (suc (length ks)) false) (key_sign c))) None q cs ≡ r → or_else r (find_key p ks q) ≡ Some e
        → (find_key p ks q ≡ Some e → KeyFound p C ks q e) → KeyFound p C (cs ∷ ks) q e
    go (Some f) s z ih =
        let w = first_found p (suc (length ks)) (C (suc (length ks))) q e cs (subst (Every (C (suc (length ks)))) (at_new [] cs ks) (h (suc (length ks)))) (s ∙ z) in
        record { number = suc (length ks); cut = w.0; some = omega arith; there = omega arith; holds = w.1; key = w.2; edge = w.3 }
    go None s z ih =
        let f = ih z in
        record { number = f.number; cut = f.cut; some = f.some; there = omega (arith, f.there); holds = f.holds; key = f.key; edge = f.edge }

-- ---- the decision

abbrev pub Right : ℕ → Graph → ℕ → ℕ → Decision → Type 0
Right p g x y (folded e) = EdgeFor g x y e
Right p g x y (shared e) = EdgeFor g x y e
Right p g x y (merged e) = EdgeFor g x y e
Right p g x y (made cs) = Every (AndOf p g x y) cs

-- a key found for a cut: the edge under it has the key's value
pub key-edge : (p : ℕ) (g : Graph) (ks : List (List Cut)) → KeptWell p g ks → (c : Cut) (e : ℕ) → Formed p c → find_key p ks (key_list p c) ≡ Some e
    → (node_of e ≤ length g) × ((env : ℕ → Bool) → value_of (key_of p c) (value g env) ≡ edge_value g env e)
key-edge p g ks w c e fc h =
    let f = key-found p (CutOf p g) ks w.cuts (key_list p c) e h in
    let d = f.cut in
    let n = f.number in (
      subst (λ m. node_of m ≤ length g) f.edge (omega (arith, node-signed (edge n false) (key_sign d), node-edge n false, f.there, w.same)),
      λ env. ap (λ k. value_of k (value g env)) (sym (one_key p d c f.key)) ∙ key-value p d f.holds.formed (value g env)
          ∙ ap (flip_if (key_sign d)) (f.holds.describes env ∙ sym (value-edge g env n false)) ∙ sym (value-signed g env (edge n false) (key_sign d)) ∙ ap (edge_value g env) f.edge,
    )

module _ (p k : ℕ) (pos : 0 < p) (fits : k ≤ p) (g : Graph) (ks : List (List Cut)) (w : KeptWell p g ks) (x y : ℕ) where
  judged-right : (c : Cut) → AndOf p g x y c → (ls : List ℕ) → c.leaves ≡ ls → (found : List Cut) → Every (AndOf p g x y) found
      → Comes (AndOf p g x y) (Right p g x y) (judged p (find_key p ks) c ls found)
  judged-right c a [] e found h = record {
    known = omega (arith, node-edge 0 (key_sign c));
    value = λ env. value-constant g env (key_sign c) ∙ sym (ap (λ ls. bit_at c.table (row (value g env) ls)) e) ∙ a.describes env;
  }
  judged-right c a (l ∷ []) e found h =
      let hl : (0 < l) × (l ≤ length g) = (subst (Every (λ m. (0 < m) × (m ≤ length g))) e a.leaves).0 in
      let f : Formed p (record { leaves = l ∷ []; table = c.table }) = subst (λ ls. Formed p (record { leaves = ls; table = c.table })) e a.formed in
      record {
        known = omega (arith, node-edge l (key_sign c), hl.1);
        value = λ env. value-edge g env l (key_sign c) ∙ sym (one_leaf p l c.table f (value g env)) ∙ sym (ap (λ ls. bit_at c.table (row (value g env) ls)) e) ∙ a.describes env;
      }
  judged-right c a (l ∷ (m ∷ ls)) e found h = go (find_key p ks (key_list p c)) refl
    where
      go : (r : Option ℕ) → find_key p ks (key_list p c) ≡ r → Comes (AndOf p g x y) (Right p g x y) (settled p c r found)
      go None z = every-added (AndOf p g x y) (key_list p) c found a h
      go (Some f) z =
          let q = key-edge p g ks w c f a.formed z in
          record {
            known = omega (arith, node-signed f (key_sign c), q.0);
            value = λ env. value-signed g env f (key_sign c) ∙ ap (flip_if (key_sign c)) (sym (q.1 env) ∙ key-value p c a.formed (value g env)) ∙ flip-back (key_sign c) (value_of c (value g env)) ∙ a.describes env;
          }

  considered-right : (a b : Cut) → CutOf p g (node_of x) a → CutOf p g (node_of y) b → (found : List Cut) → Every (AndOf p g x y) found
      → Comes (AndOf p g x y) (Right p g x y) (considered p (find_key p ks) (joined p k (sign_of x) (sign_of y) a b) found)
  considered-right a b ca cb found h = go (joined p k (sign_of x) (sign_of y) a b) refl
    where
      go : (r : Option Cut) → joined p k (sign_of x) (sign_of y) a b ≡ r → Comes (AndOf p g x y) (Right p g x y) (considered p (find_key p ks) r found)
      go None z = h
      go (Some c) z = judged-right c (joined-and p k fits g x y a b c ca cb z) c.leaves refl found h

  pub search-right : 0 < node_of x → node_of x ≤ length g → 0 < node_of y → node_of y ≤ length g → Comes (AndOf p g x y) (Right p g x y) (search_in p k g ks x y)
  search-right hx kx hy ky =
      search-comes (AndOf p g x y) (Right p g x y) p (find_key p ks) (joined p k (sign_of x) (sign_of y)) (CutOf p g (node_of x)) (CutOf p g (node_of y))
      considered-right (cuts_of p ks (node_of x)) (cuts_of p ks (node_of y)) (cuts_of_lem p g ks (node_of x) pos hx kx w) (cuts_of_lem p g ks (node_of y) pos hy ky w)

pub decide-right : (p : ℕ) (m : Limits) (before : Before) (g : Graph) (ks : List (List Cut)) → 0 < p → m.leaves ≤ p → Ordered g → KeptWell p g ks
    → (x y : ℕ) → x ≤ y → node_of x ≤ length g → node_of y ≤ length g → Right p g x y (decide p m before g ks x y)
unfolding decide
decide-right p m before g ks pos fits o w x y le kx ky =
    go (fold_pair x y) refl (find_pair x y g) refl
  where
    go : (a : Option ℕ) → fold_pair x y ≡ a → (b : Option ℕ) → find_pair x y g ≡ b
        → Right p g x y (in_order a b (chosen m.kept (by_leaves before (leaf_in g)) (search_in p m.leaves g ks x y)))
    go (Some e) h b k = record { known = fold-known x y e (length g) h kx ky; value = λ env. fold-value g env x y e h }
    go None h (Some e) k = (pair_value x y g o e k).edge_for
    go None h None k =
        let u = fold-none x y le h in
        chosen-comes (AndOf p g x y) (Right p g x y) m.kept (by_leaves before (leaf_in g)) (search_in p m.leaves g ks x y)
        (search-right p m.leaves pos fits g ks w x y u.0 kx u.1 ky) (λ cs h. h)
