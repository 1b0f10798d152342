-- On few inputs the reduced graph tells apart exactly what differs.
use Rattle.std.proofs.Common.{◌≡◌, ℕ, zero, suc, ◌<◌, ◌≤◌, Bool, true, false, not, ◌⊎◌, List, [], ◌∷◌, length, sym, refl, ap, ◌∙◌, subst, ap₂, subst₂, ⊎_elim, arith}
use mathlib.Core.Bool.{not-not}
use mathlib.Core.List.Memᴰ
use mathlib.Core.List.{Memᴰ}
use Rattle.std.proofs.lemmas.Bool.{both_ways, eq-eqb}
use Rattle.model.specs.Tables.{flip_if}
use Rattle.model.specs.Leaves.{has}
use Rattle.model.specs.Edges.{node_of, sign_of, edge}
use Rattle.model.specs.Cuts.{Cut, value_of, Formed, trivial, key_list, complement_of}
use Rattle.model.specs.Graphs.{Node, input, gate, Graph, at, inputs, value, edge_value, cuts_of}
use Rattle.model.specs.Rankings.{Every, Ranking}
use Rattle.model.specs.Search.{Limits, by_leaves, leaf_in}
use Rattle.model.specs.Sessions.{State, Tables, Call, After, gate_call, Outcome, was_made, Answer, swept, step, map_edge}
use Rattle.model.specs.Runs.{Event, Run, opening, calling}
use Rattle.model.specs.RunLaws.{low_fanin, high_fanin, InputsFirst, Complete, Fit}
use Rattle.model.proofs.Lists.{every-mem, every_weaken, every-chosen}
use Rattle.model.proofs.Meaning.{complements}
use Rattle.model.proofs.Unique.{leaf_matters}
use Rattle.model.proofs.Growing.{at_more}
use Rattle.model.proofs.Signs.{edge-value, edge-parts, value-zero}
use Rattle.model.proofs.Deciding.{CutOf, KeptWell, fold-none, cuts_of_lem}
use Rattle.model.proofs.Inputs.{InputNode, input-height, input-grows, input-cuts-one, input-cut_everywhere}
use Rattle.model.proofs.Covering.{InputCut, gate-has-input}
use Rattle.model.proofs.Steps.{Change, same, input-added, gate-added, output_added, change}
use Rattle.model.proofs.Made.{Addition, nothing, one_input, one-gate, step_adds, Candidate, every-found}
use Rattle.model.proofs.Consistent.{Consistent, map-within, fanins-within, run_consistent}
use Rattle.model.proofs.History.{limits-stay}
use Rattle.model.proofs.Values.{Well, well_run, edges-equal}
use Rattle.model.proofs.Reducing.{one-a-key-run}

-- ---- kept cuts have two leaves or more
abbrev Wide : List (List Cut) → Type 0
Wide ks = (n : ℕ) → Every (λ c. 2 ≤ length c.leaves) (at [] ks n)

wide-more : (cs : List Cut) (ks : List (List Cut)) → Every (λ c. 2 ≤ length c.leaves) cs → Wide ks → Wide (cs ∷ ks)
wide-more cs ks h w = at_more (λ n. Every (λ c. 2 ≤ length c.leaves)) [] cs ks (λ n _. w n) h (λ n _. tt)

wide-after : {p : ℕ} {s u : State} {c : Call p} {a : Answer} → Addition p s c u a → Wide s.kept → Wide u.kept
wide-after (nothing _ e _) w = subst Wide (sym e) w
wide-after {s = s} (one_input _ e _) w = subst Wide (sym e) (wide-more [] s.kept tt w)
wide-after {p} {s} (one-gate d) w =
    let W : Cut → Type 0 = λ c. 2 ≤ length c.leaves in
    subst Wide (sym d.kept) (wide-more _ s.kept
    (every-chosen W (by_leaves d.ranking.before (leaf_in s.reduced)) s.limits.kept d.found (every_weaken (Candidate p s) W d.found (λ c k. k.wide) (every-found d))) w)

wide-run : {p : ℕ} {m : Limits} {t : Tables} {es : List (Event p)} {s : State} → Run p m t es s → Wide s.kept
wide-run (opening e) = rw e (λ n. tt)
wide-run (calling r h) = wide-after (step_adds h) (wide-run r)

-- ---- every node has a cut over inputs alone
abbrev Covered : ℕ → Graph → List (List Cut) → Type 0
Covered p g ks = (n : ℕ) → 0 < n → n ≤ length g → InputCut p g (cuts_of p ks n)

-- it stays where one more node comes
input-cut-grows : (p : ℕ) (nd : Node) (g : Graph) (cs ds : List Cut) → ((c : Cut) → Memᴰ c ds → Memᴰ c cs) → InputCut p g ds → InputCut p (nd ∷ g) cs
input-cut-grows p nd g cs ds goes f = record {
  cut = f.cut;
  there = goes f.cut f.there;
  inputs = every_weaken (InputNode g) (InputNode (nd ∷ g)) f.cut.leaves (input-grows nd g) f.inputs;
}

covered_more : (p : ℕ) (nd : Node) (g : Graph) (cs : List Cut) (ks : List (List Cut)) → length ks ≡ length g
    → Covered p g ks → InputCut p (nd ∷ g) (trivial p (suc (length g)) ∷ cs) → Covered p (nd ∷ g) (cs ∷ ks)
covered_more p nd g cs ks rows old new =
    at_more (λ n row. 0 < n → n ≤ suc (length g) → InputCut p (nd ∷ g) (trivial p n ∷ row)) [] cs ks
    (λ n z h _. input-cut-grows p nd g (cuts_of p ks n) (cuts_of p ks n) (λ c i. i) (old n h (omega (arith, rows))))
    (λ _ _. subst (λ n. InputCut p (nd ∷ g) (trivial p (suc n) ∷ cs)) (sym rows) new)
    (λ n z h k. absurd (omega (arith, rows)))

-- after a call with few inputs before it, by an inputs-first ranking if it is an accepted gate call
module _ {p : ℕ} {m : Limits} (fit : Fit p m) {s u : State} {c : Call p} {a : Answer} (k : Consistent s) (w : KeptWell p s.reduced s.kept)
    (limits : s.limits ≡ m) (few : inputs s.source ≤ m.leaves) (marks : (r : Ranking p) (x y : ℕ) (o : Outcome) (f : ℕ) → c ≡ gate_call r x y → a ≡ swept o f → r.mark ≡ true) where
  covered_after : Addition p s c u a → Covered p s.reduced s.kept → Covered p u.reduced u.kept
  covered_after (nothing e f _) old = subst₂ (Covered p) (sym e) (sym f) old
  covered_after (one_input e f _) old =
      subst₂ (Covered p) (sym e) (sym f) (covered_more p input s.reduced [] s.kept w.same old
      (record {
        cut = trivial p (suc (length s.reduced));
        there = Memᴰ.head refl;
        inputs = (record { some = omega arith; known = omega arith; low = input-height s.reduced }, tt);
      }))
  covered_after (one-gate d) old =
      let x = low_fanin s d.first d.second in
      let y = high_fanin s d.first d.second in
      let known = fanins-within s k d.first d.second in
      let free = fold-none x y (omega arith) d.unfolded in
      let fits : s.limits.leaves ≤ p = omega (arith, ap (λ (l : Limits). l.leaves) limits, fit.leaves) in
      let lean : inputs s.reduced ≤ s.limits.leaves = omega (arith, ap (λ (l : Limits). l.leaves) limits, k.same_inputs, few) in
      let some : 0 < s.limits.kept = omega (arith, ap (λ (l : Limits). l.kept) limits, fit.kept) in
      let one = gate-has-input p s.limits.leaves fit.some fits s.reduced s.kept w lean x y free.0 known.0 free.1 known.1
      d.ranking (marks d.ranking d.first d.second was_made _ d.call d.answer) s.limits.kept some d.found d.search
      (old (node_of x) free.0 known.0) (old (node_of y) free.1 known.1) in
      subst₂ (Covered p) (sym d.reduced) (sym d.kept) (covered_more p (gate x y) s.reduced _ s.kept w.same old
      (input-cut-grows p (gate x y) s.reduced _ _ (λ c i. Memᴰ.tail i) one))

-- no call takes an input away
inputs_grow : (p : ℕ) (s : State) (c : Call p) (u : After) → Change p s c u → inputs s.source ≤ inputs u.state.source
inputs_grow p s c u (same a _ e) = rw e (omega arith)
inputs_grow p s c u (input-added _ _ e) = rw e (omega arith)
inputs_grow p s c u (gate-added r a b d _ _ _ _ _ e) = rw e (omega arith)
inputs_grow p s c u (output_added o _ _ _ e) = rw e (omega arith)

covered_run : {p : ℕ} {m : Limits} {t : Tables} {es : List (Event p)} {s : State} → Fit p m → Run p m t es s → inputs s.source ≤ m.leaves → InputsFirst p es → Covered p s.reduced s.kept
covered_run fit (opening e) few marks = rw e (λ n h k. absurd (omega arith))
covered_run {p} {m} fit (calling {s = u} {c = c} {a = a} r h) few marks =
    let fewer : inputs u.source ≤ m.leaves = omega (arith, inputs_grow p u c (step p u c) (change p u c), subst (λ v. inputs v.source ≤ m.leaves) h.state few) in
    covered_after fit (run_consistent r) (well_run fit r).kept (limits-stay r) fewer
    (λ q x y o f. marks (record { before = u; call = c; answer = a }) q x y o f (Memᴰ.head refl)) (step_adds h)
    (covered_run fit r fewer (λ e q x y o f i. marks e q x y o f (Memᴰ.tail i)))

-- ---- no two nodes are equal or complementary
-- a node's cut over inputs
record NodeCut (p : ℕ) (s : State) (n : ℕ) : Type 0 where
  cut : Cut
  formed : Formed p cut
  inputs : Every (InputNode s.reduced) cut.leaves
  describes : (env : ℕ → Bool) → value_of cut (value s.reduced env) ≡ value s.reduced env n
  one_of : (cut ≡ trivial p n) ⊎ Memᴰ cut (at [] s.kept n)

module _ (p : ℕ) (pos : 0 < p) (s : State) (k : Consistent s) (w : Well p s) (wide : Wide s.kept) (covered : Covered p s.reduced s.kept)
    (one_a_key : (m n : ℕ) (c d : Cut) → Memᴰ c (at [] s.kept m) → Memᴰ d (at [] s.kept n) → key_list p c ≡ key_list p d → m ≡ n) where
  node-cut : (n : ℕ) → 0 < n → n ≤ length s.reduced → NodeCut p s n
  node-cut n h k =
      let f = covered n h k in
      let c = every-mem (CutOf p s.reduced n) (cuts_of p s.kept n) (cuts_of_lem p s.reduced s.kept n pos h k w.kept) f.cut f.there in
      record { cut = f.cut; formed = c.formed; inputs = f.inputs; describes = c.describes; one_of = Memᴰ.cases_cons f.there }

  some_leaf : (n : ℕ) (c : NodeCut p s n) → 0 < length c.cut.leaves
  some_leaf n c = ⊎_elim
      (λ (e : c.cut ≡ trivial p n). subst (λ d. 0 < length d.leaves) (sym e) (omega arith))
      (λ (e : Memᴰ c.cut (at [] s.kept n)). omega (arith, every-mem (λ d. 2 ≤ length d.leaves) (at [] s.kept n) (wide n) c.cut e))
      c.one_of

  -- it is no constant
  not-constant : (n : ℕ) → 0 < n → n ≤ length s.reduced → (b : Bool) → ((env : ℕ → Bool) → value s.reduced env n ≡ b) → ⊥
  not-constant n h k b e = go c.cut.leaves refl (some_leaf n c)
    where
      c : NodeCut p s n
      c = node-cut n h k

      flat : (v : ℕ → Bool) → value_of c.cut v ≡ b
      flat = input-cut_everywhere s.reduced c.cut c.inputs b (λ env. c.describes env ∙ e env)

      go : (ls : List ℕ) → c.cut.leaves ≡ ls → 0 < length ls → ⊥
      go [] z q = omega arith
      go (l ∷ ls) z q = leaf_matters p c.cut c.formed l (ap (has l) z ∙ rw (eq-eqb l l refl)) (λ v t. flat _ ∙ sym (flat v))

  -- nodes whose cuts have one key are one node
  one-node : (i j : ℕ) (c : NodeCut p s i) (d : NodeCut p s j) → key_list p c.cut ≡ key_list p d.cut → i ≡ j
  one-node i j c d h =
      let ls : c.cut.leaves ≡ d.cut.leaves = cc in
      ⊎_elim
      (λ (e : c.cut ≡ trivial p i). ⊎_elim
      (λ (f : d.cut ≡ trivial p j). let z : i ∷ [] ≡ j ∷ [] = sym (ap (λ q. q.leaves) e) ∙ ls ∙ ap (λ q. q.leaves) f in cc)
      (λ (f : Memᴰ d.cut (at [] s.kept j)). let z : 1 ≡ length d.cut.leaves = ap (λ q. length q.leaves) (sym e) ∙ ap length ls in
      absurd (omega (arith, every-mem (λ q. 2 ≤ length q.leaves) (at [] s.kept j) (wide j) d.cut f)))
      d.one_of)
      (λ (e : Memᴰ c.cut (at [] s.kept i)). ⊎_elim
      (λ (f : d.cut ≡ trivial p j). let z : length c.cut.leaves ≡ 1 = ap length ls ∙ ap (λ q. length q.leaves) f in
      absurd (omega (arith, every-mem (λ q. 2 ≤ length q.leaves) (at [] s.kept i) (wide i) c.cut e)))
      (λ (f : Memᴰ d.cut (at [] s.kept j)). one_a_key i j c.cut d.cut e f h)
      d.one_of)
      c.one_of

  equal-nodes : (i j : ℕ) → 0 < i → i ≤ length s.reduced → 0 < j → j ≤ length s.reduced → ((env : ℕ → Bool) → value s.reduced env i ≡ value s.reduced env j) → i ≡ j
  equal-nodes i j hi ki hj kj e =
      let c = node-cut i hi ki in
      let d = node-cut j hj kj in
      one-node i j c d (ap (key_list p) (input-cuts-one p s.reduced c.cut d.cut c.formed d.formed c.inputs d.inputs (λ env. c.describes env ∙ e env ∙ sym (d.describes env))))

  opposite-nodes : (i j : ℕ) → 0 < i → i ≤ length s.reduced → 0 < j → j ≤ length s.reduced → ((env : ℕ → Bool) → value s.reduced env i ≡ not (value s.reduced env j)) → i ≡ j
  opposite-nodes i j hi ki hj kj e =
      let c = node-cut i hi ki in
      let d = node-cut j hj kj in
      let k = complements p d.cut d.formed in
      let same : c.cut ≡ complement_of p d.cut = input-cuts-one p s.reduced c.cut (complement_of p d.cut) c.formed k.formed c.inputs d.inputs
      (λ env. c.describes env ∙ e env ∙ ap not (sym (d.describes env)) ∙ sym (k.means (value s.reduced env))) in
      one-node i j c d (ap (key_list p) same ∙ ap (λ q. q.table ∷ d.cut.leaves) k.one_key)

  no_equal : (i j : ℕ) → i ≤ length s.reduced → j ≤ length s.reduced → ((env : ℕ → Bool) → value s.reduced env i ≡ value s.reduced env j) → i ≡ j
  no_equal zero zero ki kj e = refl
  no_equal zero (suc j) ki kj e = absurd (not-constant (suc j) (omega arith) kj false (λ env. sym (e env) ∙ value-zero s.reduced env))
  no_equal (suc i) zero ki kj e = absurd (not-constant (suc i) (omega arith) ki false (λ env. e env ∙ value-zero s.reduced env))
  no_equal (suc i) (suc j) ki kj e = equal-nodes (suc i) (suc j) (omega arith) ki (omega arith) kj e

  never-opposite : (b : Bool) → b ≡ not b → ⊥
  never-opposite true h = both_ways true h refl
  never-opposite false h = both_ways false refl h

  no_opposite : (i j : ℕ) → i ≤ length s.reduced → j ≤ length s.reduced → ((env : ℕ → Bool) → value s.reduced env i ≡ not (value s.reduced env j)) → ⊥
  no_opposite zero zero ki kj e = never-opposite (value s.reduced (λ _. false) 0) (e (λ _. false))
  no_opposite zero (suc j) ki kj e = not-constant (suc j) (omega arith) kj true (λ env. sym (not-not _) ∙ ap not (sym (e env) ∙ value-zero s.reduced env))
  no_opposite (suc i) zero ki kj e = not-constant (suc i) (omega arith) ki true (λ env. e env ∙ ap not (value-zero s.reduced env))
  no_opposite (suc i) (suc j) ki kj e =
      let z = opposite-nodes (suc i) (suc j) (omega arith) ki (omega arith) kj e in
      never-opposite (value s.reduced (λ _. false) (suc j)) (ap (value s.reduced (λ _. false)) (sym z) ∙ e (λ _. false))

  -- edges of equal value are one edge
  one_edge : (e f : ℕ) → node_of e ≤ length s.reduced → node_of f ≤ length s.reduced → ((env : ℕ → Bool) → edge_value s.reduced env e ≡ edge_value s.reduced env f) → e ≡ f
  one_edge e f ke kf h = go (sign_of e) refl (sign_of f) refl
    where
      values : (t u : Bool) → sign_of e ≡ t → sign_of f ≡ u → (env : ℕ → Bool) → flip_if t (value s.reduced env (node_of e)) ≡ flip_if u (value s.reduced env (node_of f))
      values t u a b env = ap (λ q. flip_if q (value s.reduced env (node_of e))) (sym a) ∙ sym (edge-value s.reduced env e) ∙ h env ∙ edge-value s.reduced env f ∙ ap (λ q. flip_if q (value s.reduced env (node_of f))) b

      same : sign_of e ≡ sign_of f → node_of e ≡ node_of f → e ≡ f
      same a b = sym (edge-parts e) ∙ ap₂ (λ n t. edge n t) b a ∙ edge-parts f

      go : (t : Bool) → sign_of e ≡ t → (u : Bool) → sign_of f ≡ u → e ≡ f
      go true a true b = same (a ∙ sym b) (no_equal (node_of e) (node_of f) ke kf (λ env. sym (not-not _) ∙ ap not (values true true a b env) ∙ not-not _))
      go true a false b = absurd (no_opposite (node_of e) (node_of f) ke kf (λ env. sym (not-not _) ∙ ap not (values true false a b env)))
      go false a true b = absurd (no_opposite (node_of e) (node_of f) ke kf (λ env. values false true a b env))
      go false a false b = same (a ∙ sym b) (no_equal (node_of e) (node_of f) ke kf (λ env. values false false a b env))

  complete-state : Complete s
  complete-state = record {
    agree = λ e f ke kf h env. edges-equal p s w env e ke ∙ ap (edge_value s.reduced env) h ∙ sym (edges-equal p s w env f kf);
    one_edge = λ e f ke kf h. one_edge (map_edge s e) (map_edge s f) (map-within s k e) (map-within s k f)
        (λ env. sym (edges-equal p s w env e ke) ∙ h env ∙ edges-equal p s w env f kf);
    no_equal = no_equal;
    no_opposite = no_opposite;
  }

pub complete-run : {p : ℕ} {m : Limits} {t : Tables} {es : List (Event p)} {s : State} → Fit p m → Run p m t es s → inputs s.source ≤ m.leaves → InputsFirst p es → Complete s
complete-run {p} {s = s} fit r few marks = complete-state p fit.some s (run_consistent r) (well_run fit r) (wide-run r) (covered_run fit r few marks) (one-a-key-run r)
