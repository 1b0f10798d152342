-- What a gate call may rely on in a session that calls led to.
use Rattle.std.proofs.Common.{◌≡◌, ℕ, ◌+◌, ◌<◌, ◌≤◌, min, max, Bool, true, false, cond, not, ◌||◌, eqb, List, [], ◌∷◌, map, length, Some, None, Option, sym, refl, ap, ◌∙◌, subst, ap₂, arith}
use mathlib.Core.Logic.{∥∥₁_elim}
use native.Mathlib.Bridge.{le_prop}
use Rattle.std.proofs.lemmas.Bool.{eq-eqb, both_ways}
use Rattle.model.specs.Cuts.{Cut as Meant, joined, key_list}
use Rattle.model.specs.Edges.{node_of, sign_of, edge, signed}
use Rattle.model.specs.Graphs.{input, gate, Graph, find_pair, find_key, cuts_of}
use Rattle.model.specs.Rankings.{Before, Ranking, Every, first_by}
use Rattle.model.specs.Search.{Decision, folded, made, Search, ended, candidates, fold_pair, chosen, by_leaves, leaf_in, search_in, decide}
use Rattle.model.specs.Sessions.{positions, lean, Answer, gate_call, map_edge, with_gate, outcome_of, edge_of}
use Rattle.model.specs.Sessions as model
use Rattle.model.specs.Runs.{Steps}
use Rattle.model.specs.RunLaws.{gates}
use Rattle.model.proofs.Candidates.{every_candidate, search_makes_none}
use Rattle.model.proofs.Consistent.{run_consistent, decided-within}
use Rattle.model.proofs.Deciding.{fold-none}
use Rattle.model.proofs.History.{gates-told}
use Rattle.model.proofs.Lists.{every-chosen}
use Rattle.model.proofs.Naming.{DecidedWithin}
use Rattle.model.proofs.Signs.{edge-parts, signed-edge, node-edge}
use Rattle.cuts.specs.declared.cut.Cut.{Cut}
use Rattle.cuts.specs.declared.edge.Edge.{Edge}
use Rattle.lookup.specs.Hash.{hashed_slot}
use Rattle.lookup.specs.Pairs.{pair_meaning}
use Rattle.lookup.specs.Slots.{found}
use Rattle.search.specs.Finding.{existing}
use Rattle.search.specs.declared.decision.Existing.{Existing}
use Rattle.search.specs.declared.decision.Existing.TheVariants as existings
use Rattle.sweeper.specs.Answers.{NodeFits, swept_in}
use Rattle.sweeper.specs.declared.accepting.Swept.{Swept}
use Rattle.cuts.specs.Meaning.{meaning}
use Rattle.sweeper.specs.declared.tally.Outcome.{Outcome}
use Rattle.sweeper.specs.declared.tally.Outcome.TheVariants.{Made, Folded, Shared, Merged}
use Rattle.sweeper.specs.Tallies.{count_of, outcome_in}
use Rattle.sweeper.specs.Runs.{Reached}
use Rattle.sweeper.specs.Tables.{Image, Sound, state_of, graph_of, kept_of, node_in, no_reduced, by_cuts, after_edge, Growable, Rest}
use Rattle.sweeper.proofs.Newest.{newest-length}
use Rattle.sweeper.proofs.Gated.{edge-sound, edge-state, edge-rest, gate-done}
use Rattle.sweeper.proofs.Mapping.{sources-are}
use Rattle.sweeper.proofs.Reaching.{map_known, unused}

-- fanins that do not fold are of two nodes
pub nodes-apart : (x y : ℕ) → fold_pair x y ≡ None → node_of x ≡ node_of y → ⊥
nodes-apart x y h e = go (sign_of x) refl (sign_of y) refl
  where
    none : (a b c : Bool) → cond a (Some 0) (cond b (Some y) (cond c (Some x) None)) ≡ None → (a ≡ false) × (c ≡ false)
    none true b c k = let z : ◌≡◌ {A = ℕ} 0 1 = cc in absurd (omega arith)
    none false true c k = let z : ◌≡◌ {A = ℕ} 0 1 = cc in absurd (omega arith)
    none false false true k = let z : ◌≡◌ {A = ℕ} 0 1 = cc in absurd (omega arith)
    none false false false k = (refl, refl)

    tests : ((eqb x 0 || eqb (signed x true) y) ≡ false) × (eqb x y ≡ false)
    tests = none (eqb x 0 || eqb (signed x true) y) (eqb x 1) (eqb x y) h

    right : (a b : Bool) → (a || b) ≡ false → b ≡ false
    right true b k = absurd (both_ways true k refl)
    right false b k = k

    same : (s : Bool) → sign_of x ≡ s → sign_of y ≡ s → ⊥
    same s p q = both_ways (eqb x y) tests.1 (eq-eqb x y (sym (edge-parts x) ∙ ap₂ edge e (p ∙ sym q) ∙ edge-parts y))

    unlike : not (sign_of x) ≡ sign_of y → ⊥
    unlike p = both_ways (eqb (signed x true) y) (right (eqb x 0) (eqb (signed x true) y) tests.0) (eq-eqb (signed x true) y (signed-edge x true ∙ ap₂ edge e p ∙ edge-parts y))

    go : (s : Bool) → sign_of x ≡ s → (t : Bool) → sign_of y ≡ t → ⊥
    go true p true q = same true p q
    go false p false q = same false p q
    go true p false q = unlike (ap not p ∙ sym q)
    go false p true q = unlike (ap not p ∙ sym q)

module _ (c : Image) (reached : Reached (state_of c)) where
  count : length (graph_of c) ≡ c.nodes
  count = newest-length (λ r. node_in r.node) no_reduced c.reduced c.nodes

  -- mapped fanins are nodes of the graph
  pub low-known : (a b x : ℕ) → x ≡ min (map_edge (state_of c) a) (map_edge (state_of c) b) → node_of x ≤ c.nodes
  low-known a b x e = let p = map_known (state_of c) reached a in let q = map_known (state_of c) reached b in omega (arith, count)

  pub high_known : (a b y : ℕ) → y ≡ max (map_edge (state_of c) a) (map_edge (state_of c) b) → node_of y ≤ c.nodes
  high_known a b y e = let p = map_known (state_of c) reached a in let q = map_known (state_of c) reached b in omega (arith, count)

  gates-few : (g : Graph) → gates g ≤ length g
  gates-few [] = omega arith
  gates-few (input ∷ g) = omega (arith, gates-few g)
  gates-few (gate x y ∷ g) = omega (arith, gates-few g)

  -- no tally row counts more calls than there are source nodes
  pub tally-few : (o : Outcome) → count_of c.tally o ≤ c.sources
  tally-few o = ∥∥₁_elim reached le_prop λ l.
      let z = gates-told l.run in
      let f = gates-few (state_of c).source in
      let n = sources-are c in
      go o z f n
    where
      go : (o : Outcome) → gates (state_of c).source ≡ count_of c.tally Made + count_of c.tally Folded + count_of c.tally Shared + count_of c.tally Merged
          → gates (state_of c).source ≤ length (state_of c).source → length (state_of c).source ≡ c.sources → count_of c.tally o ≤ c.sources
      go Made z f n = omega arith
      go Folded z f n = omega arith
      go Shared z f n = omega arith
      go Merged z f n = omega arith

  -- an edge that is decided names a node of the graph
  pub folded-known : (before : Before) (a b x y e : ℕ) → x ≡ min (map_edge (state_of c) a) (map_edge (state_of c) b) → y ≡ max (map_edge (state_of c) a) (map_edge (state_of c) b)
      → decide positions lean before (graph_of c) (kept_of c) x y ≡ folded e → node_of e ≤ c.nodes
  folded-known before a b x y e ex ey h = ∥∥₁_elim reached le_prop λ l.
      let w = decided-within positions before (state_of c) (run_consistent l.run) a b in
      let d = subst (DecidedWithin (length (graph_of c))) (ap₂ (λ p q. decide positions lean before (graph_of c) (kept_of c) p q) (sym ex) (sym ey) ∙ h) w in
      omega (arith, d, count)

-- the kept cuts of a new gate have new keys
pub new_keys : (before : Before) (c : Image) (x y : ℕ) (cs : List Meant) → by_cuts before c x y ≡ made cs → Every (λ k. find_key positions (kept_of c) (key_list positions k) ≡ None) cs
new_keys before c x y cs h = go (search_in positions lean.leaves (graph_of c) (kept_of c) x y) refl h
  where
    P : Meant → Type 0
    P k = find_key positions (kept_of c) (key_list positions k) ≡ None

    go : (s : Search) → search_in positions lean.leaves (graph_of c) (kept_of c) x y ≡ s → chosen lean.kept (by_leaves before (leaf_in (graph_of c))) s ≡ made cs → Every P cs
    go (ended d) e k = absurd (search_makes_none positions (find_key positions (kept_of c)) (joined positions lean.leaves (sign_of x) (sign_of y)) (cuts_of positions (kept_of c) (node_of x)) (cuts_of positions (kept_of c) (node_of y)) [] cs (e ∙ ap ended k))
    go (candidates found) e k =
        let same : first_by (by_leaves before (leaf_in (graph_of c))) lean.kept found ≡ cs = cc in
        subst (Every P) same (every-chosen P (by_leaves before (leaf_in (graph_of c))) lean.kept found
        (every_candidate positions (find_key positions (kept_of c)) P (joined positions lean.leaves (sign_of x) (sign_of y)) (cuts_of positions (kept_of c) (node_of x)) (cuts_of positions (kept_of c) (node_of y)) found (λ v w k i j m h n. n) e))

-- Every over the meanings
pub every_meant : (P : Meant → Type 0) (ks : List Cut) → Every P (map meaning ks) → Every (λ k. P (meaning k)) ks
every_meant P [] e = tt
every_meant P (k ∷ ks) e = (e.0, every_meant P ks e.1)

module _ (before : Before) (c : Image) (s : Sound c) (reached : Reached (state_of c)) (a b : Edge) (x y : ℕ)
    (low : x ≡ min (map_edge (state_of c) a.number) (map_edge (state_of c) b.number)) (high : y ≡ max (map_edge (state_of c) a.number) (map_edge (state_of c) b.number)) where
  -- the edge of a leaf that is folded to has a number
  pub node-fits : (found : Existing) → decide positions lean before (graph_of c) (kept_of c) x y ≡ existing found → NodeFits found
  node-fits (existings.Folded leaf sign) h =
      let k = folded-known c reached before a.number b.number x y (edge leaf sign) low high h in
      omega (arith, node-edge leaf sign, s.few, s.room, s.fewer)
  node-fits (existings.Merged e) h = tt

  -- a gate that the cuts leave to be made can be taken
  pub growable : fold_pair x y ≡ None → find_pair x y (graph_of c) ≡ None → (kept : List Cut) → length kept ≤ 4 → made (map meaning kept) ≡ by_cuts before c x y
      → (m : Edge) → Growable (after_edge c a b Made m) x y kept
  growable none pair kept few is m =
      let some = fold-none x y (omega (arith, low, high)) none in
      record {
        few = few;
        room = omega (arith, s.fewer);
        first = some.0;
        first_known = low-known c reached a.number b.number x low;
        second = some.1;
        second_known = high_known c reached a.number b.number y high;
        apart = nodes-apart x y none;
        new_pair = pair;
        new_keys = every_meant (λ k. find_key positions (kept_of c) (key_list positions k) ≡ None) kept (new_keys before c x y (map meaning kept) (sym is));
        unused = λ n h. unused (state_of c) reached n (omega (arith, count c reached));
      }

-- what the pair slots have is what the graph has
pub looked_up : (c : Image) → Sound c → (x y p q : ℕ) (w : Option ℕ) → p ≡ x → q ≡ y → w ≡ found pair_meaning hashed_slot c.pairs (p ∷ (q ∷ [])) → find_pair x y (graph_of c) ≡ w
looked_up c s x y p q w ep eq is = ap₂ (λ a b. find_pair a b (graph_of c)) (sym ep) (sym eq) ∙ sym (s.pairs _) ∙ sym is

-- what a gate call that is not refused leaves
pub record Done (r : Ranking positions) (c : Image) (a b : ℕ) (d : Image) (w : Answer) : Type 0 where
  pub sound : Sound d
  pub rest : Rest c d
  pub steps : Steps positions (state_of c) (gate_call r a b) (state_of d) w

module _ (r : Ranking positions) (c : Image) (s : Sound c) (a b : Edge) (first : node_of a.number ≤ c.sources) (second : node_of b.number ≤ c.sources) (room : c.sources < c.capacity) (x y : ℕ)
    (low : x ≡ min (map_edge (state_of c) a.number) (map_edge (state_of c) b.number)) (high : y ≡ max (map_edge (state_of c) a.number) (map_edge (state_of c) b.number))
    (d : Decision) (is : decide positions lean r.before (graph_of c) (kept_of c) x y ≡ d) where
  -- by an edge that is there already
  pub edge_done : (o : Outcome) (m : Edge) → outcome_of d ≡ outcome_in o → edge_of (graph_of c) d ≡ m.number → model.reduced_after (graph_of c) x y d ≡ graph_of c → model.kept_after (kept_of c) d ≡ kept_of c
      → (n : Image) → n ≡ after_edge c a b o m → (w : Swept) → w ≡ record { outcome = o; edge = m } → Done r c a.number b.number n (swept_in w)
  edge_done o m ho he hg hk n after w answer = record {
    sound = subst Sound (sym after) (edge-sound c s a b o m room);
    rest = subst (Rest c) (sym after) (edge-rest c s a b room o m);
    steps = subst (λ v. Steps positions (state_of c) (gate_call r a.number b.number) (state_of n) v) (sym (ap swept_in answer ∙ sym (ap₂ model.swept ho he)))
        (gate-done c r a.number b.number first second room x y low high d is (state_of n) (ap state_of after ∙ edge-state c s a b room o m x y d ho he hg hk));
  }

  -- by what the cuts decide
  pub cuts_done : (n : Image) → Sound n → Rest c n → state_of n ≡ (with_gate (state_of c) a.number b.number x y d).state → (w : Answer) → w ≡ model.swept (outcome_of d) (edge_of (graph_of c) d) → Done r c a.number b.number n w
  cuts_done n sound rest state w answer = record {
    sound = sound;
    rest = rest;
    steps = subst (λ v. Steps positions (state_of c) (gate_call r a.number b.number) (state_of n) v) (sym answer) (gate-done c r a.number b.number first second room x y low high d is (state_of n) state);
  }
