-- What a call adds to the reduced graph and its cuts: nothing, an input, or a made gate that keeps the first of its candidates.
use Rattle.std.proofs.Common.{◌≡◌, ℕ, suc, ◌≤◌, Bool, false, List, [], ◌∷◌, length, Some, None, Option, sym, refl, ap, arith}
use Rattle.model.specs.Edges.{node_of, sign_of, edge}
use Rattle.model.specs.Cuts.{Cut, joined, key_list}
use Rattle.model.specs.Graphs.{input, gate, find_pair, find_key, cuts_of}
use Rattle.model.specs.Rankings.{Ranking, Every, first_by}
use Rattle.model.specs.Search.{Decision, folded, shared, merged, made, Search, ended, candidates, chosen, by_leaves, leaf_in, search_in, fold_pair, in_order, decide}
use Rattle.model.specs.Sessions.{State, Call, gate_call, Answer, swept, was_made, After, step, with_gate}
use Rattle.model.specs.Runs.{Steps}
use Rattle.model.specs.RunLaws.{low_fanin, high_fanin}
use Rattle.model.proofs.Candidates.{every_candidate, search_makes_none, joined-few}
use Rattle.model.proofs.Steps.{Change, same, input-added, gate-added, output_added, change}

-- a gate call that made a gate
pub record GateMade (p : ℕ) (s : State) (c : Call p) (u : State) (a : Answer) : Type 0 where
  pub ranking : Ranking p
  pub first : ℕ
  pub second : ℕ
  pub found : List Cut
  pub call : c ≡ gate_call ranking first second
  pub answer : a ≡ swept was_made (edge (suc (length s.reduced)) false)
  pub unfolded : fold_pair (low_fanin s first second) (high_fanin s first second) ≡ None
  pub no_pair : find_pair (low_fanin s first second) (high_fanin s first second) s.reduced ≡ None
  pub search : search_in p s.limits.leaves s.reduced s.kept (low_fanin s first second) (high_fanin s first second) ≡ candidates found
  pub reduced : u.reduced ≡ gate (low_fanin s first second) (high_fanin s first second) ∷ s.reduced
  pub kept : u.kept ≡ first_by (by_leaves ranking.before (leaf_in s.reduced)) s.limits.kept found ∷ s.kept

pub data Addition (p : ℕ) (s : State) (c : Call p) (u : State) (a : Answer) : Type 0 where
  nothing : u.reduced ≡ s.reduced → u.kept ≡ s.kept → ((e : ℕ) → a ≡ swept was_made e → ⊥) → Addition p s c u a
  one_input : u.reduced ≡ input ∷ s.reduced → u.kept ≡ [] ∷ s.kept → ((e : ℕ) → a ≡ swept was_made e → ⊥) → Addition p s c u a
  one-gate : GateMade p s c u a → Addition p s c u a

-- a decision to make a gate: nothing folds, no gate has the pair, and the search leaves candidates
decided : (o q : Option ℕ) (n : ℕ) (before : Cut → Cut → Bool) (s : Search) (cs : List Cut) → ((ks : List Cut) → s ≡ ended (made ks) → ⊥)
    → in_order o q (chosen n before s) ≡ made cs → (o ≡ None) × (q ≡ None) × ((found : List Cut) × (s ≡ candidates found) × (cs ≡ first_by before n found))
decided (Some e) q n before s cs never h = absurd (let z : ◌≡◌ {A = ℕ} 0 1 = cc in omega arith)
decided None (Some e) n before s cs never h = absurd (let z : ◌≡◌ {A = ℕ} 0 1 = cc in omega arith)
decided None None n before (ended d) cs never h = absurd (never cs (ap ended h))
decided None None n before (candidates found) cs never h = (refl, refl, (found, refl, cc))

decision_adds : (p : ℕ) (s : State) (r : Ranking p) (a b : ℕ) (d : Decision)
    → decide p s.limits r.before s.reduced s.kept (low_fanin s a b) (high_fanin s a b) ≡ d
    → let u = with_gate s a b (low_fanin s a b) (high_fanin s a b) d in Addition p s (gate_call r a b) u.state u.answer
unfolding decide
decision_adds p s r a b (folded e) h = nothing refl refl (λ f k. let z : ◌≡◌ {A = ℕ} 0 1 = cc in omega arith)
decision_adds p s r a b (shared e) h = nothing refl refl (λ f k. let z : ◌≡◌ {A = ℕ} 0 1 = cc in omega arith)
decision_adds p s r a b (merged e) h = nothing refl refl (λ f k. let z : ◌≡◌ {A = ℕ} 0 1 = cc in omega arith)
decision_adds p s r a b (made cs) h =
    let x = low_fanin s a b in
    let y = high_fanin s a b in
    let z = decided (fold_pair x y) (find_pair x y s.reduced) s.limits.kept (by_leaves r.before (leaf_in s.reduced))
    (search_in p s.limits.leaves s.reduced s.kept x y) cs
    (λ ks. search_makes_none p (find_key p s.kept) (joined p s.limits.leaves (sign_of x) (sign_of y)) (cuts_of p s.kept (node_of x)) (cuts_of p s.kept (node_of y)) [] ks) h in
    one-gate (record {
      ranking = r;
      first = a;
      second = b;
      found = z.2.0;
      call = refl;
      answer = refl;
      unfolded = z.0;
      no_pair = z.1;
      search = z.2.1;
      reduced = refl;
      kept = ap (λ (ks : List Cut). ks ∷ s.kept) z.2.2;
    })

change_adds : (p : ℕ) (s : State) (c : Call p) (u : After) → Change p s c u → Addition p s c u.state u.answer
change_adds p s c u (same a none e) = rw e (nothing refl refl (none.unswept was_made))
change_adds p s c u (input-added is _ e) = rw e (one_input refl refl (λ f k. let z : ◌≡◌ {A = ℕ} 0 1 = cc in omega arith))
change_adds p s c u (gate-added r a b d is _ _ _ by e) = rw (e, is) (decision_adds p s r a b d (sym by))
change_adds p s c u (output_added o is _ _ e) = rw e (nothing refl refl (λ f k. let z : ◌≡◌ {A = ℕ} 0 1 = cc in omega arith))

-- what a call of a run adds
pub step_adds : {p : ℕ} {s u : State} {c : Call p} {a : Answer} → Steps p s c u a → Addition p s c u a
step_adds {p} {s} {u} {c} {a} h = rw (h.state, h.answer) (change_adds p s c (step p s c) (change p s c))

-- the candidates of a made gate: keys that are not found, at least two leaves and at most the limit
pub record Candidate (p : ℕ) (s : State) (c : Cut) : Type 0 where
  pub wide : 2 ≤ length c.leaves
  pub few : length c.leaves ≤ s.limits.leaves
  pub new : find_key p s.kept (key_list p c) ≡ None

pub every-found : {p : ℕ} {s u : State} {c : Call p} {a : Answer} (d : GateMade p s c u a) → Every (Candidate p s) d.found
every-found {p = p} {s = s} d =
    let x = low_fanin s d.first d.second in
    let y = high_fanin s d.first d.second in
    let k = s.limits.leaves in
    every_candidate p (find_key p s.kept) (Candidate p s) (joined p k (sign_of x) (sign_of y)) (cuts_of p s.kept (node_of x)) (cuts_of p s.kept (node_of y)) d.found
    (λ v w c i j e h n. record { wide = h; few = joined-few p k (sign_of x) (sign_of y) v w c e; new = n })
    d.search
