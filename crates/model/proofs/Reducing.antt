-- A reduced graph: what holds of its pairs, keys and kept cuts after any run.
use Rattle.std.proofs.Common.{◌≡◌, ℕ, suc, ◌≤◌, Bool, true, false, cond, ◌&&◌, eqb, ◌⊎◌, List, [], ◌∷◌, map, length, Some, None, Option, sym, refl, ap, ◌∙◌, subst, subst₂, ⊎_elim, arith}
use mathlib.Core.List.Memᴰ
use mathlib.Core.List.{Memᴰ}
use lib.ListN.{length-map}
use Rattle.std.proofs.lemmas.Bool.{and_from, eq-eqb, both_ways}
use Rattle.model.specs.Edges.{node_of, sign_of, edge, signed}
use Rattle.model.specs.Cuts.{Cut, joined, key_list, key_sign}
use Rattle.model.specs.Keys.{eq_list, first_of}
use Rattle.model.specs.Graphs.{Node, input, gate, Graph, at, or_else, find_pair, find_key, cuts_of}
use Rattle.model.specs.Rankings.{Ranking, Sized, Every, First, first_by}
use Rattle.model.specs.Search.{Limits, by_leaves, leaf_in}
use Rattle.model.specs.Sessions.{State, Tables, Call, gate_call, Answer, swept, was_made}
use Rattle.model.specs.Runs.{Run, opening, calling, Event}
use Rattle.model.specs.RunLaws.{candidates_of, low_fanin, high_fanin, KeptBy, MadeBy, Fit}
use Rattle.model.proofs.Keys.{same_refl}
use Rattle.model.proofs.Choosing.{choosing, none-left-out}
use Rattle.model.proofs.Growing.{at_old, at_new, at_more, one_more}
use Rattle.model.proofs.Lists.{every-mem, every_weaken, every-chosen}
use Rattle.model.proofs.Candidates.{searched}
use Rattle.model.proofs.Signs.{node-edge}
use Rattle.model.proofs.Made.{GateMade, Addition, nothing, one_input, one-gate, step_adds, Candidate, every-found}
use Rattle.model.proofs.Consistent.{run_consistent}
use Rattle.model.proofs.History.{leaves-fit}

-- ---- no two gates have one pair of fanins
abbrev OnePair : Graph → Type 0
OnePair g = (m n x y : ℕ) → at input g m ≡ gate x y → at input g n ≡ gate x y → m ≡ n

pub no_pair_no_gate : (x y : ℕ) (g : Graph) → find_pair x y g ≡ None → (n : ℕ) → at input g n ≡ gate x y → ⊥
unfolding find_pair
no_pair_no_gate x y [] e n h = let z : ◌≡◌ {A = ℕ} 0 1 = cc in omega arith
no_pair_no_gate x y (input ∷ g) e n h = go (eqb n (suc (length g))) h (no_pair_no_gate x y g e n)
  where
    go : (b : Bool) → cond b input (at input g n) ≡ gate x y → (at input g n ≡ gate x y → ⊥) → ⊥
    go true k f = let z : ◌≡◌ {A = ℕ} 0 1 = cc in omega arith
    go false k f = f k
no_pair_no_gate x y (gate a b ∷ g) e n h = go (eqb a x && eqb b y) refl (eqb n (suc (length g))) e h (no_pair_no_gate x y g)
  where
    go : (t : Bool) → (eqb a x && eqb b y) ≡ t → (v : Bool) → cond t (Some (edge (suc (length g)) false)) (find_pair x y g) ≡ None
        → cond v (gate a b) (at input g n) ≡ gate x y → (find_pair x y g ≡ None → (n : ℕ) → at input g n ≡ gate x y → ⊥) → ⊥
    go true i v e h f = let z : ◌≡◌ {A = ℕ} 0 1 = cc in omega arith
    go false i true e h f =
        let p : a ≡ x = cc in
        let q : b ≡ y = cc in
        both_ways (eqb a x && eqb b y) i (and_from (eqb a x) (eqb b y) (eq-eqb a x p) (eq-eqb b y q))
    go false i false e h f = f e n h

pair_more : (nd : Node) (g : Graph) → ((x y : ℕ) → nd ≡ gate x y → find_pair x y g ≡ None) → OnePair g → OnePair (nd ∷ g)
pair_more nd g new old m n x y =
    let none : nd ≡ gate x y → (n : ℕ) → at input g n ≡ gate x y → ⊥ = λ h. no_pair_no_gate x y g (new x y h) in
    one_more (λ f. f ≡ gate x y) (λ f. f ≡ gate x y) input nd g none none (λ m n. old m n x y) m n

pair_after : (p : ℕ) (s u : State) (c : Call p) (a : Answer) → Addition p s c u a → OnePair s.reduced → OnePair u.reduced
pair_after p s u c a (nothing e _ _) old = subst OnePair (sym e) old
pair_after p s u c a (one_input e _ _) old = subst OnePair (sym e) (pair_more input s.reduced (λ x y h. absurd (let z : ◌≡◌ {A = ℕ} 0 1 = cc in omega arith)) old)
pair_after p s u c a (one-gate d) old =
    let x = low_fanin s d.first d.second in
    let y = high_fanin s d.first d.second in
    subst OnePair (sym d.reduced) (pair_more (gate x y) s.reduced (λ v w h. let i : x ≡ v = cc in let j : y ≡ w = cc in rw (← i, ← j) d.no_pair) old)

module _ {p : ℕ} {m : Limits} {t : Tables} where
  pub one-a_pair_run : {es : List (Event p)} {s : State} → Run p m t es s
      → (m n x y : ℕ) → at input s.reduced m ≡ gate x y → at input s.reduced n ≡ gate x y → m ≡ n
  one-a_pair_run (opening e) = rw e (λ m n x y h k. absurd (let z : ◌≡◌ {A = ℕ} 0 1 = cc in omega arith))
  one-a_pair_run (calling {s = s} {u = u} {c = c} {a = a} r h) = pair_after p s u c a (step_adds h) (one-a_pair_run r)

-- ---- no two nodes keep cuts of one key
abbrev OneKey : ℕ → List (List Cut) → Type 0
OneKey p ks = (m n : ℕ) (c d : Cut) → Memᴰ c (at [] ks m) → Memᴰ d (at [] ks n) → key_list p c ≡ key_list p d → m ≡ n

none_both : (o q : Option ℕ) → or_else o q ≡ None → (o ≡ None) × (q ≡ None)
none_both (Some e) q h = absurd (let z : ◌≡◌ {A = ℕ} 0 1 = cc in omega arith)
none_both None q h = (refl, h)

none_first : (p : ℕ) (gives : Cut → ℕ) (cs : List Cut) (c : Cut) → first_of (key_list p) (λ k. Some (gives k)) None (key_list p c) cs ≡ None
    → (d : Cut) → Memᴰ d cs → key_list p d ≡ key_list p c → ⊥
unfolding first_of
none_first p gives [] c e d m k = absurd (Memᴰ.not-nil m)
none_first p gives (x ∷ cs) c e d m k = go (eq_list (key_list p x) (key_list p c)) refl e (none_first p gives cs c)
  where
    go : (b : Bool) → eq_list (key_list p x) (key_list p c) ≡ b
        → cond b (Some (gives x)) (first_of (key_list p) (λ k. Some (gives k)) None (key_list p c) cs) ≡ None
        → (first_of (key_list p) (λ k. Some (gives k)) None (key_list p c) cs ≡ None → (d : Cut) → Memᴰ d cs → key_list p d ≡ key_list p c → ⊥) → ⊥
    go true i h f = let z : ◌≡◌ {A = ℕ} 0 1 = cc in omega arith
    go false i h f = ⊎_elim
        (λ (q : d ≡ x). both_ways (eq_list (key_list p x) (key_list p c)) i
        (subst (λ (l : List ℕ). eq_list l (key_list p c) ≡ true) (sym k ∙ ap (key_list p) q) (same_refl (key_list p c))))
        (λ q. f h d q k)
        (Memᴰ.cases_cons m)

-- where a key is not found, no node keeps a cut of it
pub no_key_no_cut : (p : ℕ) (ks : List (List Cut)) (c : Cut) → find_key p ks (key_list p c) ≡ None
    → (n : ℕ) (d : Cut) → Memᴰ d (at [] ks n) → key_list p d ≡ key_list p c → ⊥
unfolding find_key
no_key_no_cut p [] c e n d m k = absurd (Memᴰ.not-nil m)
no_key_no_cut p (cs ∷ ks) c e n d m k = go (eqb n (suc (length ks))) m (no_key_no_cut p ks c parts.1 n d)
  where
    parts : (first_of (key_list p) (λ k. Some (signed (edge (suc (length ks)) false) (key_sign k))) None (key_list p c) cs ≡ None) × (find_key p ks (key_list p c) ≡ None)
    parts = none_both _ _ e

    go : (b : Bool) → Memᴰ d (cond b cs (at [] ks n)) → (Memᴰ d (at [] ks n) → key_list p d ≡ key_list p c → ⊥) → ⊥
    go true i f = none_first p (λ k. signed (edge (suc (length ks)) false) (key_sign k)) cs c parts.0 d i k
    go false i f = f i k

key_more : (p : ℕ) (cs : List Cut) (ks : List (List Cut)) → Every (λ c. find_key p ks (key_list p c) ≡ None) cs → OneKey p ks → OneKey p (cs ∷ ks)
key_more p cs ks new old m n c d h k e =
    let fresh = every-mem (λ f. find_key p ks (key_list p f) ≡ None) cs new in
    one_more (Memᴰ c) (Memᴰ d) [] cs ks
    (λ i n j. no_key_no_cut p ks c (fresh c i) n d j (sym e))
    (λ i m j. no_key_no_cut p ks d (fresh d i) m c j e)
    (λ m n i j. old m n c d i j e) m n h k

key-after : (p : ℕ) (s u : State) (c : Call p) (a : Answer) → Addition p s c u a → OneKey p s.kept → OneKey p u.kept
key-after p s u c a (nothing _ e _) old = subst (OneKey p) (sym e) old
key-after p s u c a (one_input _ e _) old = subst (OneKey p) (sym e) (key_more p [] s.kept tt old)
key-after p s u c a (one-gate d) old =
    subst (OneKey p) (sym d.kept) (key_more p _ s.kept
    (every-chosen (λ f. find_key p s.kept (key_list p f) ≡ None) (by_leaves d.ranking.before (leaf_in s.reduced)) s.limits.kept d.found
    (every_weaken (Candidate p s) (λ f. find_key p s.kept (key_list p f) ≡ None) d.found (λ f k. k.new) (every-found d)))
    old)

module _ {p : ℕ} {m : Limits} {t : Tables} where
  pub one-a-key-run : {es : List (Event p)} {s : State} → Run p m t es s
      → (m n : ℕ) (c d : Cut) → Memᴰ c (at [] s.kept m) → Memᴰ d (at [] s.kept n) → key_list p c ≡ key_list p d → m ≡ n
  one-a-key-run (opening e) = rw e (λ m n c d h k f. absurd (Memᴰ.not-nil h))
  one-a-key-run (calling {s = s} {u = u} {c = c} {a = a} r h) = key-after p s u c a (step_adds h) (one-a-key-run r)

-- ---- every gate was made by a call of the run
made-newest : (p : ℕ) (s u : State) (c : Call p) (a : Answer) (es : List (Event p)) → GateMade p s c u a
    → MadeBy p (record { before = s; call = c; answer = a } ∷ es) (suc (length s.reduced))
made-newest p s u c a es d = record {
  event = record { before = s; call = c; answer = a };
  ranking = d.ranking;
  first = d.first;
  second = d.second;
  in_run = Memᴰ.head refl;
  call = d.call;
  answer = d.answer;
}

made-later : (p : ℕ) (es : List (Event p)) (e : Event p) (n : ℕ) → MadeBy p es n → MadeBy p (e ∷ es) n
made-later p es e n d = record {
  event = d.event;
  ranking = d.ranking;
  first = d.first;
  second = d.second;
  in_run = Memᴰ.tail d.in_run;
  call = d.call;
  answer = d.answer;
}

abbrev AllMade : (p : ℕ) → List (Event p) → Graph → Type 0
AllMade p es g = (n x y : ℕ) → at input g n ≡ gate x y → MadeBy p es n

made_more : (p : ℕ) (es : List (Event p)) (nd : Node) (g : Graph) → ((x y : ℕ) → nd ≡ gate x y → MadeBy p es (suc (length g))) → AllMade p es g → AllMade p es (nd ∷ g)
made_more p es nd g new old =
    at_more (λ n f. (x y : ℕ) → f ≡ gate x y → MadeBy p es n) input nd g (λ n _. old n) new (λ n _ x y h. absurd (let z : ◌≡◌ {A = ℕ} 0 1 = cc in omega arith))

made_after : (p : ℕ) (s u : State) (c : Call p) (a : Answer) (es : List (Event p)) → Addition p s c u a
    → (GateMade p s c u a → MadeBy p es (suc (length s.reduced))) → AllMade p es s.reduced → AllMade p es u.reduced
made_after p s u c a es (nothing e _ _) new old = subst (AllMade p es) (sym e) old
made_after p s u c a es (one_input e _ _) new old =
    subst (AllMade p es) (sym e) (made_more p es input s.reduced (λ x y h. absurd (let z : ◌≡◌ {A = ℕ} 0 1 = cc in omega arith)) old)
made_after p s u c a es (one-gate d) new old = subst (AllMade p es) (sym d.reduced) (made_more p es _ s.reduced (λ x y h. new d) old)

module _ {p : ℕ} {m : Limits} {t : Tables} where
  pub made-run : {es : List (Event p)} {s : State} → Run p m t es s → (n x y : ℕ) → at input s.reduced n ≡ gate x y → MadeBy p es n
  made-run (opening e) = rw e (λ n x y h. absurd (let z : ◌≡◌ {A = ℕ} 0 1 = cc in omega arith))
  made-run (calling {es = es} {s = s} {u = u} {c = c} {a = a} r h) =
      made_after p s u c a _ (step_adds h) (made-newest p s u c a es) (λ n x y e. made-later p es _ n (made-run r n x y e))

-- ---- a made gate, after any further calls

-- the candidates that the call left, and the node and the kept cuts as they stand now
record Stands (p : ℕ) (before : State) (r : Ranking p) (a b : ℕ) (now : State) : Type 0 where
  limit : before.limits.leaves ≤ p
  found : List Cut
  are : found ≡ candidates_of p before.limits.leaves before.kept (low_fanin before a b) (high_fanin before a b)
  every : Every (Candidate p before) found
  fanins : at input now.reduced (suc (length before.reduced)) ≡ gate (low_fanin before a b) (high_fanin before a b)
  cuts : at [] now.kept (suc (length before.reduced)) ≡ first_by (by_leaves r.before (leaf_in before.reduced)) before.limits.kept found
  there : suc (length before.reduced) ≤ length now.reduced
  there_too : suc (length before.reduced) ≤ length now.kept

stands-newest : {p : ℕ} {s u : State} {c : Call p} {a : Answer} (d : GateMade p s c u a) → s.limits.leaves ≤ p → length s.kept ≡ length s.reduced
    → Stands p s d.ranking d.first d.second u
stands-newest {p = p} {s = s} {u = u} d fit q =
    let x = low_fanin s d.first d.second in
    let y = high_fanin s d.first d.second in
    let kept = first_by (by_leaves d.ranking.before (leaf_in s.reduced)) s.limits.kept d.found in
    record {
      limit = fit;
      found = d.found;
      are = (searched p (find_key p s.kept) (joined p s.limits.leaves (sign_of x) (sign_of y)) (cuts_of p s.kept (node_of x)) (cuts_of p s.kept (node_of y)) [] d.found d.search).are;
      every = every-found d;
      fanins = ap (λ (g : Graph). at input g (suc (length s.reduced))) d.reduced ∙ at_new input (gate x y) s.reduced;
      cuts = ap (λ (ks : List (List Cut)). at [] ks (suc (length s.reduced))) d.kept ∙ ap (λ (n : ℕ). at [] (kept ∷ s.kept) (suc n)) (sym q) ∙ at_new [] kept s.kept;
      there = omega (arith, ap length d.reduced);
      there_too = omega (arith, ap length d.kept, q);
    }

-- it goes on standing where its row is found as it was
stands_on : {p : ℕ} {o : State} {r : Ranking p} {x y : ℕ} {s u : State} → Stands p o r x y s
    → at input u.reduced (suc (length o.reduced)) ≡ at input s.reduced (suc (length o.reduced)) → length s.reduced ≤ length u.reduced
    → at [] u.kept (suc (length o.reduced)) ≡ at [] s.kept (suc (length o.reduced)) → length s.kept ≤ length u.kept → Stands p o r x y u
stands_on d e h f k = record {
  limit = d.limit;
  found = d.found;
  are = d.are;
  every = d.every;
  fanins = e ∙ d.fanins;
  cuts = f ∙ d.cuts;
  there = omega (arith, h, d.there);
  there_too = omega (arith, k, d.there_too);
}

stands_with : {p : ℕ} {o : State} {r : Ranking p} {x y : ℕ} {s u : State} → Stands p o r x y s → (nd : Node) (cs : List Cut)
    → u.reduced ≡ nd ∷ s.reduced → u.kept ≡ cs ∷ s.kept → Stands p o r x y u
stands_with {o = o} {s = s} d nd cs e f =
    let n = suc (length o.reduced) in
    stands_on d
    (ap (λ (g : Graph). at input g n) e ∙ at_old input nd s.reduced n d.there) (omega (arith, ap length e))
    (ap (λ (ks : List (List Cut)). at [] ks n) f ∙ at_old [] cs s.kept n d.there_too) (omega (arith, ap length f))

stands_after : {p : ℕ} {o : State} {r : Ranking p} {x y : ℕ} {s u : State} {c : Call p} {a : Answer} → Addition p s c u a → Stands p o r x y s → Stands p o r x y u
stands_after {o = o} (nothing e f _) d =
    let n = suc (length o.reduced) in
    stands_on d (ap (λ (g : Graph). at input g n) e) (omega (arith, ap length e)) (ap (λ (ks : List (List Cut)). at [] ks n) f) (omega (arith, ap length f))
stands_after (one_input e f _) d = stands_with d input [] e f
stands_after (one-gate g) d = stands_with d _ _ g.reduced g.kept

-- what stands is kept by the call's ranking
kept_by : (p : ℕ) (before : State) (r : Ranking p) (a b : ℕ) (now : State) → Stands p before r a b now
    → KeptBy p before r a b (edge (suc (length before.reduced)) false) now
kept_by p before r a b now d =
    let n = suc (length before.reduced) in
    let leaf = leaf_in before.reduced in
    let rank : Cut → Cut → Bool = by_leaves r.before leaf in
    let many = before.limits.kept in
    let sized : Every (λ c. Sized p (map leaf c.leaves)) d.found =
    every_weaken (Candidate p before) (λ c. Sized p (map leaf c.leaves)) d.found
    (λ c k. (omega (arith, length-map c.leaves leaf, k.wide), omega (arith, length-map c.leaves leaf, k.few, d.limit))) d.every in
    let cuts : first_by rank many d.found ≡ at [] now.kept (node_of (edge n false)) = sym (ap (at [] now.kept) (node-edge n false) ∙ d.cuts) in
    record {
      next = refl;
      fanins = ap (at input now.reduced) (node-edge n false) ∙ d.fanins;
      first = λ c. subst₂ (First rank many c) d.are cuts (choosing p r leaf many c d.found sized).first;
      none = subst₂ (λ (cs ks : List Cut). (c k : Cut) → Memᴰ c cs → Memᴰ k ks → Memᴰ c ks ⊎ (rank c k ≡ false)) d.are cuts
          (none-left-out p r leaf many d.found sized);
    }

record KeptOn (p : ℕ) (before : State) (r : Ranking p) (a b f : ℕ) (now : State) : Type 0 where
  edge-is : f ≡ edge (suc (length before.reduced)) false
  stands : Stands p before r a b now

newest : (p : ℕ) (s u : State) (c : Call p) (w : Answer) (r : Ranking p) (a b f : ℕ) → Addition p s c u w → s.limits.leaves ≤ p → length s.kept ≡ length s.reduced
    → c ≡ gate_call r a b → w ≡ swept was_made f → KeptOn p s r a b f u
newest p s u c w r a b f (nothing _ _ never) fit q e h = absurd (never f h)
newest p s u c w r a b f (one_input _ _ never) fit q e h = absurd (never f h)
newest p s u c w r a b f (one-gate d) fit q e h = record {
  edge-is = let z : swept was_made f ≡ swept was_made (edge (suc (length s.reduced)) false) = sym h ∙ d.answer in cc;
  stands =
      let z : gate_call d.ranking d.first d.second ≡ gate_call r a b = sym d.call ∙ e in
      let i : d.ranking ≡ r = cc in
      let j : d.first ≡ a = cc in
      let k : d.second ≡ b = cc in
      rw (← i, ← j, ← k) (stands-newest d fit q);
}

module _ {p : ℕ} {m : Limits} {t : Tables} (fit : Fit p m) where
  kept_on_run : {es : List (Event p)} {s : State} → Run p m t es s
      → (e : Event p) (r : Ranking p) (a b f : ℕ) → Memᴰ e es → e.call ≡ gate_call r a b → e.answer ≡ swept was_made f → KeptOn p e.before r a b f s
  kept_on_run (opening _) e r a b f i call answer = absurd (Memᴰ.not-nil i)
  kept_on_run (calling {s = s} {u = u} {c = c} {a = w} run h) e r a b f i call answer =
      ⊎_elim
      (λ z.
      subst (λ (x : State). KeptOn p x r a b f u) (sym (ap (λ (x : Event p). x.before) z))
      (newest p s u c w r a b f (step_adds h) (leaves-fit fit run) (run_consistent run).one_row
      (sym (ap (λ (x : Event p). x.call) z) ∙ call) (sym (ap (λ (x : Event p). x.answer) z) ∙ answer)))
      (λ z.
      let d = kept_on_run run e r a b f z call answer in
      record { edge-is = d.edge-is; stands = stands_after (step_adds h) d.stands })
      (Memᴰ.cases_cons i)

  pub kept_run : {es : List (Event p)} {s : State} → Run p m t es s
      → (e : Event p) (r : Ranking p) (a b f : ℕ) → Memᴰ e es → e.call ≡ gate_call r a b → e.answer ≡ swept was_made f → KeptBy p e.before r a b f s
  kept_run {s = s} run e r a b f i call answer =
      let d = kept_on_run run e r a b f i call answer in
      subst (λ (x : ℕ). KeptBy p e.before r a b x s) (sym d.edge-is) (kept_by p e.before r a b s d.stands)
