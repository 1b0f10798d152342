-- Places filled up to a node.
use Rattle.std.proofs.Common.{◌≡◌, ℕ, suc, ◌+◌, ◌<◌, ◌≤◌, cond, List, ◌∷◌, length, get_or, drop, set, Some, None, Option, IsSome, Bor, sym, refl, ap, ◌∙◌, subst, ap₂, ⊎_elim, add-one, arith, rules}
use Rattle.std.specs.declared.slice.Iter.{Iter}
use Rattle.std.specs.Slice.Iter.{iter_rest, iter_steps}
use Rattle.std.proofs.lemmas.List.{get_or-set_same, get_or-set_other, drop-set-lt, drop-drop, drop_more, length-drop}
use Rattle.std.proofs.lemmas.Bool.{cases_lt}
use Rattle.signals.specs.declared.signal.Signal.{Ghosts as Signal}
use Rattle.model.specs.Tables.{number}
use Rattle.model.specs.Edges.{node_of, sign_of}
use Rattle.model.specs.Graphs.{Node, input, gate, Graph, Kind, at, signals, edge_signal, inputs}
use Rattle.model.proofs.Growing.{at_zero, signal_old, signal_input, signal_gate}
use Rattle.search.specs.declared.rows.Node.{Node as NodeKind}
use Rattle.sweeper.specs.Tables.{node_in}
use Rattle.sweeper.specs.Reports.{entry, node_told}
use Rattle.evaluation.specs.Sides.{is_input}
use Rattle.evaluation.specs.Walks.{kind_of, edge_over, ranked, Walked}
use Rattle.evaluation.proofs.Formed.{gate-known, gate-formed}
use Rattle.evaluation.proofs.Fronts.{front, front-all, front-none, front_length, front-more, front-inputs, front-few, entry-some}

module _ {S : Type 0} (k : Kind S) (given : ℕ → S) (g : Graph) where
  -- the signal of node m among the first n
  abbrev pub up_to : ℕ → ℕ → S
  up_to n m = at k.low (signals k given (front g n)) m

  abbrev pub Filled : ℕ → List S → Type 0
  Filled n xs = (m : ℕ) → m ≤ n → get_or xs m k.low ≡ up_to n m

  pub filled_none : (xs : List S) (v : S) → 0 < length xs → v ≡ k.low → Filled 0 (set xs 0 v)
  filled_none xs v h e m z =
      let is : m ≡ 0 = omega arith in
      ap (λ j. get_or (set xs 0 v) j k.low) is ∙ get_or-set_same xs 0 v k.low h ∙ e ∙ sym (at_zero k.low (signals k given (front g 0))) ∙ ap (up_to 0) (sym is)

  pub filled-all : (n : ℕ) (xs : List S) → length g ≤ n → Filled n xs → (m : ℕ) → m ≤ n → get_or xs m k.low ≡ at k.low (signals k given g) m
  filled-all n xs h f m z = f m z ∙ ap (λ q. at k.low (signals k given q) m) (front-all g n h)

  module _ (n : ℕ) (known : n < length g) where
    -- earlier nodes keep their signals
    kept : (m : ℕ) → m ≤ n → up_to (n + 1) m ≡ up_to n m
    kept m z =
        ap (λ q. at k.low (signals k given q) m) (ap (front g) (add-one n) ∙ front-more g n known)
        ∙ signal_old k given (at input g (suc n)) (front g n) m (omega (arith, front_length g n (omega arith)))

    pub filled_more : (xs : List S) (v : S) → n + 1 < length xs → Filled n xs → v ≡ up_to (n + 1) (n + 1) → Filled (n + 1) (set xs (n + 1) v)
    filled_more xs v room f new m z = ⊎_elim
        (λ (y : m < n + 1). get_or-set_other xs (n + 1) m v k.low (λ e. omega arith) ∙ f m (omega arith) ∙ sym (kept m (omega arith)))
        (λ (y : n + 1 ≤ m). let is : m ≡ n + 1 = omega arith in
        ap (λ j. get_or (set xs (n + 1) v) j k.low) is ∙ get_or-set_same xs (n + 1) v k.low room ∙ new ∙ ap (up_to (n + 1)) (sym is))
        (cases_lt m (n + 1))

    next : (nd : Node) → at input g (n + 1) ≡ nd → up_to (n + 1) (n + 1) ≡ at k.low (signals k given (nd ∷ front g n)) (suc (length (front g n)))
    next nd is =
        let long : n + 1 ≡ suc (length (front g n)) = omega (arith, front_length g n (omega arith)) in
        let one_more : front g (n + 1) ≡ nd ∷ front g n = ap (front g) (add-one n) ∙ front-more g n known ∙ ap (λ q. q ∷ front g n) (ap (at input g) (sym (add-one n)) ∙ is) in
        ap₂ (λ q m. at k.low (signals k given q) m) one_more long

    pub next-input : at input g (n + 1) ≡ input → up_to (n + 1) (n + 1) ≡ given (inputs (front g n))
    next-input is = next input is ∙ signal_input k given (front g n)

    edge_read : (xs : List S) → Filled n xs → (e : ℕ) → node_of e ≤ n → edge_over k xs e ≡ edge_signal k (signals k given (front g n)) e
    edge_read xs f e h = ap (λ v. cond (sign_of e) (k.flip v) v) (f (node_of e) h)

    pub next-gate : (xs : List S) → Filled n xs → (x y : ℕ) → node_of x ≤ n → node_of y ≤ n → at input g (n + 1) ≡ gate x y → up_to (n + 1) (n + 1) ≡ k.meet (edge_over k xs x) (edge_over k xs y)
    next-gate xs f x y hx hy is = next (gate x y) is ∙ signal_gate k given (front g n) x y ∙ sym (ap₂ k.meet (edge_read xs f x hx) (edge_read xs f y hy))

-- the first n nodes are walked: these signals are left for later inputs, and later places stand as they did
pub record Reaching {S : Type 0} (k : Kind S) (given : List S) (g : Graph) (before : List S) (n : ℕ) (left after : List S) : Type 0 where
  pub known : n ≤ length g
  pub remains : left ≡ drop (inputs (front g n)) given
  pub filled : Filled k (ranked k given) g n after
  pub rest : drop (n + 1) after ≡ drop (n + 1) before

module _ {S : Type 0} (k : Kind S) (given : List S) (g : Graph) (before : List S) where
  pub reaching_none : (left : List S) → left ≡ given → (v : S) → 0 < length before → v ≡ k.low → Reaching k given g (set before 0 v) 0 left (set before 0 v)
  reaching_none left same v h e = record {
    known = omega arith;
    remains = same ∙ ap (λ f. drop (inputs f) given) (sym (front-none g));
    filled = filled_none k (ranked k given) g before v h e;
    rest = refl;
  }

  module _ (n : ℕ) (left xs : List S) (so : Reaching k given g before n left xs) where
    more-inputs : (nd : Node) → Some nd ≡ entry input g (n + 1) → inputs (front g (n + 1)) ≡ inputs (front g n) + number (is_input (Some nd))
    more-inputs nd told = front-inputs g n (entry-some g n nd told).0 ∙ ap (λ o. inputs (front g n) + number (is_input o)) (sym told)

    module _ (told : Some input ≡ entry input g (n + 1)) (all : length given ≡ inputs g) where
      -- a signal is left for an input
      below : inputs (front g n) < length given
      below = omega (arith, more-inputs input told, front-few g (n + 1))

      pub some_left : 0 < length left
      some_left = omega (arith, ap length so.remains, length-drop (inputs (front g n)) given, below)

      split : (v : S) (more : List S) → left ≡ v ∷ more → v ∷ more ≡ ranked k given (inputs (front g n)) ∷ drop (inputs (front g n) + 1) given
      split v more e = sym e ∙ so.remains ∙ drop_more given (inputs (front g n)) k.low below

    rest_more : (v : S) → drop (n + 1 + 1) (set xs (n + 1) v) ≡ drop (n + 1 + 1) before
    rest_more v = drop-set-lt (n + 1 + 1) xs (n + 1) v (omega arith) ∙ sym (drop-drop 1 (n + 1) xs) ∙ ap (drop 1) so.rest ∙ drop-drop 1 (n + 1) before

    pub reaching_input : (v : S) (more : List S) → Some input ≡ entry input g (n + 1) → length given ≡ inputs g → left ≡ v ∷ more → n + 1 < length xs
        → Reaching k given g before (n + 1) more (set xs (n + 1) v)
    reaching_input v more told all e room =
        let here = entry-some g n input told in
        let parts = split told all v more e in
        let first : v ≡ ranked k given (inputs (front g n)) = cc in
        let others : more ≡ drop (inputs (front g n) + 1) given = cc in
        record {
          known = omega (arith, here.0);
          remains = others ∙ ap (λ r. drop r given) (sym (more-inputs input told));
          filled = filled_more k (ranked k given) g n here.0 xs v room so.filled (first ∙ sym (next-input k (ranked k given) g n here.0 here.1));
          rest = rest_more v;
        }

    pub reaching_gate : (v p q : S) (x y : ℕ) → Some (gate x y) ≡ entry input g (n + 1) → node_of x ≤ n → node_of y ≤ n → n + 1 < length xs
        → v ≡ k.meet p q → p ≡ edge_over k xs x → q ≡ edge_over k xs y → Reaching k given g before (n + 1) left (set xs (n + 1) v)
    reaching_gate v p q x y told hx hy room e ep eq =
        let here = entry-some g n (gate x y) told in
        record {
          known = omega (arith, here.0);
          remains = so.remains ∙ ap (λ r. drop r given) (let z : inputs (front g n) ≡ inputs (front g (n + 1)) = omega (arith, more-inputs (gate x y) told) in z);
          filled = filled_more k (ranked k given) g n here.0 xs v room so.filled (e ∙ ap₂ k.meet ep eq ∙ sym (next-gate k (ranked k given) g n here.0 xs so.filled x y hx hy here.1));
          rest = rest_more v;
        }

-- a node that is told, by its kind
pub told_as : (o : Option NodeKind) (x nd : NodeKind) (e : Option Node) → o ≡ Some x → x ≡ nd → node_told o ≡ e → Some (node_in nd) ≡ e
told_as o x nd e some is told = sym (ap node_told (some ∙ ap Some is)) ∙ told

-- an iterator with signals left gives the first of them
pub next_some : {S : Type 0} (s t : Iter S) (r : Option (Bor S)) → iter_steps s r t → 0 < length (iter_rest s) → IsSome r
next_some s t None h room = absurd (omega (arith, h.0))
next_some s t (Some x) h room = search rules

pub next_first : {S : Type 0} (s t : Iter S) (r : Option (Bor S)) (x : Bor S) → iter_steps s r t → r ≡ Some x → iter_rest s ≡ x.now ∷ iter_rest t
next_first s t r x h e = let steps = subst (λ q. iter_steps s q t) e h in steps

-- the whole graph is walked
module _ {S : Type 0} (s : Signal S) (lows : s.formed s.low) (meets : (a b : S) → s.formed (s.meet a b)) where
  pub reaching_all : (given : List S) (g : Graph) (before left xs : List S) (v : S) (n : ℕ) → Reaching (kind_of s) given g (set before 0 v) n left xs → length g ≤ n
      → length g < length before → length xs ≡ length before → Walked s g given before xs
  reaching_all given g before left xs v n so h fits room =
      let k = kind_of s in
      let is : n + 1 ≡ suc (length g) = omega (arith, so.known) in
      let all : (m : ℕ) → m ≤ length g → get_or xs m k.low ≡ at k.low (signals k (ranked k given) g) m = λ m z. filled-all k (ranked k given) g n xs h so.filled m (omega arith) in
      record {
        fits = fits;
        room = room;
        places = all;
        rest = ap (λ m. drop m xs) (sym is) ∙ so.rest ∙ drop-set-lt (n + 1) before 0 v (omega arith) ∙ ap (λ m. drop m before) is;
        formed_low = subst s.formed (sym (all 0 (omega arith) ∙ at_zero k.low (signals k (ranked k given) g))) lows;
        formed_gates = λ m x y e. subst s.formed (sym (all m (gate-known g m x y e))) (gate-formed k (ranked k given) s.formed meets g m x y e);
      }
