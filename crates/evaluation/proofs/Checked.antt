-- A walk's answer, and what a walk that is not refused knows.
use Rattle.std.proofs.Common.{◌≡◌, ℕ, suc, ◌<◌, Bool, true, false, cond, eqb, leb, length, refl, ap, ◌∙◌, arith}
use Rattle.std.proofs.lemmas.Bool.{eqb-true, leb-true, eq-eqb, le-leb}
use Rattle.model.specs.Graphs.{Graph, inputs}
use Rattle.model.specs.Sessions.{State, Side, Answer, Refusal, positions, graph_of, walk_answer, walk_call, filled, refused, wrong_signals, too_short, step}
use Rattle.model.specs.Runs.{Steps}
use Rattle.model.specs.RunLaws.{Extends}
use Rattle.model.proofs.Sound.{extends}
use Rattle.sweeper.specs.declared.refusal.Refusal.{Refusal as Refused}
use Rattle.sweeper.specs.Answers.{refusal_in}
use Rattle.evaluation.specs.Both.{both_answer}
use Rattle.evaluation.specs.Walks.{room_answer}

walk_steps : (side : Side) (s : State) (m n : ℕ) (a : Answer) → a ≡ walk_answer (graph_of side s) m n → Steps positions s (walk_call side m n) s a
unfolding step
walk_steps side s m n a e = record { state = refl; answer = e }

pub walk_extends : (side : Side) (s : State) (m n : ℕ) (a : Answer) → a ≡ walk_answer (graph_of side s) m n → Extends positions s (walk_call side m n) s a
walk_extends side s m n a e = extends (walk_steps side s m n a e)

pub walk_refused : (side : Side) (s : State) (m n : ℕ) (r e : Refused) → r ≡ e → refused (refusal_in e) ≡ walk_answer (graph_of side s) m n
    → Extends positions s (walk_call side m n) s (refused (refusal_in r))
walk_refused side s m n r e same h = walk_extends side s m n (refused (refusal_in r)) (ap (λ q. refused (refusal_in q)) same ∙ h)

-- the signals number the inputs, and there are places enough
pub record Ready (g : Graph) (m n count : ℕ) : Type 0 where
  pub signals : m ≡ inputs g
  pub room : length g < n
  pub all : count ≡ suc (length g)

pub ready : (g : Graph) (m n count : ℕ) → filled count ≡ walk_answer g m n → Ready g m n count
ready g m n count e = go (eqb m (inputs g)) refl (leb (suc (length g)) n) refl e
  where
    go : (s : Bool) → eqb m (inputs g) ≡ s → (t : Bool) → leb (suc (length g)) n ≡ t
        → filled count ≡ cond s (cond t (filled (suc (length g))) (refused (too_short (suc (length g))))) (refused (wrong_signals (inputs g))) → Ready g m n count
    go true i true j k = record { signals = eqb-true m (inputs g) i; room = omega (arith, leb-true (suc (length g)) n j); all = cc }
    go true i false j k = absurd (let z : ◌≡◌ {A = ℕ} 0 1 = cc in omega arith)
    go false i true j k = absurd (let z : ◌≡◌ {A = ℕ} 0 1 = cc in omega arith)
    go false i false j k = absurd (let z : ◌≡◌ {A = ℕ} 0 1 = cc in omega arith)

pub room-ready : (g : Graph) (n count : ℕ) → filled count ≡ room_answer g n → length g < n
room-ready g n count e = go (leb (suc (length g)) n) refl e
  where
    go : (t : Bool) → leb (suc (length g)) n ≡ t → filled count ≡ cond t (filled (suc (length g))) (refused (too_short (suc (length g)))) → length g < n
    go true i k = omega (arith, leb-true (suc (length g)) n i)
    go false i k = absurd (let z : ◌≡◌ {A = ℕ} 0 1 = cc in omega arith)

-- ---- both walks
module _ (s : State) (m a b : ℕ) where
  first-refused : (r : Refusal) → refused r ≡ walk_answer s.source m a → refused r ≡ both_answer s m a b
  first-refused r e = go (eqb m (inputs s.source)) (leb (suc (length s.source)) a) e
    where
      go : (p q : Bool) → refused r ≡ cond p (cond q (filled (suc (length s.source))) (refused (too_short (suc (length s.source))))) (refused (wrong_signals (inputs s.source)))
          → refused r ≡ cond p (cond q (cond (leb (suc (length s.reduced)) b) (filled (suc (length s.source))) (refused (too_short (suc (length s.reduced))))) (refused (too_short (suc (length s.source))))) (refused (wrong_signals (inputs s.source)))
      go true true k = absurd (let z : ◌≡◌ {A = ℕ} 0 1 = cc in omega arith)
      go true false k = k
      go false q k = k

  pub both_first : (r e : Refused) → r ≡ e → refused (refusal_in e) ≡ walk_answer s.source m a → refused (refusal_in r) ≡ both_answer s m a b
  both_first r e same h = first-refused (refusal_in r) (ap (λ q. refused (refusal_in q)) same ∙ h)

  module _ (count : ℕ) (first : filled count ≡ walk_answer s.source m a) where
    -- the source walk is ready
    past : (x : Answer) → x ≡ cond (leb (suc (length s.reduced)) b) (filled (suc (length s.source))) (refused (too_short (suc (length s.reduced)))) → x ≡ both_answer s m a b
    past x e = let is = ready s.source m a count first in rw (eq-eqb m (inputs s.source) is.signals, le-leb (suc (length s.source)) a is.room) e

    second-refused : (r : Refusal) → refused r ≡ room_answer s.reduced b → refused r ≡ both_answer s m a b
    second-refused r e = past (refused r) (go (leb (suc (length s.reduced)) b) e)
      where
        go : (t : Bool) → refused r ≡ cond t (filled (suc (length s.reduced))) (refused (too_short (suc (length s.reduced))))
            → refused r ≡ cond t (filled (suc (length s.source))) (refused (too_short (suc (length s.reduced))))
        go true k = absurd (let z : ◌≡◌ {A = ℕ} 0 1 = cc in omega arith)
        go false k = k

    pub both-second : (r e : Refused) → r ≡ e → refused (refusal_in e) ≡ room_answer s.reduced b → refused (refusal_in r) ≡ both_answer s m a b
    both-second r e same h = second-refused (refusal_in r) (ap (λ q. refused (refusal_in q)) same ∙ h)

    pub both-filled : (n : ℕ) → filled n ≡ room_answer s.reduced b → filled count ≡ both_answer s m a b
    both-filled n e =
        past (filled count) (rw (le-leb (suc (length s.reduced)) b (room-ready s.reduced b n e)) (ap filled (ready s.source m a count first).all))
