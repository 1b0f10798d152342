-- What a cone call answers is what the rules say.
use Rattle.std.proofs.Common.{◌≡◌, ℕ, suc, ◌<◌, ◌≤◌, Bool, true, false, cond, leb, List, length, Ok, Err, Result, sym, refl, ap, ◌∙◌, subst, arith}
use Rattle.std.proofs.lemmas.Bool.{le-leb, lt-leb, leb-false}
use Rattle.model.specs.Edges.{node_of}
use Rattle.model.specs.Graphs.{Graph, cone_of}
use Rattle.model.specs.Sessions.{State, counted, refused, no_node, too_short, above_cap, cone_call, positions, step}
use Rattle.model.specs.RunLaws.{Extends}
use Rattle.model.proofs.Sound.{extends}
use Rattle.sweeper.specs.declared.refusal.Refusal.{Refusal}
use Rattle.sweeper.specs.declared.refusal.Refusal.TheVariants.{AboveCap}
use Rattle.cones.specs.Marks.{Wiped}
use Rattle.cones.specs.Paths.{Cone}
use Rattle.cones.specs.Cones.{told_count, capped, MarksAfter, ConeTold}

module _ (s : State) (e marks cap : ℕ) where
  pub no_such_node : length s.reduced < node_of e → Extends positions s (cone_call e marks cap) s (refused (no_node 0))
  unfolding step
  no_such_node h = extends (record { state = refl; answer = rw (lt-leb (node_of e) (length s.reduced) h) refl })

  module _ (known : node_of e ≤ length s.reduced) where
    pub few_marks : (wanted : ℕ) → wanted ≡ suc (length s.reduced) → marks < wanted → Extends positions s (cone_call e marks cap) s (refused (too_short wanted))
    unfolding step
    few_marks wanted is h = extends (record {
      state = refl;
      answer = rw (le-leb (node_of e) (length s.reduced) known, lt-leb (suc (length s.reduced)) marks (omega arith)) (ap (λ n. refused (too_short n)) is);
    })

    pub counts : length s.reduced < marks → (r : Result ℕ Refusal) → r ≡ capped (cone_of s.reduced e) cap → Extends positions s (cone_call e marks cap) s (told_count r)
    unfolding step
    counts room r is = extends (record {
      state = refl;
      answer = rw (le-leb (node_of e) (length s.reduced) known, le-leb (suc (length s.reduced)) marks room) (ap told_count is ∙ told (leb (cone_of s.reduced e) cap));
    })
      where
        told : (b : Bool) → told_count (cond b (Ok (cone_of s.reduced e)) (Err (AboveCap cap))) ≡ cond b (counted (cone_of s.reduced e)) (refused (above_cap cap))
        told true = refl
        told false = refl

-- what holds of a number that is within the cap, and of a cap that it is above
pub by_cap : (P : Result ℕ Refusal → Type 0) (n cap : ℕ) → P (Ok n) → (cap < n → P (Err (AboveCap cap))) → (r : Result ℕ Refusal) → r ≡ capped n cap → P r
by_cap P n cap within above r is = subst P (sym is) (go (leb n cap) refl)
  where
    go : (b : Bool) → leb n cap ≡ b → P (cond b (Ok n) (Err (AboveCap cap)))
    go true h = within
    go false h = above (leb-false n cap h)

pub marks_wiped : (before after : List ℕ) (n cap : ℕ) → Wiped before after → (r : Result ℕ Refusal) → r ≡ capped n cap → MarksAfter before after r
marks_wiped before after n cap w r is = by_cap (MarksAfter before after) n cap w (λ _. w) r is

pub cone-told : (g : Graph) (e cap : ℕ) → Cone g (node_of e) (cone_of g e) → (r : Result ℕ Refusal) → r ≡ capped (cone_of g e) cap → ConeTold g (node_of e) cap r
cone-told g e cap cone r is = by_cap (ConeTold g (node_of e) cap) (cone_of g e) cap cone (λ h. record { number = cone_of g e; cone = cone; above = h }) r is
