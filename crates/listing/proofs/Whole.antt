-- The whole listing, stage by stage.
use Rattle.std.proofs.Common.{◌≡◌, ℕ, ◌+◌, ◌-◌, ◌<◌, ◌≤◌, List, [], ◌∷◌, ◌++◌, length, Ok, Err, Result, MatchResult, sym, refl, ap, ◌∙◌, subst, append_assoc, append-nil, zero-add, arith, length-append}
use Rattle.model.specs.Sessions.{State}
use Rattle.model.specs.Reports.{Line, net, node_lines, net_lines, lines_of, out, end, tally_lines, mapped, done}
use Rattle.model.specs.Texts.{written, text_of, report_text}
use Rattle.pages.specs.Page.{over, over_at, Writes}
use Rattle.listing.specs.declared.stage.Stage.{Stage}
use Rattle.listing.specs.declared.stage.Declined.{Declined}
use Rattle.listing.specs.Sections.{rest_text, net_text}
use Rattle.listing.specs.Stages.{Starts, Begins, GoesOn}
use Rattle.listing.proofs.Onward.{text_append, Sofar, none_yet, one_more, room-left, all_done}

net-pieces : (l : Line) (n o e : List Line) → text_of (l ∷ (n ++ o ++ e)) ≡ written l ++ (text_of (n ++ []) ++ (text_of (o ++ e) ++ []))
net-pieces l n o e = simp (text_append, append_assoc, append-nil)

pieces : (xs t m d : List Line) → text_of (xs ++ t ++ m ++ d) ≡ text_of xs ++ (text_of (t ++ []) ++ (text_of (m ++ d) ++ []))
pieces xs t m d = simp (text_append, append_assoc, append-nil)

three_long : (w n o : List ℕ) → length (w ++ (n ++ (o ++ []))) ≡ length w + length n + length o
three_long w n o = simp (length-append, append-nil) (omega arith)

module _ (s : State) where
  abbrev pub maps_on : List ℕ
  maps_on = rest_text (lines_of mapped s.mapped) (done (length s.source) ∷ []) 0 ++ []

  abbrev pub tally_on : List ℕ
  tally_on = rest_text (tally_lines s.tally) [] 0 ++ maps_on

  abbrev pub outs_on : List ℕ
  outs_on = rest_text (lines_of out s.outputs) (end (length s.reduced) ∷ []) 0 ++ []

  abbrev pub nodes_on : List ℕ
  nodes_on = rest_text (node_lines s.reduced) [] 0 ++ outs_on

  pub begun : net_text s ≡ written (net 1) ++ nodes_on
  begun = net-pieces (net 1) (node_lines s.reduced) (lines_of out s.outputs) (end (length s.reduced) ∷ [])

  pub parted : report_text s ≡ net_text s ++ tally_on
  parted = pieces (net_lines s.reduced s.outputs) (tally_lines s.tally) (lines_of mapped s.mapped) (done (length s.source) ∷ [])

  pub net-long : length (net_text s) ≡ length (written (net 1)) + length (rest_text (node_lines s.reduced) [] 0) + length (rest_text (lines_of out s.outputs) (end (length s.reduced) ∷ []) 0)
  net-long = ap length begun ∙ three_long (written (net 1)) (rest_text (node_lines s.reduced) [] 0) (rest_text (lines_of out s.outputs) (end (length s.reduced) ∷ []) 0)

  pub report-long : length (report_text s) ≡ length (net_text s) + length (rest_text (tally_lines s.tally) [] 0) + length (rest_text (lines_of mapped s.mapped) (done (length s.source) ∷ []) 0)
  report-long = ap length parted ∙ three_long (net_text s) (rest_text (tally_lines s.tally) [] 0) (rest_text (lines_of mapped s.mapped) (done (length s.source) ∷ []) 0)

-- ---- the calls, on a page that has room for the whole
module _ (whole page : List ℕ) (room : length whole ≤ length page) where
  -- a stage starts, and the rest is still to be written
  pub record Up {S : Type 0} (rest : List ℕ) (stage : Stage S) (p : List ℕ) : Type 0 where
    pub sofar : Sofar whole rest 0 page stage.at p
    pub fresh : stage.next ≡ 0

  pub first : {S : Type 0} (front rest : List ℕ) (stage : Stage S) (p : List ℕ) → whole ≡ front ++ rest → Starts stage (length front) → p ≡ over front page → Up rest stage p
  first front rest stage p e starts is = record {
    sofar = one_more whole whole front rest 0 page 0 page (none_yet whole 0 page) e (omega arith) stage.at p (starts.0 ∙ sym (zero-add (length front))) is;
    fresh = starts.1;
  }

  module _ {S : Type 0} (lines closing : List Line) (rest : List ℕ) (stage : Stage S) (p : List ℕ) (up : Up (rest_text lines closing 0 ++ rest) stage p) where
    went : {T : Type 0} (IsAt : T → ℕ → Type 0) (t : T) (p' : List ℕ) → GoesOn lines closing IsAt stage p (Ok t) p' → (k : ℕ) × IsAt t k × Sofar whole rest 0 page k p'
    went IsAt t p' g =
        let P : ℕ → Type 0 = λ n. IsAt t (stage.at + length (rest_text lines closing n)) × (length (rest_text lines closing n) ≤ length p - stage.at) × (p' ≡ over_at stage.at (rest_text lines closing n) p) in
        let w = subst P up.fresh g in
        (stage.at + length (rest_text lines closing 0), w.0, one_more whole _ (rest_text lines closing 0) rest 0 page stage.at p up.sofar refl (omega arith) _ p' refl w.2)

    -- no stage declines
    has_room : length p ≡ length page → length p - stage.at < length (rest_text lines closing stage.next) → ⊥
    has_room long short =
        let w = subst (λ (n : ℕ). length p - stage.at < length (rest_text lines closing n)) up.fresh short in
        omega (arith, w, long, room-left whole _ (rest_text lines closing 0) rest 0 page stage.at p up.sofar refl (omega arith))

    -- the next stage starts, and the rest is still to be written
    pub next : {T : Type 0} → length p ≡ length page → (r : Result (Stage T) (Declined (Stage S))) (p' : List ℕ) → GoesOn lines closing Starts stage p r p' → MatchResult r (λ t. Up rest t p') (λ _. ⊥)
    next long (Ok t) p' g =
        let w = went Starts t p' g in
        record { sofar = subst (λ (k : ℕ). Sofar whole rest 0 page k p') (sym w.1.0) w.2; fresh = w.1.1 }
    next long (Err d) p' g = has_room long g.1

  pub last : {S : Type 0} (lines closing : List Line) (stage : Stage S) (p : List ℕ) → Up (rest_text lines closing 0 ++ []) stage p → length p ≡ length page
      → (r : Result ℕ (Declined (Stage S))) (p' : List ℕ) → GoesOn lines closing ◌≡◌ stage p r p' → MatchResult r (λ n. Writes whole page (Ok n) p') (λ _. ⊥)
  last lines closing stage p up long (Ok n) p' g =
      let w = went lines closing [] stage p up ◌≡◌ n p' g in
      let all = all_done whole [] 0 page w.0 p' w.2 refl in
      (w.1 ∙ all.0 ∙ zero-add (length whole), room, all.1)
  last lines closing stage p up long (Err d) p' g = has_room lines closing [] stage p up long g.1

  -- nothing is left, and a stage stands after the whole
  pub all_up : {S : Type 0} (stage : Stage S) (p : List ℕ) → Up [] stage p → Starts stage (length whole) × (p ≡ over whole page)
  all_up stage p up =
      let all = all_done whole [] 0 page stage.at p up.sofar refl in
      ((all.0 ∙ zero-add (length whole), up.fresh), all.1)

-- ---- the stages of the net
module _ (s : State) (page : List ℕ) (room : length (net_text s) ≤ length page) where
  pub outs_up : {S T : Type 0} (nodes : Stage S) (p : List ℕ) → Begins page (Ok nodes) p → length p ≡ length page
      → (r : Result (Stage T) (Declined (Stage S))) (q : List ℕ) → GoesOn (node_lines s.reduced) [] Starts nodes p r q → MatchResult r (λ outs. Up (net_text s) page room (outs_on s) outs q) (λ _. ⊥)
  outs_up nodes p b long r q g =
      next (net_text s) page room (node_lines s.reduced) [] (outs_on s) nodes p (first (net_text s) page room (written (net 1)) (nodes_on s) nodes p (begun s) b.0 b.2) long r q g

  pub tally_up : {S T : Type 0} (outs : Stage S) (p : List ℕ) → Up (net_text s) page room (outs_on s) outs p → length p ≡ length page
      → (r : Result (Stage T) (Declined (Stage S))) (q : List ℕ) → GoesOn (lines_of out s.outputs) (end (length s.reduced) ∷ []) Starts outs p r q → MatchResult r (λ tally. Up (net_text s) page room [] tally q) (λ _. ⊥)
  tally_up outs p up long r q g = next (net_text s) page room (lines_of out s.outputs) (end (length s.reduced) ∷ []) [] outs p up long r q g

-- ---- the stages after the net
module _ (s : State) (page : List ℕ) (room : length (report_text s) ≤ length page) where
  pub maps_up : {S T : Type 0} (tally : Stage S) (p : List ℕ) → Starts tally (length (net_text s)) × (p ≡ over (net_text s) page) → length p ≡ length page
      → (r : Result (Stage T) (Declined (Stage S))) (q : List ℕ) → GoesOn (tally_lines s.tally) [] Starts tally p r q → MatchResult r (λ maps. Up (report_text s) page room (maps_on s) maps q) (λ _. ⊥)
  maps_up tally p b long r q g =
      next (report_text s) page room (tally_lines s.tally) [] (maps_on s) tally p (first (report_text s) page room (net_text s) (tally_on s) tally p (parted s) b.0 b.1) long r q g

  pub end_up : {S : Type 0} (maps : Stage S) (p : List ℕ) → Up (report_text s) page room (maps_on s) maps p → length p ≡ length page
      → (r : Result ℕ (Declined (Stage S))) (q : List ℕ) → GoesOn (lines_of mapped s.mapped) (done (length s.source) ∷ []) ◌≡◌ maps p r q → MatchResult r (λ n. Writes (report_text s) page (Ok n) q) (λ _. ⊥)
  end_up maps p up long r q g = last (report_text s) page room (lines_of mapped s.mapped) (done (length s.source) ∷ []) maps p up long r q g
