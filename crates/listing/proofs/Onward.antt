-- Lines read and written one after another.
use Rattle.std.proofs.Common.{◌≡◌, ℕ, ◌+◌, ◌-◌, ◌<◌, ◌≤◌, true, List, [], ◌∷◌, ◌++◌, length, get_or, drop, Some, None, Option, Ok, Err, Result, sym, refl, ap, ◌∙◌, subst, ⊎_elim, append_assoc, append-nil, add-zero, add_assoc, arith, length-append}
use Rattle.std.proofs.lemmas.List.{drop_more, drop_all}
use Rattle.std.proofs.str.Laws.{order}
use Rattle.model.specs.Reports.{Line, net}
use Rattle.model.specs.Texts.{written, text_of}
use Rattle.pages.specs.declared.line.Line.{Line as Told}
use Rattle.pages.specs.declared.short.Short.{Short}
use Rattle.pages.specs.Lines.{line_in}
use Rattle.pages.specs.Page.{over_at, WritesAt}
use Rattle.pages.proofs.Over.{over_at-more, over_at-none}
use Rattle.listing.specs.declared.stage.Stage.{Stage}
use Rattle.listing.specs.Sections.{told, next_of, closed, rest_text}
use Rattle.listing.specs.Stages.{Called, LineCall}

-- ---- the first line that is left
pub next-is : (xs : List Line) (k : ℕ) (l : Line) → Some l ≡ next_of (drop k xs) → drop k xs ≡ l ∷ drop (k + 1) xs
next-is xs k l e = ⊎_elim
    (λ (h : k < length xs).
    let is = drop_more xs k l h in
    let same : l ≡ get_or xs k l = (let p : Some l ≡ Some (get_or xs k l) = e ∙ ap next_of is in cc) in
    is ∙ ap (λ x. x ∷ drop (k + 1) xs) (sym same))
    (λ (h : length xs ≤ k). absurd (let p : Some l ≡ None = e ∙ ap next_of (drop_all k xs h) in let z : ◌≡◌ {A = ℕ} 0 1 = cc in omega arith))
    (order k (length xs))

pub next-within : (xs : List Line) (k : ℕ) (l : Line) → Some l ≡ next_of (drop k xs) → k < length xs
next-within xs k l e = ⊎_elim (λ (h : k < length xs). h)
    (λ (h : length xs ≤ k). absurd (let p : Some l ≡ None = e ∙ ap next_of (drop_all k xs h) in let z : ◌≡◌ {A = ℕ} 0 1 = cc in omega arith))
    (order k (length xs))

pub none-past : (xs : List Line) (k : ℕ) → None ≡ next_of (drop k xs) → length xs ≤ k
none-past xs k e = ⊎_elim
    (λ (h : k < length xs). absurd (let p = e ∙ ap next_of (drop_more xs k (net 0) h) in let z : ◌≡◌ {A = ℕ} 0 1 = cc in omega arith))
    (λ (h : length xs ≤ k). h)
    (order k (length xs))

-- ---- the texts of lines
pub text_end : (xs : List Line) (k : ℕ) → length xs ≤ k → text_of (drop k xs) ≡ []
text_end xs k h = ap text_of (drop_all k xs h)

-- a line that may be there, and those after it
pub text_next : (xs : List Line) (k : ℕ) (r : Option Told) → told r ≡ next_of (drop k xs) → text_of (drop k xs) ≡ text_of (closed r) ++ text_of (drop (k + 1) xs)
text_next xs k (Some l) e = ap text_of (next-is xs k (line_in l) e) ∙ ap (λ t. t ++ text_of (drop (k + 1) xs)) (sym (append-nil (written (line_in l))))
text_next xs k None e =
    let past = none-past xs k e in
    text_end xs k past ∙ sym (text_end xs (k + 1) (omega arith))

pub text_append : (xs ys : List Line) → text_of (xs ++ ys) ≡ text_of xs ++ text_of ys
text_append [] ys = refl
text_append (x ∷ xs) ys = ap (λ t. written x ++ t) (text_append xs ys) ∙ sym (append_assoc (written x) (text_of xs) (text_of ys))

-- ---- what is left, with the closing line
pub rest-parts : (xs closing : List Line) (k : ℕ) (r : Option Told) → closed r ≡ closing → rest_text xs closing k ≡ text_of (drop k xs) ++ text_of (closed r)
rest-parts xs closing k r e = ap (λ ls. rest_text xs ls k) (sym e) ∙ text_append (drop k xs) (closed r)

pub rest-longer : (xs closing : List Line) (k : ℕ) → length (text_of (drop k xs)) ≤ length (rest_text xs closing k)
rest-longer xs closing k = omega (arith, ap length (text_append (drop k xs) closing) ∙ length-append (text_of (drop k xs)) (text_of closing))

-- ---- a text written from the place at on, part by part
pub record Sofar (whole rest : List ℕ) (at : ℕ) (before : List ℕ) (end : ℕ) (after : List ℕ) : Type 0 where
  pub part : List ℕ
  pub split : part ++ rest ≡ whole
  pub place : end ≡ at + length part
  pub is : after ≡ over_at at part before

pub none_yet : (whole : List ℕ) (at : ℕ) (p : List ℕ) → Sofar whole whole at p at p
none_yet whole at p = record { part = []; split = refl; place = sym (add-zero at); is = sym (over_at-none at p) }

pub all_done : (whole rest : List ℕ) (at : ℕ) (p : List ℕ) (e : ℕ) (q : List ℕ) → Sofar whole rest at p e q → rest ≡ [] → (e ≡ at + length whole) × (q ≡ over_at at whole p)
all_done whole rest at p e q h none =
    let same : h.part ≡ whole = sym (append-nil h.part) ∙ ap (λ r. h.part ++ r) (sym none) ∙ h.split in
    (h.place ∙ ap (λ t. at + length t) same, h.is ∙ ap (λ t. over_at at t p) same)

module _ (whole rest t rest' : List ℕ) (at : ℕ) (p : List ℕ) (e : ℕ) (q : List ℕ) (h : Sofar whole rest at p e q) (more : rest ≡ t ++ rest') (room : length whole ≤ length p - at) where
  long : length h.part + (length t + length rest') ≡ length whole
  long = ap (λ n. length h.part + n) (sym (length-append t rest')) ∙ sym (length-append h.part (t ++ rest')) ∙ ap (λ r. length (h.part ++ r)) (sym more) ∙ ap length h.split

  -- there is room for the next part
  pub room-left : length t ≤ length p - e
  room-left = omega (arith, long, h.place)

  pub one_more : (e' : ℕ) (q' : List ℕ) → e' ≡ e + length t → q' ≡ over_at e t q → Sofar whole rest' at p e' q'
  one_more e' q' n o = record {
    part = h.part ++ t;
    split = append_assoc h.part t rest' ∙ ap (λ r. h.part ++ r) (sym more) ∙ h.split;
    place = n ∙ ap (λ m. m + length t) h.place ∙ add_assoc at (length h.part) (length t) ∙ ap (λ m. at + m) (sym (length-append h.part t));
    is = o ∙ ap (λ m. over_at m t q) h.place ∙ ap (over_at (at + length h.part) t) h.is ∙ over_at-more at h.part t p;
  }

-- the lines after the first next, one after another, on a page that has room for them
module _ (lines : List Line) (next at : ℕ) (p : List ℕ) (room : length (text_of (drop next lines)) ≤ length p - at) where
  module _ (k e : ℕ) (q : List ℕ) (sofar : Sofar (text_of (drop next lines)) (text_of (drop k lines)) at p e q) where
    pub lines-more : (r : Option Told) → told r ≡ next_of (drop k lines) → (e' : ℕ) (q' : List ℕ) → WritesAt e (text_of (closed r)) q (Ok e') q' → Sofar (text_of (drop next lines)) (text_of (drop (k + 1) lines)) at p e' q'
    lines-more r is e' q' w = one_more (text_of (drop next lines)) (text_of (drop k lines)) (text_of (closed r)) (text_of (drop (k + 1) lines)) at p e q sofar (text_next lines k r is) room e' q' w.0 w.2

    pub lines-room : (r : Option Told) → told r ≡ next_of (drop k lines) → length q ≡ length p → (d : Short) (q' : List ℕ) → WritesAt e (text_of (closed r)) q (Err d) q' → ⊥
    lines-room r is long d q' w =
        omega (arith, w.1, long, room-left (text_of (drop next lines)) (text_of (drop k lines)) (text_of (closed r)) (text_of (drop (k + 1) lines)) at p e q sofar (text_next lines k r is) room)

    pub lines-all : length lines ≤ k → WritesAt at (text_of (drop next lines)) p (Ok e) q
    lines-all past =
        let end = all_done (text_of (drop next lines)) (text_of (drop k lines)) at p e q sofar (text_end lines k past) in
        (end.0, room, end.1)

-- the last part, where the whole has room
pub writes_more : (at : ℕ) (xs ys p q : List ℕ) (e : ℕ) (r : Result ℕ Short) (after : List ℕ) → length (xs ++ ys) ≤ length p - at → e ≡ at + length xs → q ≡ over_at at xs p → length q ≡ length p
    → WritesAt e ys q r after → WritesAt at (xs ++ ys) p r after
writes_more at xs ys p q e (Ok n) after room place is same w =
    (omega (arith, w.0, place, length-append xs ys), room, w.2 ∙ ap (λ m. over_at m ys q) place ∙ ap (over_at (at + length xs) ys) is ∙ over_at-more at xs ys p)
writes_more at xs ys p q e (Err d) after room place is same w = absurd (omega (arith, w.1, place, same, length-append xs ys))

-- ---- line calls
module _ {S : Type 0} (lines : List Line) (s : Stage S) where
  abbrev stage_at : ℕ → Stage S
  stage_at n = record { section = s.section; at = n; next = s.next + 1 }

  pub line-went : (l : Line) (page : List ℕ) (n : ℕ) (page' : List ℕ) → Some l ≡ next_of (drop s.next lines) → WritesAt s.at (written l) page (Ok n) page'
      → LineCall lines s page (Ok true) (stage_at n) page'
  line-went l page n page' e w =
      let h : Called (l ∷ drop (s.next + 1) lines) s page (Ok true) (stage_at n) page' = (refl, w.1, ap stage_at w.0, w.2) in
      subst (λ (ls : List Line). Called ls s page (Ok true) (stage_at n) page') (sym (next-is lines s.next l e)) h
