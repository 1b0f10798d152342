-- a text written over a page, part by part
use Rattle.std.proofs.Common.{◌≡◌, ℕ, zero, suc, ◌+◌, ◌-◌, ◌*◌, ◌/◌, ◌^◌, max, ◌<◌, ◌≤◌, List, [], ◌∷◌, ◌++◌, length, take, drop, set, decimal, sym, ap, ◌∙◌, ⊎_elim, append_assoc, append-nil, add-one, arith, length-append, length-drop, take-append-drop, drop_of_length-le, length-take-le, drop-cons, drop-drop, take_at, drop_at}
use Rattle.std.proofs.Math.Nat.{pow-succ'}
use lib.Seq.{set_at}
use Rattle.std.proofs.lemmas.Fmt.{decimal_digit, decimal_step, length-decimal-le}
use borrow.Rule.Slice.PartMut.{put_mid}
use Rattle.std.proofs.lemmas.Bool.{cases_lt}
use Rattle.std.proofs.Math.Seq.{drop-nil}
use Rattle.std.proofs.lemmas.List.{take_rest, take_all, drop_all}
use Rattle.pages.specs.Page.{over, over_at}

pub width_one : (n : ℕ) → n < 10 → length (decimal n) ≡ 1
width_one n h = ap length (decimal_digit n h)

pub width_more : (n : ℕ) → 10 ≤ n → n < 2 ^ 32 → length (decimal n) ≡ length (decimal (n / 10)) + 1
width_more n h small = ap length (decimal_step n h (omega arith)) ∙ length-append (decimal (n / 10)) _

-- as many digits as powers of ten are at most n
pub width_of : (k n : ℕ) → 10 ^ k ≤ n → n < 10 * 10 ^ k → n < 2 ^ 32 → length (decimal n) ≡ k + 1
width_of zero n low high small = width_one n (omega arith)
width_of (suc k) n low high small =
    let ten : 10 ^ suc k ≡ 10 * 10 ^ k = pow-succ' 10 k in
    let less = width_of k (n / 10) (omega (arith, ten)) (omega (arith, ten)) (omega arith) in
    omega (arith, width_more n (omega (arith, ten)) small, less)

-- the number 0 has a digit too
pub width_least : (k n m : ℕ) → m ≡ max n 1 → 10 ^ k ≤ m → m < 10 * 10 ^ k → m < 2 ^ 32 → k + 1 ≡ length (decimal n)
width_least k n m e low high small =
    let digits = width_of k m low high small in
    ⊎_elim
    (λ (h : n < 10). omega (arith, width_one n h, width_one m (omega arith)))
    (λ (h : 10 ≤ n). (let same : m ≡ n = omega arith in sym digits ∙ ap (λ i. length (decimal i)) same))
    (cases_lt n 10)

pub width_few : (n : ℕ) → n < 2 ^ 32 → length (decimal n) ≤ 10
width_few n small = length-decimal-le 10 n (omega arith) (omega arith) (omega arith)

-- one byte more
pub over-push : (xs page : List ℕ) (v k : ℕ) → length xs ≡ k → k < length page → set (over xs page) k v ≡ over (xs ++ v ∷ []) page
over-push xs page v k e h =
    let lt : length xs < length page = omega arith in
    ap (λ r. set (xs ++ r) k v) (drop-cons page (length xs) 0 lt)
    ∙ set_at xs _ _ v k e
    ∙ sym (append_assoc xs (v ∷ []) _)
    ∙ ap (λ m. (xs ++ v ∷ []) ++ drop m page) (sym (length-append xs (v ∷ []) ∙ add-one _))

-- one part more, written to what is left of the page
pub over-more : (xs ys page : List ℕ) (k : ℕ) → length xs ≡ k → take k (over xs page) ++ over ys (drop k (over xs page)) ≡ over (xs ++ ys) page
over-more xs ys page k e =
    ap (λ l. l ++ over ys (drop k (over xs page))) (take_at xs _ k e)
    ∙ ap (λ l. xs ++ over ys l) (drop_at xs _ k e)
    ∙ ap (λ l. xs ++ (ys ++ l)) (drop-drop (length ys) (length xs) page)
    ∙ sym (append_assoc xs ys _)
    ∙ ap (λ m. (xs ++ ys) ++ drop m page) (sym (length-append xs ys))

-- the text stands over the front of page, up to the place at
pub record On (text page : List ℕ) (at : ℕ) (now' : List ℕ) : Type 0 where
  pub long : at ≡ length text
  pub is : now' ≡ over text page

pub on_more : (xs ys page p q : List ℕ) (k m : ℕ) → On xs page k p → m ≡ k + length ys → q ≡ over_at k ys p → On (xs ++ ys) page m q
on_more xs ys page p q k m h e f = record {
  long = e ∙ ap (λ n. n + length ys) h.long ∙ sym (length-append xs ys);
  is = f ∙ ap (over_at k ys) h.is ∙ over-more xs ys page k (sym h.long);
}

-- what the page holds after a text was written over its lent tail
pub tail-over : (at : ℕ) (p q ys : List ℕ) → q ≡ over ys (take (length p - at) (drop at p)) → put_mid at (length p - at) p q ≡ over_at at ys p
tail-over at p q ys e =
    let none : drop (length p - at) (drop at p) ≡ [] = (let h : length (drop at p) ≤ length p - at = omega (arith, length-drop at p) in drop_of_length-le (drop at p) h) in
    ap (λ l. take at p ++ (q ++ l)) none ∙ ap (λ l. take at p ++ l) (append-nil q ∙ e ∙ ap (over ys) (take_rest p at))

-- and after nothing was written there
pub tail-same : (at : ℕ) (p q : List ℕ) → q ≡ take (length p - at) (drop at p) → put_mid at (length p - at) p q ≡ p
tail-same at p q e =
    let none : drop (length p - at) (drop at p) ≡ [] = (let h : length (drop at p) ≤ length p - at = omega (arith, length-drop at p) in drop_of_length-le (drop at p) h) in
    ap (λ l. take at p ++ (q ++ l)) none ∙ ap (λ l. take at p ++ l) (append-nil q ∙ e ∙ take_rest p at) ∙ take-append-drop at p

-- the length of the lent tail
pub tail-long : (at : ℕ) (p : List ℕ) → length (take (length p - at) (drop at p)) ≡ length p - at
tail-long at p = ap length (take_rest p at) ∙ length-drop at p

-- a text written past the end of a page stands after all of it
past_end : (at : ℕ) (xs p : List ℕ) → length p ≤ at → over_at at xs p ≡ p ++ xs
past_end at xs p h =
    ap (λ l. l ++ over xs (drop at p)) (take_all at p h)
    ∙ ap (λ l. p ++ (xs ++ drop (length xs) l)) (drop_all at p h)
    ∙ ap (λ l. p ++ (xs ++ l)) (drop-nil (length xs))
    ∙ ap (λ l. p ++ l) (append-nil xs)

-- one text more, right after another, also past the end of the page
module _ (at : ℕ) (d ys p : List ℕ) where
  inside : at ≤ length p → over_at (at + length d) ys (over_at at d p) ≡ over_at at (d ++ ys) p
  inside h =
      let long : length (take at p ++ d) ≡ at + length d = length-append (take at p) d ∙ ap (λ n. n + length d) (length-take-le at p h) in
      let r : List ℕ = drop (length d) (drop at p) in
      ap (over_at (at + length d) ys) (sym (append_assoc (take at p) d r))
      ∙ ap (λ l. l ++ over ys (drop (at + length d) ((take at p ++ d) ++ r))) (take_at (take at p ++ d) r (at + length d) long)
      ∙ ap (λ l. (take at p ++ d) ++ over ys l) (drop_at (take at p ++ d) r (at + length d) long)
      ∙ ap (λ l. (take at p ++ d) ++ (ys ++ l)) (drop-drop (length ys) (length d) (drop at p))
      ∙ append_assoc (take at p) d _
      ∙ ap (λ l. take at p ++ l) (sym (append_assoc d ys _))
      ∙ ap (λ m. take at p ++ ((d ++ ys) ++ drop m (drop at p))) (sym (length-append d ys))

  past : length p ≤ at → over_at (at + length d) ys (over_at at d p) ≡ over_at at (d ++ ys) p
  past h =
      let ends : (xs : List ℕ) → over_at at xs p ≡ p ++ xs = (λ xs. past_end at xs p h) in
      ap (over_at (at + length d) ys) (ends d)
      ∙ past_end (at + length d) ys (p ++ d) (omega (arith, length-append p d))
      ∙ append_assoc p d ys ∙ sym (ends (d ++ ys))

  pub over_at-more : over_at (at + length d) ys (over_at at d p) ≡ over_at at (d ++ ys) p
  over_at-more = ⊎_elim (λ (h : at < length p). inside (omega arith)) (λ (h : length p ≤ at). past h) (cases_lt at (length p))

pub over_at-none : (at : ℕ) (p : List ℕ) → over_at at [] p ≡ p
over_at-none at p = take-append-drop at p
