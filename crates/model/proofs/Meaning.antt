-- The laws of tables and cuts.
use Rattle.std.proofs.Common.{◌≡◌, ℕ, ◌+◌, ◌*◌, ◌^◌, ◌<◌, ◌≤◌, Bool, true, false, cond, not, ◌&&◌, eqb, List, [], ◌∷◌, length, get_or, sym, refl, ap, ◌∙◌, subst, ap₂, ⊎_elim, arith, pow_pos, pow_mono}
use mathlib.Core.Bool.{not-not}
use lib.Pow.{ones_sub-lt}
use Rattle.std.proofs.lemmas.Bool.{eq-eqb, cases_Bool, both_ways, or_right}
use Rattle.model.specs.Tables.{flip_if, number, bit_at, row, put, masked, Free, Rests, complemented}
use Rattle.model.specs.Leaves.{has, place, Rising, Within, unite}
use Rattle.model.specs.Cuts.{Cut, value_of, tabulate, needed, squeeze, join, trivial, Formed, key_of, key_sign, complement_of}
use Rattle.model.specs.CutLaws.{Alike, TablesReadBack, MeaningsTabulate, StretchingKeepsMeaning, SqueezingKeepsWhatMatters}
use Rattle.model.specs.CutLaws.{JoiningIsAnd, JoinedWords, OneMeaningOneCut, TrivialCutIsItsNode, ComplementsShareAKey}
use Rattle.model.specs.Rankings.{Every}
use Rattle.model.proofs.Lists.{every_in, every-from}
use Rattle.model.proofs.Rows.{tabulate-value, row_below}
use Rattle.model.proofs.Bits.{bit_not}
use Rattle.model.proofs.Positions.{put_same}
use Rattle.model.proofs.Masked.{masked-free, free-masked, rests-loose, loose-rests, agree-rests}
use Rattle.model.proofs.Places.{place_in, place_of, has-at}
use Rattle.model.proofs.Stretching.{tabulate-below, tabulate-rests, stretch_law}
use Rattle.model.proofs.Squeezing.{needed-few, needed-rising, needed-from}
use Rattle.model.proofs.Uniting.{unite-rising, within-left, within-right, every-united}
use Rattle.model.proofs.Joining.{joined-table, not-val, not-loose}
use Rattle.model.proofs.Tight.{squeeze-value, squeezed-tight, free-idle}
use Rattle.model.proofs.Unique.{one-cut, leaf_matters, other-idle}

pub reads_back : TablesReadBack
reads_back = tabulate-value

-- a row looks at the leaves only
pub row_alike : (ls : List ℕ) (v w : ℕ → Bool) → Alike ls v w → row v ls ≡ row w ls
row_alike [] v w h = refl
row_alike (l ∷ ls) v w h =
    ap₂ (λ b n. number b + 2 * n) (h l (rw (eq-eqb l l refl))) (row_alike ls v w (λ m e. h m (or_right (eqb m l) (has m ls) e)))

pub value_alike : (c : Cut) (v w : ℕ → Bool) → Alike c.leaves v w → value_of c v ≡ value_of c w
value_alike c v w h = ap (bit_at c.table) (row_alike c.leaves v w h)

pub within_has : (old new : List ℕ) → Within old new → (l : ℕ) → has l old ≡ true → has l new ≡ true
within_has old new w l h = let e = place_in l old h in subst (λ m. has m new ≡ true) e.0 (w (place l old) e.1)

pub stretching : StretchingKeepsMeaning
stretching p c ls few within v = reads_back p ls (value_of c) few (λ u w h. value_alike c u w (λ l e. h l (within_has c.leaves ls within l e))) v

pub tabulated : MeaningsTabulate
tabulated p c f = sym (stretch_law p c.table c.table c.leaves c.leaves f.small f.few f.rests (λ q h. has-at c.leaves q h) (λ v. agree-rests p c.table (length c.leaves) v (λ q. v (place (get_or c.leaves q 0) c.leaves)) f.rests (λ q h. ap v (sym (place_of c.leaves f.rising q h)))))

pub one-meaning : OneMeaningOneCut
one-meaning = one-cut

-- ---- squeezing
pub squeeze-formed : (p : ℕ) (c : Cut) → length c.leaves ≤ p → Rising c.leaves → Rests p c.table (length c.leaves) → Formed p (squeeze p c)
unfolding squeeze
squeeze-formed p c few rising rests = record {
  small = tabulate-below p (needed p c.table 0 c.leaves) (value_of c);
  few = omega (arith, needed-few p c.table 0 c.leaves);
  rising = needed-rising p c.table 0 c.leaves rising;
  rests = tabulate-rests p (needed p c.table 0 c.leaves) (value_of c);
  tight = squeezed-tight p c.table c.leaves few rising rests;
}

squeeze-means : (p : ℕ) (c : Cut) → length c.leaves ≤ p → Rising c.leaves → Rests p c.table (length c.leaves)
    → (v : ℕ → Bool) → value_of (squeeze p c) v ≡ value_of c v
unfolding squeeze
squeeze-means p c few rising rests v = squeeze-value p c.table c.leaves few rising rests v

pub squeeze-among : (p : ℕ) (c : Cut) (l : ℕ) → has l (squeeze p c).leaves ≡ true → has l c.leaves ≡ true
unfolding squeeze
squeeze-among p c l h =
    let ls = needed p c.table 0 c.leaves in
    let e = place_in l ls h in
    let n = needed-from p c.table 0 c.leaves (place l ls) e.1 in
    subst (λ m. has m c.leaves ≡ true) (sym n.2 ∙ e.0) (has-at c.leaves n.0 n.1)

pub squeeze-fewer : (p : ℕ) (c : Cut) → length (squeeze p c).leaves ≤ length c.leaves
unfolding squeeze
squeeze-fewer p c = needed-few p c.table 0 c.leaves

pub squeezing : SqueezingKeepsWhatMatters
squeezing p c few rising rests =
    let formed = squeeze-formed p c few rising rests in
    let means = squeeze-means p c few rising rests in
    record {
      means = means;
      formed = formed;
      matter = λ l h idle. leaf_matters p (squeeze p c) formed l h (λ v b. means (put v l b) ∙ idle v b ∙ sym (means v));
      idle = λ l h v b. sym (means (put v l b)) ∙ other-idle p (squeeze p c) formed l h v b ∙ means v;
      fewer = squeeze-fewer p c;
      among = squeeze-among p c;
    }

-- ---- joining
both-signed : (a : Cut) (s : Bool) (b : Cut) (t : Bool) (v w : ℕ → Bool) → Alike (unite a.leaves b.leaves) v w
    → (flip_if s (value_of a v) && flip_if t (value_of b v)) ≡ (flip_if s (value_of a w) && flip_if t (value_of b w))
both-signed a s b t v w h =
    ap₂ (λ x y. flip_if s x && flip_if t y)
    (value_alike a v w (λ l e. h l (within_has a.leaves (unite a.leaves b.leaves) (within-left a.leaves b.leaves) l e)))
    (value_alike b v w (λ l e. h l (within_has b.leaves (unite a.leaves b.leaves) (within-right a.leaves b.leaves) l e)))

pub joining : JoiningIsAnd
unfolding join
joining p a s b t fa fb few =
    let ls = unite a.leaves b.leaves in
    let f : (ℕ → Bool) → Bool = λ v. flip_if s (value_of a v) && flip_if t (value_of b v) in
    let q = squeezing p (record { leaves = ls; table = tabulate p ls f }) few (unite-rising a.leaves b.leaves fb.rising) (tabulate-rests p ls f) in
    record {
      means = λ v. q.means v ∙ reads_back p ls f few (both-signed a s b t) v;
      formed = q.formed;
      fewer = q.fewer;
      among = q.among;
    }

-- a leaf of a joined cut is a leaf of one of its parts, well formed or not
pub every-joined : (P : ℕ → Type 0) (p : ℕ) (a : Cut) (s : Bool) (b : Cut) (t : Bool) → Every P a.leaves → Every P b.leaves → Every P (join p a s b t).leaves
unfolding join
every-joined P p a s b t ea eb =
    let ls = unite a.leaves b.leaves in
    every-from P (join p a s b t).leaves
    (λ l h. every_in P ls l (every-united P a.leaves b.leaves ea eb) (squeeze-among p (record { leaves = ls; table = tabulate p ls (λ v. flip_if s (value_of a v) && flip_if t (value_of b v)) }) l h))

pub joined_words : JoinedWords
joined_words p a s b t ls = joined-table p a b s t ls refl refl refl refl

-- ---- the trivial cut
pub trivial-cut : TrivialCutIsItsNode
trivial-cut p n pos = (formed, means)
  where
    looks : (v w : ℕ → Bool) → Alike (n ∷ []) v w → v n ≡ w n
    looks v w h = h n (rw (eq-eqb n n refl))

    means : (v : ℕ → Bool) → value_of (trivial p n) v ≡ v n
    means = reads_back p (n ∷ []) (λ v. v n) (omega arith) looks

    one : (i j : ℕ) → i < j → j < 1 → get_or (n ∷ []) i 0 < get_or (n ∷ []) j 0
    one i j h k = absurd (omega arith)

    rests : Rests p (trivial p n).table 1
    rests = tabulate-rests p (n ∷ []) (λ v. v n)

    open_leaf : masked p (trivial p n).table 0 ≡ true → ⊥
    open_leaf e =
        let idle = free-idle p (trivial p n).table (n ∷ []) (omega arith) one rests 0 (omega arith) (masked-free p (trivial p n).table 0 pos e) in
        both_ways false refl (sym (put_same (λ _. true) n false) ∙ sym (means (put (λ _. true) n false)) ∙ idle (λ _. true) false ∙ means (λ _. true))

    formed : Formed p (trivial p n)
    formed = record {
      small = tabulate-below p (n ∷ []) (λ v. v n);
      few = omega arith;
      rising = one;
      rests = rests;
      tight = λ i h. let z : i ≡ 0 = omega arith in ap (masked p (trivial p n).table) z ∙ ⊎_elim (λ e. absurd (open_leaf e)) (λ e. e) (cases_Bool (masked p (trivial p n).table 0));
    }

-- ---- keys
complement_small : (p t : ℕ) → complemented p t < 2 ^ 2 ^ p
complement_small p t = ones_sub-lt (2 ^ p) t

complement_twice : (p t : ℕ) → t < 2 ^ 2 ^ p → complemented p (complemented p t) ≡ t
complement_twice p t h = omega arith

complement_means : (p : ℕ) (c : Cut) → Formed p c → (v : ℕ → Bool) → value_of (complement_of p c) v ≡ not (value_of c v)
complement_means p c f v = bit_not (2 ^ p) c.table (row v c.leaves) f.small (omega (arith, row_below v c.leaves, pow_mono f.few))

complement_formed : (p : ℕ) (c : Cut) → Formed p c → Formed p (complement_of p c)
complement_formed p c f = record {
  small = complement_small p c.table;
  few = f.few;
  rising = f.rising;
  rests = λ i a b. loose-rests p (complemented p c.table) (length c.leaves) (not-loose p c.table (length c.leaves) f.small (rests-loose p c.table (length c.leaves) f.rests)) i a b;
  tight = λ i h. ⊎_elim (λ (e : masked p (complemented p c.table) i ≡ true). absurd (shut i h e)) (λ e. e) (cases_Bool (masked p (complemented p c.table) i));
}
  where
    shut : (i : ℕ) → i < length c.leaves → masked p (complemented p c.table) i ≡ true → ⊥
    shut i h e =
        let l : i < p = omega (arith, f.few) in
        let free = masked-free p (complemented p c.table) i l e in
        let back : Free p c.table i = λ v b. sym (not-not _) ∙ ap not (sym (not-val p c.table f.small (put v i b)) ∙ free v b ∙ not-val p c.table f.small v) ∙ not-not _ in
        both_ways (masked p c.table i) (f.tight i h) (free-masked p c.table i l back)

sign-flips : (p : ℕ) (c : Cut) → Formed p c → key_sign (complement_of p c) ≡ not (key_sign c)
sign-flips p c f = bit_not (2 ^ p) c.table 0 f.small (pow_pos p)

pub keys_give_back : (p : ℕ) (c : Cut) → c.table < 2 ^ 2 ^ p → cond (key_sign c) (complement_of p (key_of p c)) (key_of p c) ≡ c
keys_give_back p c h = go (key_sign c)
  where
    go : (s : Bool) → cond s (complement_of p (record { leaves = c.leaves; table = cond s (complemented p c.table) c.table })) (record { leaves = c.leaves; table = cond s (complemented p c.table) c.table }) ≡ c
    go true = λ i. record { leaves = c.leaves; table = complement_twice p c.table h i }
    go false = refl

pub complements : ComplementsShareAKey
complements p c f = record {
  formed = complement_formed p c f;
  means = complement_means p c f;
  one_key = λ i. record { leaves = c.leaves; table = one i };
  unlike = sign-flips p c f;
  back = keys_give_back p c f.small;
}
  where
    go : (s : Bool) → cond (not s) (complemented p (complemented p c.table)) (complemented p c.table) ≡ cond s (complemented p c.table) c.table
    go true = refl
    go false = complement_twice p c.table f.small

    one : (key_of p (complement_of p c)).table ≡ (key_of p c).table
    one = ap (λ s. cond s (complemented p (complemented p c.table)) (complemented p c.table)) (sign-flips p c f) ∙ go (key_sign c)
