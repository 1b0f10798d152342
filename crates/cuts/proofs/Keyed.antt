-- A key with its sign gives one cut back.
use Rattle.std.proofs.Common.{◌≡◌, ℕ, ◌^◌, ◌<◌, Bool, true, false, not, List, ◌∷◌, sym, ap, ◌∙◌, ap₂, pow_pos}
use Rattle.model.specs.Tables.{bit_at}
use Rattle.model.specs.Cuts.{Cut, key_sign}
use Rattle.model.proofs.Bits.{bit_not}
use Rattle.model.proofs.Wellformed.{inverted, inverted_twice}
use Rattle.cuts.specs.Keys.{cut_of, Restores}
use Rattle.cuts.specs.Meaning.{meaning}
use Rattle.cuts.specs.declared.key.CutKey.{CutKey}

sign-back : (s : Bool) (t : ℕ) → t < 2 ^ 2 ^ 4 → bit_at t 0 ≡ false → bit_at (inverted 4 s t) 0 ≡ s
sign-back true t h e = bit_not (2 ^ 4) t 0 h (pow_pos 4) ∙ ap not e
sign-back false t h e = e

heads : (a b : ℕ) (xs ys : List ℕ) → (◌≡◌ {A = List ℕ} (a ∷ xs) (b ∷ ys)) → (a ≡ b) × (xs ≡ ys)
heads a b xs ys e = (cc, cc)

pub restored : (k : CutKey) (s : Bool) → k.cut.table < 2 ^ 2 ^ 4 → Restores k s (cut_of k s)
restored k s h =
    let t = k.cut.table in
    let b = sign-back s t h k.plain in
    record {
      key = ap {A = ℕ} {B = List ℕ} (λ n. n ∷ (meaning k.cut).leaves) (ap (λ z. inverted 4 z (inverted 4 s t)) b ∙ inverted_twice 4 s t h);
      sign = b;
      only = λ c l e f.
          let g = heads (inverted 4 (key_sign c) c.table) t c.leaves (meaning k.cut).leaves e in
          ap₂ {A = List ℕ} {B = ℕ} {C = Cut} (λ ls n. record { leaves = ls; table = n }) (sym g.1)
          (ap (inverted 4 s) (sym g.0 ∙ ap (λ z. inverted 4 z c.table) f) ∙ inverted_twice 4 s c.table l);
    }
