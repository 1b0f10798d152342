-- The parts of a line's text.
use Rattle.std.proofs.Common.{◌≡◌, ℕ, ◌+◌, ◌≤◌, [], ◌∷◌, ◌++◌, length, codes, decimal, refl, ap, ◌∙◌, append_assoc, arith, lit≤, length-append}
use Rattle.model.specs.Reports.{and}
use Rattle.model.specs.Reports as model
use Rattle.model.specs.Texts.{line_text, written}
use Rattle.pages.specs.declared.line.Key.{Key}
use Rattle.pages.specs.declared.line.Key.TheVariants.{Net, In, Out, End, Made, Folded, Shared, Merged, Map, Done}
use Rattle.pages.specs.Lines.{numbered, key_text}

pub key-few : (k : Key) → length (key_text k) ≤ 7
key-few Net = lit≤ tt
key-few In = lit≤ tt
key-few Out = lit≤ tt
key-few End = lit≤ tt
key-few Made = lit≤ tt
key-few Folded = lit≤ tt
key-few Shared = lit≤ tt
key-few Merged = lit≤ tt
key-few Map = lit≤ tt
key-few Done = lit≤ tt

pub numbered_text : (k : Key) (n : ℕ) → line_text (numbered k n) ≡ key_text k ++ decimal n
numbered_text Net n = refl
numbered_text In n = refl
numbered_text Out n = refl
numbered_text End n = refl
numbered_text Made n = refl
numbered_text Folded n = refl
numbered_text Shared n = refl
numbered_text Merged n = refl
numbered_text Map n = refl
numbered_text Done n = refl

pub numbered-long : (k : Key) (n : ℕ) → length (line_text (numbered k n)) ≡ length (key_text k) + length (decimal n)
numbered-long k n = ap length (numbered_text k n) ∙ length-append (key_text k) (decimal n)

pub gate_text : (x y : ℕ) → (codes "and=" ++ decimal x) ++ (44 ∷ []) ++ decimal y ≡ line_text (and x y)
gate_text x y = simp append_assoc

pub gate-long : (x y : ℕ) → length (line_text (and x y)) ≡ 5 + length (decimal x) + length (decimal y)
gate-long x y = simp length-append (omega arith)

pub written-long : (l : model.Line) → length (written l) ≡ length (line_text l) + 1
written-long l = length-append (line_text l) (10 ∷ [])
