-- What a line is in the model.
use Rattle.std.specs.Prelude.{ℕ, List, codes}
use Rattle.model.specs.Reports.{net, «in», and, out, end, made, folded, shared, merged, mapped, done}
use Rattle.model.specs.Reports as model
use Rattle.pages.specs.declared.line.Key.{Key}
use Rattle.pages.specs.declared.line.Key.TheVariants.{Net, In, Out, End, Made, Folded, Shared, Merged, Map, Done}
use Rattle.pages.specs.declared.line.Line.{Line}
use Rattle.pages.specs.declared.line.Line.TheVariants.{Number, Gate}

abbrev pub numbered : Key → ℕ → model.Line
numbered Net n = net n
numbered In n = «in» n
numbered Out n = out n
numbered End n = end n
numbered Made n = made n
numbered Folded n = folded n
numbered Shared n = shared n
numbered Merged n = merged n
numbered Map n = mapped n
numbered Done n = done n

abbrev pub line_in : Line → model.Line
line_in (Number key n) = numbered key n
line_in (Gate x y) = and x y

abbrev pub key_text : Key → List ℕ
key_text Net = codes "net="
key_text In = codes "in="
key_text Out = codes "out="
key_text End = codes "end="
key_text Made = codes "made="
key_text Folded = codes "folded="
key_text Shared = codes "shared="
key_text Merged = codes "merged="
key_text Map = codes "map="
key_text Done = codes "done="
