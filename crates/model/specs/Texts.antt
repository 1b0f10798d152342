-- The bytes of lines: a key, numbers in decimal, and byte 10 at the end.
use Rattle.std.specs.Prelude.{ℕ, List, [], ◌∷◌, ◌++◌, codes, decimal}
use Rattle.std.specs.List.{flat_map}
use Rattle.model.specs.Sessions.{State}
use Rattle.model.specs.Reports.{Line, net, «in», and, out, end, made, folded, shared, merged, mapped, done, report}

-- a line without its end
abbrev pub line_text : Line → List ℕ
line_text (net n) = codes "net=" ++ decimal n
line_text («in» n) = codes "in=" ++ decimal n
line_text (and x y) = codes "and=" ++ (decimal x ++ 44 ∷ decimal y)
line_text (out e) = codes "out=" ++ decimal e
line_text (end n) = codes "end=" ++ decimal n
line_text (made n) = codes "made=" ++ decimal n
line_text (folded n) = codes "folded=" ++ decimal n
line_text (shared n) = codes "shared=" ++ decimal n
line_text (merged n) = codes "merged=" ++ decimal n
line_text (mapped e) = codes "map=" ++ decimal e
line_text (done n) = codes "done=" ++ decimal n

-- a line with its end
abbrev pub written : Line → List ℕ
written l = line_text l ++ 10 ∷ []

-- lines one after another
abbrev pub text_of : List Line → List ℕ
text_of ls = flat_map written ls

-- the whole report of a session
abbrev pub report_text : State → List ℕ
report_text s = text_of (report s)
