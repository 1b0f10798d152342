-- Which calls a program takes.
use Rattle.std.specs.Prelude.{◌≡◌, Bool, true, false}
use Rattle.scripts.specs.declared.calls.Walk.{Walk as Walks}
use Rattle.scripts.specs.declared.calls.Call.{Call}
use Rattle.scripts.specs.declared.calls.Call.TheVariants.{Open, Input, Gate, Output, Map, Tally, Node, List, Walk, Cone}

-- calls that need nothing but the session: no page, no result places and no marks
abbrev pub is_plain : Call → Bool
is_plain (Open lengths) = true
is_plain Input = true
is_plain (Gate by a b) = true
is_plain (Output e) = true
is_plain (Map e) = true
is_plain Tally = true
is_plain (Node n) = true
is_plain List = false
is_plain (Walk w) = false
is_plain (Cone e marks cap) = false

-- no walk is taken, whatever it asks
abbrev pub TakesNoWalk : (Call → Bool) → Type 0
TakesNoWalk takes = (w : Walks) → takes (Walk w) ≡ false
