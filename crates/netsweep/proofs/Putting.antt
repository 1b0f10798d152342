-- Opening and reading, put together.
use Rattle.std.proofs.Common.{◌≡◌, ℕ, true, List, [], ◌++◌, length, subst}
use Rattle.model.specs.Rankings.{by_height}
use Rattle.model.specs.Sessions.{State, Tables, positions, lean, opened}
use Rattle.model.specs.Runs.{Run, opening}
use Rattle.model.proofs.Sound.{sessions-fit}
use Rattle.lines.specs.Net.{net_lines}
use Rattle.reading.specs.Net.{Follows}
use Rattle.reading.specs.Calls.{RunsOn}
use Rattle.netsweep.specs.declared.Refusal.{Refusal}
use Rattle.netsweep.specs.declared.Refusal.TheVariants.{Page}
use Rattle.netsweep.specs.Sweeping.{tables, fresh, Swept}

pub opened-run : {t : Tables} {s : State} → Run positions lean t [] s → s ≡ opened t
opened-run (opening e) = e

-- the refusal of a page that is shorter than so much
abbrev pub wanting : ℕ → Refusal
wanting n = Page (record { wanted = n })

-- the calls of a text that a new session took
pub swept : (s : State) (text : List ℕ) (u : State) → Run positions lean tables [] s → Follows by_height s text u → RunsOn by_height true s → Swept text u
swept s text u run f runs =
    let e : s ≡ fresh = opened-run run in
    let k = runs.continues (net_lines (length s.source) f.graph) u f.calls in
    let w = k.whole lean tables [] sessions-fit run in
    record { follows = subst (λ x. Follows by_height x text u) e f; events = k.events ++ []; run = w.0; sound = w.1 }
