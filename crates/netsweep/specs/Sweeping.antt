-- What is answered for a text, and what then stands on the page.
use Rattle.std.specs.Prelude.{◌≡◌, ℕ, ◌<◌, ◌≤◌, List, length, Result, MatchResult}
use Rattle.model.specs.Rankings.{by_height}
use Rattle.model.specs.Sessions.{State, Tables, positions, lean, opened}
use Rattle.model.specs.Texts.{report_text}
use Rattle.model.specs.Runs.{Event, Run}
use Rattle.model.specs.RunLaws.{Sound}
use Rattle.lines.specs.declared.faults.TextFault.{TextFault}
use Rattle.reading.specs.declared.faults.ReadFault.{ReadFault}
use Rattle.reading.specs.Faults.{stop_in}
use Rattle.reading.specs.Net.{Follows, Refused}
use Rattle.pages.specs.Page.{over}
use Rattle.netsweep.specs.declared.Refusal.{Refusal}
use Rattle.netsweep.specs.declared.Refusal.TheVariants.{TooLong, Text, Page}

-- the tables of the session: capacity 255 and 4,096 output rows
abbrev pub tables : Tables
tables = record { source = 255; reduced = 255; cuts = 1020; pairs = 512; keys = 2048; outputs = 4096 }

-- the session before the first line
abbrev pub fresh : State
fresh = opened tables

abbrev pub longest : ℕ
longest = 16384

-- the text is that of a net whose calls, ranked by height, are accepted one after another and lead to the state;
-- exactly they form a run, and the run keeps all laws
pub record Swept (text : List ℕ) (u : State) : Type 0 where
  pub follows : Follows by_height fresh text u
  pub events : List (Event positions)
  pub run : Run positions lean tables events u
  pub sound : Sound positions lean tables events u

-- the report of the state stands at the front of the page, and the rest of the page is as it was
pub record Reported (text before : List ℕ) (n : ℕ) (after : List ℕ) : Type 0 where
  pub state : State
  pub swept : Swept text state
  pub count : n ≡ length (report_text state)
  pub fits : length (report_text state) ≤ length before
  pub page : after ≡ over (report_text state) before

-- why a text of a length that is taken has no report: its first line that is refused, or a page that is shorter than the report
pub data Declines (text page : List ℕ) (e : Refusal) : Type 0 where
  stopped : (f : TextFault ReadFault) (u : State) → Refused by_height fresh text (stop_in f) u → e ≡ Text f → Declines text page e
  too_wide : (u : State) → Swept text u → length page < length (report_text u) → e ≡ Page (record { wanted = length (report_text u) }) → Declines text page e

abbrev pub Sweeps : List ℕ → List ℕ → Result ℕ Refusal → List ℕ → Type 0
Sweeps text before r after = MatchResult r (λ n. Reported text before n after) (λ e. Declines text before e × (after ≡ before))

-- longer texts are refused, whatever is in them
abbrev pub Refuses : List ℕ → Result ℕ Refusal → List ℕ → Type 0
Refuses before r after = MatchResult r (λ n. ⊥) (λ e. (e ≡ TooLong) × (after ≡ before))

pub record Answers (text before : List ℕ) (r : Result ℕ Refusal) (after : List ℕ) : Type 0 where
  pub taken : length text ≤ longest → Sweeps text before r after
  pub long : longest < length text → Refuses before r after
