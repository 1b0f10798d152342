-- The tally's rows, one for each outcome.
use Rattle.std.specs.Prelude.{ℕ, ◌+◌, List, codes, slice_index_or, slice_set}
use Rattle.model.specs.Sessions.{was_made, was_folded, was_shared, was_merged}
use Rattle.model.specs.Sessions as model
use Rattle.sweeper.specs.declared.tally.Outcome.{Outcome}
use Rattle.sweeper.specs.declared.tally.Outcome.TheVariants.{Made, Folded, Shared, Merged}
use Rattle.sweeper.specs.declared.tally.TallyRow.{TallyRow}
use Rattle.sweeper.specs.declared.tally.Tally.{Tally}

abbrev pub row_of : Outcome → ℕ
row_of Made = 0
row_of Folded = 1
row_of Shared = 2
row_of Merged = 3

-- as it is printed
abbrev pub word_of : Outcome → List ℕ
word_of Made = codes "made"
word_of Folded = codes "folded"
word_of Shared = codes "shared"
word_of Merged = codes "merged"

abbrev pub no_row : TallyRow
no_row = record { count = 0 }

abbrev pub count_of : Tally → Outcome → ℕ
count_of t o = (slice_index_or t.rows (row_of o) no_row).count

abbrev pub raised : Tally → Outcome → Tally
raised t o = record { rows = slice_set t.rows (row_of o) (record { count = count_of t o + 1 }) }

-- the tally in the model
abbrev pub tallied : Tally → model.Tally
tallied t = record { made = count_of t Made; folded = count_of t Folded; shared = count_of t Shared; merged = count_of t Merged }

abbrev pub outcome_in : Outcome → model.Outcome
outcome_in Made = was_made
outcome_in Folded = was_folded
outcome_in Shared = was_shared
outcome_in Merged = was_merged
