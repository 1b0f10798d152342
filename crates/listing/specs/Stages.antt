-- What the calls on a stage do.
use Rattle.std.specs.Prelude.{◌≡◌, ℕ, ◌+◌, ◌-◌, ◌<◌, ◌≤◌, Bool, true, false, List, [], ◌∷◌, length, drop, Ok, Err, Result, MatchResult}
use Rattle.model.specs.Reports.{Line, net}
use Rattle.model.specs.Texts.{written}
use Rattle.pages.specs.declared.short.Short.{Short}
use Rattle.pages.specs.Page.{over, over_at}
use Rattle.listing.specs.Sections.{rest_text}
use Rattle.listing.specs.declared.stage.Stage.{Stage}
use Rattle.listing.specs.declared.stage.Declined.{Declined}

-- the stage with one more line written
abbrev pub onward : {S : Type 0} → Stage S → List ℕ → Stage S
onward s text = record { section = s.section; at = s.at + length text; next = s.next + 1 }

-- a line call by the lines that are left: the first of them is written, or the page is too short and nothing changes; or none is left and nothing changes
abbrev pub Called : {S : Type 0} → List Line → Stage S → List ℕ → Result Bool Short → Stage S → List ℕ → Type 0
Called [] s page r s' page' = (r ≡ Ok false) × (s' ≡ s) × (page' ≡ page)
Called (l ∷ ls) s page r s' page' =
    MatchResult r
    (λ more. (more ≡ true) × (length (written l) ≤ length page - s.at) × (s' ≡ onward s (written l)) × (page' ≡ over_at s.at (written l) page))
    (λ e. (e.wanted ≡ length (written l)) × (length page - s.at < length (written l)) × (s' ≡ s) × (page' ≡ page))

abbrev pub LineCall : {S : Type 0} → List Line → Stage S → List ℕ → Result Bool Short → Stage S → List ℕ → Type 0
LineCall lines s page r s' page' = Called (drop s.next lines) s page r s' page'

-- the same where the stage is moved through the call
abbrev pub MovedCall : {S : Type 0} → List Line → Stage S → List ℕ → Result (Stage S × Bool) (Declined (Stage S)) → List ℕ → Type 0
MovedCall lines s page r page' = MatchResult r (λ p. LineCall lines s page (Ok p.1) p.0 page') (λ d. LineCall lines s page (Err d.short) d.stage page')

-- a stage at a place, with no line of its kind written
abbrev pub Starts : {S : Type 0} → Stage S → ℕ → Type 0
Starts s n = (s.at ≡ n) × (s.next ≡ 0)

-- a listing begins with the line of the version
abbrev pub Begins : {S : Type 0} → List ℕ → Result (Stage S) Short → List ℕ → Type 0
Begins page r page' =
    MatchResult r
    (λ s. Starts s (length (written (net 1))) × (length (written (net 1)) ≤ length page) × (page' ≡ over (written (net 1)) page))
    (λ e. (e.wanted ≡ length (written (net 1))) × (length page < length (written (net 1))) × (page' ≡ page))

-- going on: what is left of the lines, and the closing line, all or none; then the result is at the place after them
abbrev pub GoesOn : {S T : Type 0} → List Line → List Line → (T → ℕ → Type 0) → Stage S → List ℕ → Result T (Declined (Stage S)) → List ℕ → Type 0
GoesOn lines closing IsAt s page r page' =
    let text = rest_text lines closing s.next in
    MatchResult r
    (λ t. IsAt t (s.at + length text) × (length text ≤ length page - s.at) × (page' ≡ over_at s.at text page))
    (λ d. (d.short.wanted ≡ length text) × (length page - s.at < length text) × (d.stage ≡ s) × (page' ≡ page))

-- the text is written, and a stage starts after it
abbrev pub StartsAfter : {S : Type 0} → List ℕ → List ℕ → Result (Stage S) Short → List ℕ → Type 0
StartsAfter text page r page' = MatchResult r (λ s. Starts s (length text) × (page' ≡ over text page)) (λ e. ⊥)
