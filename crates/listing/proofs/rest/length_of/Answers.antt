use Rattle.std.proofs.Common.{◌≡◌, ℕ, ◌≤◌, length, Some, None, Option, MatchOption, sym, ap, ◌∙◌, append-nil, arith, rules}
use Rattle.model.specs.Texts.{written, text_of}
use Rattle.pages.specs.declared.line.Line.{Line}
use Rattle.pages.specs.Lines.{line_in}
use Rattle.listing.specs.Sections.{closed}
use Rattle.listing.proofs.rest.length_of.Goals as goal

by_cases : (r : Option Line) (n : ℕ) (P : Line → Type 0) → ((l : Line) → P l → (n ≡ length (written (line_in l))) × (n ≤ 26)) → MatchOption r (n ≡ 0) P → (n ≡ length (text_of (closed r))) × (n ≤ 26)
by_cases (Some l) n P f h = (let p = f l h in (p.0 ∙ sym (ap length (append-nil (written (line_in l)))), p.1))
by_cases None n P f h = (h, omega arith)

pub returns : goal.returns
returns c =
    let p = by_cases c.args.line c.map_or.result _ (λ l h. (search rules, search rules)) c.map_or.ensures in
    record { value = p.0; bound = p.1 }
