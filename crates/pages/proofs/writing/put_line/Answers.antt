use Rattle.std.proofs.Common.{[], ◌∷◌, length, sym, ap, ◌∙◌, arith}
use Rattle.model.specs.Reports.{and}
use Rattle.model.specs.Texts.{line_text, written}
use Rattle.pages.specs.Lines.{numbered, line_in}
use Rattle.pages.specs.Page.{over}
use Rattle.pages.proofs.Over.{On, on_more}
use Rattle.pages.proofs.Wording.{written-long}
use Rattle.pages.proofs.writing.put_line.Goals as goal
use Rattle.pages.proofs.writing.put_line.Goals.{in-Number, in-Gate}

pub put_numbered-end-requires : goal.put_numbered-end-requires
put_numbered-end-requires c =
    let is = ap (λ l. length (written (line_in l))) c.in-Number.is in
    omega (arith, is, written-long (numbered c.in-Number.key c.in-Number.n))

pub put_gate-end-requires : goal.put_gate-end-requires
put_gate-end-requires c =
    let is = ap (λ l. length (written (line_in l))) c.in-Gate.is in
    omega (arith, is, written-long (and c.in-Gate.x c.in-Gate.y))

pub add-requires : goal.add-requires
add-requires c = elim c.match-line.branch [
  | in-Number w ↦
      let is = ap (λ l. length (written (line_in l))) w.in-Number.is in
      omega (arith, is, w.end-is, w.put_numbered-end.ensures.value, written-long (numbered w.in-Number.key w.in-Number.n))
  | in-Gate w ↦
      let is = ap (λ l. length (written (line_in l))) w.in-Gate.is in
      omega (arith, is, w.end-is, w.put_gate-end.ensures.value, written-long (and w.in-Gate.x w.in-Gate.y))
]

pub returns : goal.returns
returns c =
    let page = c.args.out.now in
    let line = c.args.line in
    let front : On (line_text (line_in line)) page c.match-line.end c.match-line.out = elim c.match-line.branch [
      | in-Number w ↦
          let e = w.put_numbered-end.ensures in
          let is = sym w.in-Number.is in
          record { long = w.end-is ∙ e.value ∙ ap (λ l. length (line_text (line_in l))) is; is = w.out-is ∙ e.after ∙ ap (λ l. over (line_text (line_in l)) page) is }
      | in-Gate w ↦
          let e = w.put_gate-end.ensures in
          let is = sym w.in-Gate.is in
          record { long = w.end-is ∙ e.value ∙ ap (λ l. length (line_text (line_in l))) is; is = w.out-is ∙ e.after ∙ ap (λ l. over (line_text (line_in l)) page) is }
    ] in
    let whole = on_more _ (10 ∷ []) page _ _ _ _ front c.add.ensures.value c.add.ensures.after in
    record { value = whole.long; after = whole.is }
