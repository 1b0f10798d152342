use Rattle.std.proofs.Common.{◌≡◌, ◌+◌, ◌<◌, None, Some, Ok, Err, sym, ap, ◌∙◌, subst, arith}
use Rattle.std.proofs.lemmas.Result.{err_from_is_err_and}
use Rattle.lines.specs.Position.{position_of, next_line, Moves}
use Rattle.lines.proofs.Moving.{is_past, answered-ok, answered-err, read_from, read_next, read_from-next}
use Rattle.netlist.specs.Net.{Told}
use Rattle.netlist.specs.declared.reader.Outline.{Outline}
use Rattle.netlist.specs.Reading.{nodes_of, counter, answer_of}
use Rattle.netlist.proofs.Counting.{counted-more, text_told, text_read, text_stopped}
use Rattle.netlist.proofs.reader.read_text.Goals as goal

pub returns-in_err-line : goal.returns-in_err-line
returns-in_err-line c =
    let text = c.args.text.now in
    let s = position_of c.loop-line.reader in
    let o = c.loop-line.outline in
    let e = c.in_err-line.field-0.0 in
    let p = err_from_is_err_and c.from_residual.result c.from_residual.ensures.1 in
    let q = answered-err c.line.result c.next_line.result c.at_line.result e c.at_line.ensures c.in_err-line.was in
    let next = subst (λ n. next_line n s ≡ Err e.fault) c.nodes.ensures (subst (λ x. Moves c.nodes.result s x (position_of c.next_line.new.self)) q.0 c.next_line.ensures).0 in
    let stop = ap answer_of (read_from-next counter s o ∙ ap (read_next counter s o) next) in
    let is = p.1 ∙ ap Err (p.2 ∙ q.1 ∙ ap (λ k. record { line = k; fault = e.fault }) c.line.ensures) ∙ sym stop ∙ c.loop-line.invariant.0 in
    record { reads = is; told = subst (Told text) (sym is) (text_told text); accepts = λ u h. is ∙ text_read text u h; refuses = λ f h. is ∙ text_stopped text f h }

pub loop-line-smaller : goal.loop-line-smaller
loop-line-smaller c =
    let s = position_of c.loop-line.reader in
    let t = position_of c.next_line.new.self in
    let n = c.nodes.result in
    let went = answered-ok c.line.result c.next_line.result c.at_line.result c.in_ok-line.field-0 c.at_line.ensures c.in_ok-line.was in
    (is_past n s c.in-Some.line t (subst (λ x. Moves n s x t) (went ∙ ap Ok c.in-Some.is) c.next_line.ensures)).shorter

pub loop-line-preserved : goal.loop-line-preserved
loop-line-preserved c =
    let s = position_of c.loop-line.reader in
    let t = position_of c.next_line.new.self in
    let o = c.loop-line.outline in
    let l = c.in-Some.line in
    let went = answered-ok c.line.result c.next_line.result c.at_line.result c.in_ok-line.field-0 c.at_line.ensures c.in_ok-line.was in
    let next : next_line (nodes_of o) s ≡ Ok (Some (l, t)) = subst (λ n. next_line n s ≡ Ok (Some (l, t))) c.nodes.ensures (subst (λ x. Moves c.nodes.result s x t) (went ∙ ap Ok c.in-Some.is) c.next_line.ensures) in
    let on = ap answer_of (read_from-next counter s o ∙ ap (read_next counter s o) next) in (
      ap (λ u. answer_of (read_from counter t u)) c.count.ensures ∙ sym on ∙ c.loop-line.invariant.0,
      subst (λ (u : Outline). nodes_of u + u.outs < t.line) (sym c.count.ensures) (let past = is_past (nodes_of o) s l t next in omega (arith, counted-more o l, past.line, c.loop-line.invariant.1)),
    )

pub returns : goal.returns
returns c =
    let text = c.args.text.now in
    let s = position_of c.loop-line.reader in
    let t = position_of c.next_line.new.self in
    let o = c.loop-line.outline in
    let went = answered-ok c.line.result c.next_line.result c.at_line.result c.in_ok-line.field-0 c.at_line.ensures c.in_ok-line.was in
    let next = subst (λ n. next_line n s ≡ Ok None) c.nodes.ensures (subst (λ x. Moves c.nodes.result s x t) (went ∙ ap Ok c.in_default.is) c.next_line.ensures).0 in
    let done = ap answer_of (read_from-next counter s o ∙ ap (read_next counter s o) next) in
    let is = sym done ∙ c.loop-line.invariant.0 in
    record { reads = is; told = subst (Told text) (sym is) (text_told text); accepts = λ u h. is ∙ text_read text u h; refuses = λ f h. is ∙ text_stopped text f h }
