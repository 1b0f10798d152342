use Rattle.std.proofs.Common.{◌≡◌, ◌+◌, ◌/◌, ◌%◌, ◌<◌, [], length, decimal, sym, refl, arith, rules}
use Rattle.std.proofs.lemmas.Fmt.{decimal_digit, decimal_step}
use Rattle.pages.proofs.Over.{width_one, width_more, width_few, over-push}
use Rattle.pages.proofs.parts.+put_number.Goals as goal
use Rattle.pages.proofs.parts.+put_number.Goals.{then-n-lt10, else-n-lt10}

pub put_number-at-requires : goal.put_number-at-requires
put_number-at-requires t c = (search rules, omega (arith, width_more c.args.n (omega arith) (omega arith)))

pub bounds-out-at : goal.bounds-out-at
bounds-out-at t c = elim c.if-n-lt10.branch [ then-n-lt10 w ↦ omega (arith, width_one c.args.n (omega arith)) | else-n-lt10 w ↦ omega (arith, width_more c.args.n (omega arith) (omega arith)) ]

pub overflow_add-result : goal.overflow_add-result
overflow_add-result t c = elim c.if-n-lt10.branch [ then-n-lt10 w ↦ omega arith | else-n-lt10 w ↦ omega (arith, width_few (c.args.n / 10) (omega arith)) ]

pub returns : goal.returns
returns t c =
    elim c.if-n-lt10.branch [
      | then-n-lt10 w ↦
          let one : c.args.n % 10 ≡ c.args.n = omega arith in
          let lt : 0 < length c.args.out.now = omega (arith, width_one c.args.n (omega arith)) in
          record {
            value = omega (arith, width_one c.args.n (omega arith));
            after = simp (w.out-is, w.at-is, one, decimal_digit c.args.n w.if-n-lt10.true) (over-push [] c.args.out.now (48 + c.args.n) 0 refl lt);
          }
      | else-n-lt10 w ↦
          let more = width_more c.args.n (omega arith) (omega arith) in
          let lt : w.put_number-at.result < length c.args.out.now = omega (arith, more, w.put_number-at.ensures.value) in
          record {
            value = omega (arith, more);
            after = simp (w.out-is, w.at-is, w.put_number-at.ensures.after, decimal_step c.args.n w.if-n-lt10.false (omega arith)) (over-push (decimal (c.args.n / 10)) c.args.out.now (48 + c.args.n % 10) _ (sym w.put_number-at.ensures.value) lt);
          }
    ]
