use Rattle.std.proofs.Common.{◌+◌, ◌-◌, ◌*◌, ◌^◌, ◌<◌, arith, rules}
use Rattle.sweeper.specs.Tables.{image}
use Rattle.sweeper.proofs.Telling.{no_cuts, told_row}
use Rattle.sweeper.proofs.Looking.{rows_of}
use Rattle.sweeper.proofs.session.Session.kept_cuts.Goals as goal

pub returns-in_default : goal.returns-in_default
returns-in_default c = no_cuts (image c.args.self.now.core) c.args.self.now.sound c.args.node c.in_default.ensures

pub overflow_mul-first : goal.overflow_mul-first
overflow_mul-first c =
    let i = image c.args.self.now.core in
    let s = c.args.self.now.sound in
    let r = told_row i s c.args.node c.in-Some.row c.in-Some.ensures in
    let fits : 4 * (c.args.node - 1) < 2 ^ 64 = omega (arith, r.1, s.few, s.room, s.fewer) in
    search rules

pub overflow_add-result : goal.overflow_add-result
overflow_add-result c =
    let i = image c.args.self.now.core in
    let s = c.args.self.now.sound in
    let r = told_row i s c.args.node c.in-Some.row c.in-Some.ensures in
    let few = s.kept (c.args.node - 1) (omega (arith, r.0, r.1)) in
    let fits : 4 * (c.args.node - 1) + c.in-Some.row.kept < 2 ^ 64 = omega (arith, r.1, r.2, few, s.few, s.room, s.fewer) in
    search rules

pub slice_bounds-result-end-2 : goal.slice_bounds-result-end-2
slice_bounds-result-end-2 c =
    let i = image c.args.self.now.core in
    let s = c.args.self.now.sound in
    let r = told_row i s c.args.node c.in-Some.row c.in-Some.ensures in
    let few = s.kept (c.args.node - 1) (omega (arith, r.0, r.1)) in
    omega (arith, r.0, r.1, r.2, few, s.cut_rows, s.room, s.fewer)

pub offset_bounds-self-first : goal.offset_bounds-self-first
offset_bounds-self-first c =
    let i = image c.args.self.now.core in
    let s = c.args.self.now.sound in
    let r = told_row i s c.args.node c.in-Some.row c.in-Some.ensures in
    let fits : 4 * (c.args.node - 1) * 12 < 2 ^ 64 = omega (arith, r.1, s.few, s.room, s.fewer) in
    search rules

pub returns : goal.returns
returns c =
    let i = image c.args.self.now.core in
    let s = c.args.self.now.sound in
    let r = told_row i s c.args.node c.in-Some.row c.in-Some.ensures in
    rows_of i s c.args.node _ r.0 r.1 (omega (arith, r.2))
