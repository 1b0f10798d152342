use Rattle.std.proofs.Common.{[], ◌∷◌, length, codes, decimal, refl, ap, ◌∙◌, arith}
use Rattle.pages.specs.Page.{over}
use Rattle.pages.proofs.Over.{on_more}
use Rattle.pages.proofs.Wording.{gate_text, gate-long}
use Rattle.pages.proofs.writing.put_gate.Goals as goal

pub add-comma-requires : goal.add-comma-requires
add-comma-requires c = omega (arith, gate-long c.args.x c.args.y)

pub add-second-requires : goal.add-second-requires
add-second-requires c = omega (arith, gate-long c.args.x c.args.y)

pub add-requires : goal.add-requires
add-requires c = omega (arith, gate-long c.args.x c.args.y)

pub returns : goal.returns
returns c =
    let x = decimal c.args.x in
    let y = decimal c.args.y in
    let page = c.args.out.now in
    let k0 = on_more [] (codes "and=") page page _ 0 _ (record { long = refl; is = refl }) c.add-first.ensures.value c.add-first.ensures.after in
    let k1 = on_more _ x page _ _ _ _ k0 c.add-comma.ensures.value c.add-comma.ensures.after in
    let k2 = on_more _ (44 ∷ []) page _ _ _ _ k1 c.add-second.ensures.value c.add-second.ensures.after in
    let k3 = on_more _ y page _ _ _ _ k2 c.add.ensures.value c.add.ensures.after in
    let same = gate_text c.args.x c.args.y in
    record { value = k3.long ∙ ap length same; after = k3.is ∙ ap (λ t. over t page) same }
