use Rattle.std.proofs.Common.{◌≡◌, ◌+◌, [], ◌∷◌, ◌++◌, map, length, take, drop, sym, refl, ap, ◌∙◌, arith}
use Rattle.std.proofs.lemmas.List.{take_more_set, map_more, drop-set-lt, drop-drop, take_all}
use Rattle.cuts.specs.declared.cut.Cut.{Cut}
use Rattle.rankings.specs.declared.candidate.Candidate.{Candidate}
use Rattle.search.proofs.keeping.write_cuts.Goals as goal

abbrev cut_in : Candidate Cut → Cut
cut_in c = c.item

pub loop-i-preserved : goal.loop-i-preserved
loop-i-preserved c =
    let i = c.loop-i.i in
    let ps = c.loop-i.places in
    let cs = c.args.candidates.now in
    let x = c.index-candidates-i.result in (
      take_more_set ps i x.item (omega (arith, c.requires))
          ∙ ap (λ l. l ++ (x.item ∷ [])) c.loop-i.invariant.0
          ∙ ap (λ y. map cut_in (take i cs) ++ (cut_in y ∷ [])) c.index-candidates-i.is
          ∙ sym (map_more cut_in cs i x c.loop-i-test.true),
      drop-set-lt (i + 1) ps i x.item (omega arith) ∙ sym (drop-drop 1 i ps) ∙ ap (drop 1) c.loop-i.invariant.1 ∙ drop-drop 1 i c.args.places.now,
    )

pub returns : goal.returns
returns c =
    let cs = c.args.candidates.now in
    let e : c.loop-i.i ≡ length cs = omega arith in
    record {
      many = refl;
      first = ap (λ n. take n c.loop-i.places) (sym e) ∙ c.loop-i.invariant.0 ∙ ap (map cut_in) (take_all c.loop-i.i cs c.loop-i-test.false);
      rest = ap (λ n. drop n c.loop-i.places) (sym e) ∙ c.loop-i.invariant.1 ∙ ap (λ n. drop n c.args.places.now) e;
    }
