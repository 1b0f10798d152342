use Rattle.std.proofs.Common.{◌≡◌, map, take, Some, None, sym, refl, ap, ◌∙◌, arith, length-take}
use Rattle.model.specs.Rankings.{Ranking}
use Rattle.model.specs.Search.{folded, shared, made}
use Rattle.model.specs.Sessions.{positions}
use Rattle.cuts.specs.Meaning.{meaning}
use Rattle.rankings.proofs.Laws.{lawful-from}
use Rattle.search.specs.Finding.{existing}
use Rattle.sweeper.specs.declared.tally.Outcome.TheVariants.{Folded, Shared}
use Rattle.sweeper.specs.Tables.{image, by_cuts}
use Rattle.sweeper.proofs.Gated.{decide-folded, decide-shared, decide-cuts}
use Rattle.sweeper.proofs.Reaching.{reached-more}
use Rattle.sweeper.proofs.Sweeping.{tally-few, node-fits, growable, looked_up, edge_done, cuts_done}
use Rattle.sweeper.proofs.session.Session.sweep.Goals as goal

pub accept-requires-clause-few : goal.accept-requires-clause-few
accept-requires-clause-few g c = let i = image c.args.self.now.core in let s = c.args.self.now.sound in omega (arith, tally-few i c.args.self.now.reached Folded, s.few, s.room)

pub invariant_of-self : goal.invariant_of-self
invariant_of-self g c =
    let m = g.met.R.Ranking in
    let before = g.R.Ranking.before c.args.by.now in
    let law = lawful-from g.R.Ranking.before g.R.Ranking.INPUTS_FIRST m.irreflexive m.transitive m.ties m.inputs c.args.by.now in
    let r : Ranking positions = record { before = before; mark = g.R.Ranking.INPUTS_FIRST; lawful = law } in
    let i = image c.args.self.now.core in
    let s = c.args.self.now.sound in
    let a = c.args.a in
    let b = c.args.b in
    let x = c.args.x.number in
    let y = c.args.y.number in
    let h = c.requires in
    let e = c.in-Some.edge in
    let d = folded e.number in
    let is = decide-folded before i x y e.number (sym c.in-Some.ensures) in
    let done = edge_done r i s a b h.first h.second h.room x y h.low h.high d is Folded e refl refl refl refl _ c.accept.ensures.after _ c.accept.ensures.is in
    record { sound = done.sound; reached = reached-more done.steps c.args.self.now.reached }

pub returns-in-Some-clause-gates : goal.returns-in-Some-clause-gates
returns-in-Some-clause-gates g c =
    let m = g.met.R.Ranking in
    let before = g.R.Ranking.before c.args.by.now in
    let law = lawful-from g.R.Ranking.before g.R.Ranking.INPUTS_FIRST m.irreflexive m.transitive m.ties m.inputs c.args.by.now in
    let r : Ranking positions = record { before = before; mark = g.R.Ranking.INPUTS_FIRST; lawful = law } in
    let i = image c.args.self.now.core in
    let s = c.args.self.now.sound in
    let a = c.args.a in
    let b = c.args.b in
    let x = c.args.x.number in
    let y = c.args.y.number in
    let h = c.requires in
    let e = c.in-Some.edge in
    let d = folded e.number in
    let is = decide-folded before i x y e.number (sym c.in-Some.ensures) in
    let done = edge_done r i s a b h.first h.second h.room x y h.low h.high d is Folded e refl refl refl refl _ c.accept.ensures.after _ c.accept.ensures.is in
    record { lawful = law; steps = done.steps }

pub accept-requires-in-Some-find-clause-few : goal.accept-requires-in-Some-find-clause-few
accept-requires-in-Some-find-clause-few g c = let i = image c.args.self.now.core in let s = c.args.self.now.sound in omega (arith, tally-few i c.args.self.now.reached Shared, s.few, s.room)

pub invariant_of-self-in-Some-find : goal.invariant_of-self-in-Some-find
invariant_of-self-in-Some-find g c =
    let m = g.met.R.Ranking in
    let before = g.R.Ranking.before c.args.by.now in
    let law = lawful-from g.R.Ranking.before g.R.Ranking.INPUTS_FIRST m.irreflexive m.transitive m.ties m.inputs c.args.by.now in
    let r : Ranking positions = record { before = before; mark = g.R.Ranking.INPUTS_FIRST; lawful = law } in
    let i = image c.args.self.now.core in
    let s = c.args.self.now.sound in
    let a = c.args.a in
    let b = c.args.b in
    let x = c.args.x.number in
    let y = c.args.y.number in
    let h = c.requires in
    let none = sym c.in_default.ensures in
    let e = c.new.result in
    let d = shared e.number in
    let pair = looked_up i s x y _ _ (Some e.number) c.number.ensures c.number-2.ensures (ap Some c.new.ensures ∙ c.in-Some-find.ensures.exact) in
    let is = decide-shared before i x y e.number none pair in
    let done = edge_done r i s a b h.first h.second h.room x y h.low h.high d is Shared e refl refl refl refl _ c.accept-in-Some-find.ensures.after _ c.accept-in-Some-find.ensures.is in
    record { sound = done.sound; reached = reached-more done.steps c.args.self.now.reached }

pub returns-in-Some-find-clause-gates : goal.returns-in-Some-find-clause-gates
returns-in-Some-find-clause-gates g c =
    let m = g.met.R.Ranking in
    let before = g.R.Ranking.before c.args.by.now in
    let law = lawful-from g.R.Ranking.before g.R.Ranking.INPUTS_FIRST m.irreflexive m.transitive m.ties m.inputs c.args.by.now in
    let r : Ranking positions = record { before = before; mark = g.R.Ranking.INPUTS_FIRST; lawful = law } in
    let i = image c.args.self.now.core in
    let s = c.args.self.now.sound in
    let a = c.args.a in
    let b = c.args.b in
    let x = c.args.x.number in
    let y = c.args.y.number in
    let h = c.requires in
    let none = sym c.in_default.ensures in
    let e = c.new.result in
    let d = shared e.number in
    let pair = looked_up i s x y _ _ (Some e.number) c.number.ensures c.number-2.ensures (ap Some c.new.ensures ∙ c.in-Some-find.ensures.exact) in
    let is = decide-shared before i x y e.number none pair in
    let done = edge_done r i s a b h.first h.second h.room x y h.low h.high d is Shared e refl refl refl refl _ c.accept-in-Some-find.ensures.after _ c.accept-in-Some-find.ensures.is in
    record { lawful = law; steps = done.steps }

pub reuse-requires-clause-few : goal.reuse-requires-clause-few
reuse-requires-clause-few g c = λ o. let i = image c.args.self.now.core in let s = c.args.self.now.sound in omega (arith, tally-few i c.args.self.now.reached o, s.few, s.room)

pub reuse-requires-clause-fits : goal.reuse-requires-clause-fits
reuse-requires-clause-fits g c =
    let before = g.R.Ranking.before c.args.by.now in
    let i = image c.args.self.now.core in
    let s = c.args.self.now.sound in
    let x = c.args.x.number in
    let y = c.args.y.number in
    let h = c.requires in
    let none = sym c.in_default.ensures in
    let pair = looked_up i s x y _ _ None c.number.ensures c.number-2.ensures c.in_default-find.ensures.exact in
    node-fits before i s c.args.self.now.reached c.args.a c.args.b x y h.low h.high c.in-Existing.found (decide-cuts before i x y (existing c.in-Existing.found) none pair c.in-Existing.ensures.is)

pub invariant_of-self-in-Existing : goal.invariant_of-self-in-Existing
invariant_of-self-in-Existing g c =
    let m = g.met.R.Ranking in
    let before = g.R.Ranking.before c.args.by.now in
    let law = lawful-from g.R.Ranking.before g.R.Ranking.INPUTS_FIRST m.irreflexive m.transitive m.ties m.inputs c.args.by.now in
    let r : Ranking positions = record { before = before; mark = g.R.Ranking.INPUTS_FIRST; lawful = law } in
    let i = image c.args.self.now.core in
    let s = c.args.self.now.sound in
    let a = c.args.a in
    let b = c.args.b in
    let x = c.args.x.number in
    let y = c.args.y.number in
    let h = c.requires in
    let none = sym c.in_default.ensures in
    let pair = looked_up i s x y _ _ None c.number.ensures c.number-2.ensures c.in_default-find.ensures.exact in
    let d = existing c.in-Existing.found in
    let by : d ≡ by_cuts before i x y = c.in-Existing.ensures.is in
    let is = decide-cuts before i x y d none pair by in
    let done = cuts_done r i s a b h.first h.second h.room x y h.low h.high d is (image c.reuse.new.self) c.reuse.ensures.kept c.reuse.ensures.rest (c.reuse.ensures.state x y) _ c.reuse.ensures.is in
    record { sound = done.sound; reached = reached-more done.steps c.args.self.now.reached }

pub returns-in-Existing-clause-gates : goal.returns-in-Existing-clause-gates
returns-in-Existing-clause-gates g c =
    let m = g.met.R.Ranking in
    let before = g.R.Ranking.before c.args.by.now in
    let law = lawful-from g.R.Ranking.before g.R.Ranking.INPUTS_FIRST m.irreflexive m.transitive m.ties m.inputs c.args.by.now in
    let r : Ranking positions = record { before = before; mark = g.R.Ranking.INPUTS_FIRST; lawful = law } in
    let i = image c.args.self.now.core in
    let s = c.args.self.now.sound in
    let a = c.args.a in
    let b = c.args.b in
    let x = c.args.x.number in
    let y = c.args.y.number in
    let h = c.requires in
    let none = sym c.in_default.ensures in
    let pair = looked_up i s x y _ _ None c.number.ensures c.number-2.ensures c.in_default-find.ensures.exact in
    let d = existing c.in-Existing.found in
    let by : d ≡ by_cuts before i x y = c.in-Existing.ensures.is in
    let is = decide-cuts before i x y d none pair by in
    let done = cuts_done r i s a b h.first h.second h.room x y h.low h.high d is (image c.reuse.new.self) c.reuse.ensures.kept c.reuse.ensures.rest (c.reuse.ensures.state x y) _ c.reuse.ensures.is in
    record { lawful = law; steps = done.steps }

pub make-requires-clause-few : goal.make-requires-clause-few
make-requires-clause-few g c = λ o. let i = image c.args.self.now.core in let s = c.args.self.now.sound in omega (arith, tally-few i c.args.self.now.reached o, s.few, s.room)

pub make-requires-clause-growable : goal.make-requires-clause-growable
make-requires-clause-growable g c =
    let before = g.R.Ranking.before c.args.by.now in
    let i = image c.args.self.now.core in
    let s = c.args.self.now.sound in
    let x = c.args.x.number in
    let y = c.args.y.number in
    let h = c.requires in
    let none = sym c.in_default.ensures in
    let pair = looked_up i s x y _ _ None c.number.ensures c.number-2.ensures c.in_default-find.ensures.exact in
    let kept = take c.in-Made.n c.decide.new.kept in
    growable before i s c.args.self.now.reached c.args.a c.args.b x y h.low h.high none pair kept (omega (arith, length-take c.in-Made.n c.decide.new.kept, c.in-Made.ensures.few)) c.in-Made.ensures.is

pub invariant_of-self-in-Made : goal.invariant_of-self-in-Made
invariant_of-self-in-Made g c =
    let m = g.met.R.Ranking in
    let before = g.R.Ranking.before c.args.by.now in
    let law = lawful-from g.R.Ranking.before g.R.Ranking.INPUTS_FIRST m.irreflexive m.transitive m.ties m.inputs c.args.by.now in
    let r : Ranking positions = record { before = before; mark = g.R.Ranking.INPUTS_FIRST; lawful = law } in
    let i = image c.args.self.now.core in
    let s = c.args.self.now.sound in
    let a = c.args.a in
    let b = c.args.b in
    let x = c.args.x.number in
    let y = c.args.y.number in
    let h = c.requires in
    let none = sym c.in_default.ensures in
    let pair = looked_up i s x y _ _ None c.number.ensures c.number-2.ensures c.in_default-find.ensures.exact in
    let d = made (map meaning (take c.in-Made.n c.decide.new.kept)) in
    let by : d ≡ by_cuts before i x y = c.in-Made.ensures.is in
    let is = decide-cuts before i x y d none pair by in
    let done = cuts_done r i s a b h.first h.second h.room x y h.low h.high d is (image c.make.new.self) c.make.ensures.kept c.make.ensures.rest c.make.ensures.state _ c.make.ensures.is in
    record { sound = done.sound; reached = reached-more done.steps c.args.self.now.reached }

pub returns-in-Made-clause-gates : goal.returns-in-Made-clause-gates
returns-in-Made-clause-gates g c =
    let m = g.met.R.Ranking in
    let before = g.R.Ranking.before c.args.by.now in
    let law = lawful-from g.R.Ranking.before g.R.Ranking.INPUTS_FIRST m.irreflexive m.transitive m.ties m.inputs c.args.by.now in
    let r : Ranking positions = record { before = before; mark = g.R.Ranking.INPUTS_FIRST; lawful = law } in
    let i = image c.args.self.now.core in
    let s = c.args.self.now.sound in
    let a = c.args.a in
    let b = c.args.b in
    let x = c.args.x.number in
    let y = c.args.y.number in
    let h = c.requires in
    let none = sym c.in_default.ensures in
    let pair = looked_up i s x y _ _ None c.number.ensures c.number-2.ensures c.in_default-find.ensures.exact in
    let d = made (map meaning (take c.in-Made.n c.decide.new.kept)) in
    let by : d ≡ by_cuts before i x y = c.in-Made.ensures.is in
    let is = decide-cuts before i x y d none pair by in
    let done = cuts_done r i s a b h.first h.second h.room x y h.low h.high d is (image c.make.new.self) c.make.ensures.kept c.make.ensures.rest c.make.ensures.state _ c.make.ensures.is in
    record { lawful = law; steps = done.steps }
