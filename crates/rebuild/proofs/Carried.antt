-- A net that was written, and what reading it gives.
use Rattle.std.proofs.Common.{◌≡◌, ℕ, ◌<◌, List, map, length, take, drop, Ok, Err, Result, sym, ap, ◌∙◌, subst, arith, take_at}
use mathlib.Core.Logic.{∥∥₁_elim}
use native.Mathlib.Bridge.{le_prop}
use Rattle.std.specs.List.{flat_map, AllByRecursion, AllByRecursion-prop}
use Rattle.model.specs.Rankings.{Before}
use Rattle.model.specs.Sessions.{State, map_edge}
use Rattle.lines.specs.Written.{written, Fit}
use Rattle.lines.specs.declared.faults.TextFault.{TextFault}
use Rattle.lines.specs.Net.{net_lines}
use Rattle.reading.specs.declared.faults.ReadFault.{ReadFault}
use Rattle.reading.specs.Net.{Accepted, Follows}
use Rattle.pages.specs.Page.{over}
use Rattle.listing.specs.Sections.{net_text}
use Rattle.sweeper.specs.Counted.{few}
use Rattle.sweeper.specs.Runs.{Reached}
use Rattle.sweeper.proofs.Reaching.{ordered}
use Rattle.rebuild.specs.declared.RebuildFault.{RebuildFault}
use Rattle.rebuild.specs.Rebuilding.{Takes, Rebuilds}
use Rattle.rebuild.proofs.Nets.{Known, net_of, net_text_lem, net-fit, run-knows, rebuild_net}

-- the outputs of a session name nodes of its reduced graph
known : (s : State) → Reached s → Known s
known s r = ∥∥₁_elim r (AllByRecursion-prop _ (λ e. le_prop) s.outputs) λ l. run-knows l.run

-- a new session with space takes the net of every session
pub record Taken (f : Before) (s t : State) : Type 0 where
  pub after : State
  pub follows : Follows f t (net_text s) after
  pub source : after.source ≡ s.reduced
  pub outputs : after.outputs ≡ map (map_edge after) s.outputs

pub takes : (f : Before) (s t : State) → Reached s → Takes t s.reduced s.outputs → Taken f s t
takes f s t r h =
    let r' = rebuild_net f s.reduced s.outputs t h.no_nodes h.no_outputs (ordered s r) (known s r) h.nodes h.rows in
    let net = net_of s.reduced s.outputs in
    let none : 0 ≡ length t.source = sym (ap length h.no_nodes) in
    record {
      after = r'.after;
      follows = record {
        graph = net;
        whole = net_text_lem s.reduced s.outputs ∙ ap (λ n. flat_map written (net_lines n net)) none;
        fit = subst (λ n. AllByRecursion Fit (net_lines n net)) none (net-fit s.reduced s.outputs (ordered s r) (few s r).reduced (known s r));
        calls = subst (λ n. Accepted f t (net_lines n net) r'.after) none r'.calls;
      };
      source = r'.source;
      outputs = r'.outputs;
    }

-- the front of a page that a text was written over, where the page is given by an equation
pub read_back : (text page page' : List ℕ) (n : ℕ) → n ≡ length text → page' ≡ over text page → take n page' ≡ text
read_back text page page' n e p = ap (take n) p ∙ take_at text (drop (length text) page) n (sym e)

-- what the texts that a session takes come to
abbrev pub Accepting : Before → State → List ℕ → Result (Unit {0}) (TextFault ReadFault) → State → Type 0
Accepting f t text a u = (v : State) → Follows f t text v → (a ≡ Ok tt) × (u ≡ v)

module _ (f : Before) (s t : State) (page : List ℕ) (r : Result ℕ RebuildFault) (u : State) where
  -- the page is too short
  pub rebuilds_short : length page < length (net_text s) → Rebuilds s t page r u
  rebuilds_short h = record {
    answer = λ k room. absurd (omega (arith, h, room));
    source = λ k room. absurd (omega (arith, h, room));
    outputs = λ k room. absurd (omega (arith, h, room));
  }

  module _ (reached : Reached s) (a : Result (Unit {0}) (TextFault ReadFault)) (accepts : Accepting f t (net_text s) a u) where
    -- a session that takes the net refuses no line of it
    none_takes : (d : TextFault ReadFault) → a ≡ Err d → Takes t s.reduced s.outputs → ⊥
    none_takes d e k =
        let w = takes f s t reached k in
        let ok = (accepts w.after w.follows).0 in
        let z : ◌≡◌ {A = ℕ} 0 1 = cc in
        omega arith

    -- a line of the written net was refused: then the other session was not new, or had no space
    pub rebuilds_refused : (d : TextFault ReadFault) → a ≡ Err d → Rebuilds s t page r u
    rebuilds_refused d e = record {
      answer = λ k room. absurd (none_takes d e k);
      source = λ k room. absurd (none_takes d e k);
      outputs = λ k room. absurd (none_takes d e k);
    }

    -- the net was read
    pub rebuilds_read : (n : ℕ) → n ≡ length (net_text s) → r ≡ Ok n → Rebuilds s t page r u
    rebuilds_read n e is = record {
      answer = λ k room. is ∙ ap (λ x. Ok x) e;
      source = λ k room.
          let w = takes f s t reached k in
          ap (λ (x : State). x.source) (accepts w.after w.follows).1 ∙ w.source;
      outputs = λ k room.
          let w = takes f s t reached k in
          subst (λ (x : State). x.outputs ≡ map (map_edge x) s.outputs) (sym (accepts w.after w.follows).1) w.outputs;
    }
