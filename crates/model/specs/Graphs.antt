-- And-inverter graphs, the newest node first. Nodes are numbered from 1 in order of arrival; the constant is node 0 and stands in no list.
use Rattle.std.specs.Prelude.{ℕ, suc, ◌+◌, ◌≤◌, max, Bool, false, cond, not, ◌&&◌, ◌||◌, List, [], ◌∷◌, length, Some, None, Option, ◌==◌}
use Rattle.model.specs.Tables.{number}
use Rattle.model.specs.Edges.{node_of, sign_of, edge, signed}
use Rattle.model.specs.Cuts.{Cut, key_list, key_sign, trivial}
use Rattle.model.specs.Keys.{first_of}

-- an input, or the AND of two fanin edges
pub data Node : Type 0 where
  input : Node
  gate : ℕ → ℕ → Node

abbrev pub Graph : Type 0
Graph = List Node

-- number n of a list whose newest stands first; d for the constant and for a number that is not there
abbrev pub at : {A : Type 0} → A → List A → ℕ → A
at d [] n = d
at d (x ∷ xs) n = let r = at d xs n in cond (n == suc (length xs)) x r

abbrev pub inputs : Graph → ℕ
inputs [] = 0
inputs (input ∷ g) = suc (inputs g)
inputs (gate x y ∷ g) = inputs g

-- every fanin is an earlier node
abbrev pub Ordered : Graph → Type 0
Ordered [] = Unit {0}
Ordered (input ∷ g) = Ordered g
Ordered (gate x y ∷ g) = (node_of x ≤ length g) × (node_of y ≤ length g) × Ordered g

-- FALSE, AND and complement of a kind of signal
pub record Kind (S : Type 0) : Type 0 where
  pub low : S
  pub meet : S → S → S
  pub flip : S → S

abbrev pub bits : Kind Bool
bits = record { low = false; meet = ◌&&◌; flip = not }

-- an edge's signal, from the nodes' signals: complemented for sign 1
abbrev pub edge_signal : {S : Type 0} → Kind S → List S → ℕ → S
edge_signal a vs e = let v = at a.low vs (node_of e) in cond (sign_of e) (a.flip v) v

-- the signals of all nodes, where the input of rank r (from 0) is given its signal
unfoldable pub signals : {S : Type 0} → Kind S → (ℕ → S) → Graph → List S
signals a given [] = []
signals a given (input ∷ g) = given (inputs g) ∷ signals a given g
signals a given (gate x y ∷ g) =
    let vs = signals a given g in
    a.meet (edge_signal a vs x) (edge_signal a vs y) ∷ vs

-- the value of a node, and of an edge, under an assignment of bits to the inputs
abbrev pub value : Graph → (ℕ → Bool) → ℕ → Bool
value g env n = at false (signals bits env g) n

abbrev pub edge_value : Graph → (ℕ → Bool) → ℕ → Bool
edge_value g env e = edge_signal bits (signals bits env g) e

-- an input has height 0, a gate 1 more than its higher fanin
unfoldable pub heights : Graph → List ℕ
heights [] = []
heights (input ∷ g) = 0 ∷ heights g
heights (gate x y ∷ g) = let hs = heights g in suc (max (at 0 hs (node_of x)) (at 0 hs (node_of y))) ∷ hs

abbrev pub height : Graph → ℕ → ℕ
height g n = at 0 (heights g) n

-- the gates that have the node as a fanin
unfoldable pub uses : Graph → ℕ → ℕ
uses [] n = 0
uses (input ∷ g) n = uses g n
uses (gate x y ∷ g) n = uses g n + number (node_of x == n || node_of y == n)

-- the node rests on m: it is m, or a gate with a fanin that rests on m
unfoldable pub rests_on : Graph → ℕ → ℕ → Bool
rests_on [] n m = n == m
rests_on (input ∷ g) n m = rests_on g n m
rests_on (gate x y ∷ g) n m =
    let fanins = rests_on g (node_of x) m || rests_on g (node_of y) m in
    let r = rests_on g n m in
    cond (n == suc (length g)) (n == m || fanins) r

-- how many gates of a list of nodes pass a test of their number
abbrev pub gates_that : (ℕ → Bool) → Graph → ℕ
gates_that test [] = 0
gates_that test (input ∷ g) = gates_that test g
gates_that test (gate x y ∷ g) = number (test (suc (length g))) + gates_that test g

-- the gates that an edge rests on, its own node included
abbrev pub cone_of : Graph → ℕ → ℕ
cone_of g e = gates_that (rests_on g (node_of e)) g

-- the plain edge of the gate with fanins x and y
unfoldable pub find_pair : ℕ → ℕ → Graph → Option ℕ
find_pair x y [] = None
find_pair x y (input ∷ g) = find_pair x y g
find_pair x y (gate a b ∷ g) = let r = find_pair x y g in cond (a == x && b == y) (Some (edge (suc (length g)) false)) r

abbrev pub or_else : {A : Type 0} → Option A → Option A → Option A
or_else (Some a) m = Some a
or_else None m = m

-- the kept cuts of each node, the newest first. The cuts of a node are its trivial cut, then its kept ones
abbrev pub cuts_of : ℕ → List (List Cut) → ℕ → List Cut
cuts_of p ks n = trivial p n ∷ at [] ks n

-- the edge under a key: the gate that keeps a cut of this key, complemented for that cut's key sign
unfoldable pub find_key : ℕ → List (List Cut) → List ℕ → Option ℕ
find_key p [] q = None
find_key p (cs ∷ ks) q =
    let r = find_key p ks q in
    or_else (first_of (key_list p) (λ c. Some (signed (edge (suc (length ks)) false) (key_sign c))) None q cs) r
