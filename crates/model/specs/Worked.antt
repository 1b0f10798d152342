-- Worked sessions, as one table: each row's name says what it shows. Gates are ranked by height.
use Rattle.std.specs.Prelude.{◌≡◌, ℕ, ◌*◌, List, [], ◌∷◌, ◌++◌, map}
use Rattle.model.specs.Cuts.{Cut}
use Rattle.model.specs.Graphs.{at}
use Rattle.model.specs.Rankings.{Ranking, by_height}
use Rattle.model.specs.Sessions.{State, Tables, Call, Answer, step, opened, positions}
use Rattle.model.specs.Sessions.{input_call, gate_call, map_call, cone_call}
use Rattle.model.specs.Sessions.{was_made, was_folded, was_shared, was_merged, node, swept, mapped_edge, counted, refused}
use Rattle.model.specs.Sessions.{no_node, at_capacity, too_short, above_cap}
use Rattle.model.specs.Reports.{Line, report, calls_of}
use Rattle.model.specs.Reports as line

-- calls in the order made
abbrev pub state_after : (p : ℕ) → State → List (Call p) → State
state_after p s [] = s
state_after p s (c ∷ cs) = state_after p (step p s c).state cs

abbrev pub answers_of : (p : ℕ) → State → List (Call p) → List Answer
answers_of p s [] = []
answers_of p s (c ∷ cs) = (step p s c).answer ∷ answers_of p (step p s c).state cs

-- what a session shows: the answers in the order made, and for some nodes the cuts that they then keep
pub record Shown : Type 0 where
  pub answers : List Answer
  pub kept : List (ℕ × List Cut)

-- a session's tables and calls, and what it is to show
pub record Session : Type 0 where
  pub tables : Tables
  pub calls : List (Call positions)
  pub expected : Shown

abbrev pub shown : Session → Shown
shown s = record {
  answers = answers_of positions (opened s.tables) s.calls;
  kept = map (λ q. (q.0, at [] (state_after positions (opened s.tables) s.calls).kept q.0)) s.expected.kept;
}

-- tables for n nodes
abbrev pub room_for : ℕ → Tables
room_for n = record { source = n; reduced = n; cuts = 4 * n; pairs = n; keys = 4 * n; outputs = n }

abbrev pub two_inputs : List Answer → List Answer
two_inputs more = node 1 ∷ node 2 ∷ more

-- the answers to the gates of an equivalence in two forms
abbrev pub equivalence_answers : List Answer → List Answer
equivalence_answers more = two_inputs (swept was_made 6 ∷ swept was_made 8 ∷ swept was_made 10 ∷ swept was_made 12 ∷ swept was_made 14 ∷ swept was_merged 11 ∷ more)

module _ (r : Ranking positions) where
  abbrev two : List (Call positions) → List (Call positions)
  two cs = input_call ∷ input_call ∷ cs

  abbrev pub full_session_still_maps : Session
  full_session_still_maps = record {
    tables = room_for 0;
    calls = map_call 1 ∷ input_call ∷ [];
    expected = record {
      answers = mapped_edge 1 ∷ refused (at_capacity 0) ∷ [];
      kept = [];
    };
  }

  abbrev pub complementary_fanins_fold_to_false : Session
  complementary_fanins_fold_to_false = record {
    tables = room_for 8;
    calls = two (gate_call r 2 3 ∷ []);
    expected = record {
      answers = two_inputs (swept was_folded 0 ∷ []);
      kept = [];
    };
  }

  abbrev pub true_fanin_folds_to_the_other : Session
  true_fanin_folds_to_the_other = record {
    tables = room_for 8;
    calls = two (gate_call r 2 1 ∷ []);
    expected = record {
      answers = two_inputs (swept was_folded 2 ∷ []);
      kept = [];
    };
  }

  abbrev pub made_gate_keeps_its_key : Session
  made_gate_keeps_its_key = record {
    tables = room_for 8;
    calls = two (gate_call r 2 5 ∷ []);
    expected = record {
      answers = two_inputs (swept was_made 6 ∷ []);
      kept = (3, record { leaves = 1 ∷ 2 ∷ []; table = 0x2222 } ∷ []) ∷ [];
    };
  }

  abbrev pub swapped_fanins_are_shared : Session
  swapped_fanins_are_shared = record {
    tables = room_for 8;
    calls = two (gate_call r 2 5 ∷ gate_call r 5 2 ∷ []);
    expected = record {
      answers = two_inputs (swept was_made 6 ∷ swept was_shared 6 ∷ []);
      kept = [];
    };
  }

  -- comes out otherwise where masked leaves stay: the leaf 2 is masked
  abbrev pub absorbed_leaf_folds_to_the_other : Session
  absorbed_leaf_folds_to_the_other = record {
    tables = room_for 8;
    calls = two (gate_call r 3 5 ∷ gate_call r 2 7 ∷ []);
    expected = record {
      answers = two_inputs (swept was_made 6 ∷ swept was_folded 2 ∷ []);
      kept = [];
    };
  }

  abbrev pub contradiction_folds_to_false : Session
  contradiction_folds_to_false = record {
    tables = room_for 8;
    calls = two (gate_call r 3 5 ∷ gate_call r 2 6 ∷ []);
    expected = record {
      answers = two_inputs (swept was_made 6 ∷ swept was_folded 0 ∷ []);
      kept = [];
    };
  }

  abbrev pub unknown_second_fanin_is_refused : Session
  unknown_second_fanin_is_refused = record {
    tables = room_for 8;
    calls = two (gate_call r 2 6 ∷ []);
    expected = record {
      answers = two_inputs (refused (no_node 1) ∷ []);
      kept = [];
    };
  }

  -- the gates of an equivalence in two forms
  abbrev equivalence : List (Call positions)
  equivalence = gate_call r 2 5 ∷ gate_call r 3 4 ∷ gate_call r 7 9 ∷ gate_call r 3 5 ∷ gate_call r 2 4 ∷ gate_call r 13 15 ∷ []

  abbrev pub four_cuts_are_kept_by_height : Session
  four_cuts_are_kept_by_height = record {
    tables = room_for 8;
    calls = two equivalence;
    expected = record {
      answers = equivalence_answers [];
      kept = (
        5,
        record { leaves = 1 ∷ 2 ∷ []; table = 0x9999 }
            ∷ record { leaves = 1 ∷ 2 ∷ 3 ∷ []; table = 0x0B0B }
            ∷ record { leaves = 1 ∷ 2 ∷ 4 ∷ []; table = 0x0D0D }
            ∷ record { leaves = 3 ∷ 4 ∷ []; table = 0x1111 } ∷ [],
      ) ∷ [];
    };
  }

  -- comes out otherwise where the key's sign is forgotten at entry (10), or keys are matched by leaves alone (the second gate is merged)
  abbrev pub complement_merges_with_the_sign : Session
  complement_merges_with_the_sign = record {
    tables = room_for 8;
    calls = two (equivalence ++ (map_call 16 ∷ map_call 17 ∷ []));
    expected = record {
      answers = equivalence_answers (mapped_edge 11 ∷ mapped_edge 10 ∷ []);
      kept = (6, record { leaves = 1 ∷ 2 ∷ []; table = 0x1111 } ∷ []) ∷ [];
    };
  }

  abbrev pub cone_counts_up_to_the_cap : Session
  cone_counts_up_to_the_cap = record {
    tables = room_for 8;
    calls = two (equivalence ++ (cone_call 10 8 3 ∷ cone_call 10 8 2 ∷ cone_call 10 7 3 ∷ []));
    expected = record {
      answers = equivalence_answers (counted 3 ∷ refused (above_cap 2) ∷ refused (too_short 8) ∷ []);
      kept = [];
    };
  }

  abbrev pub regrouped_product_is_merged : Session
  regrouped_product_is_merged = record {
    tables = room_for 9;
    calls = input_call ∷ input_call ∷ input_call ∷ input_call
        ∷ gate_call r 2 4 ∷ gate_call r 6 8 ∷ gate_call r 10 12 ∷ gate_call r 6 10 ∷ gate_call r 8 16 ∷ [];
    expected = record {
      answers = node 1 ∷ node 2 ∷ node 3 ∷ node 4
          ∷ swept was_made 10 ∷ swept was_made 12 ∷ swept was_made 14 ∷ swept was_made 16 ∷ swept was_merged 14 ∷ [];
      kept = [];
    };
  }

  -- comes out otherwise where a table is stretched by a shift: the leaf 6 joins at another distance than the leaves 4 and 5
  abbrev pub fifth_candidate_is_left_out : Session
  fifth_candidate_is_left_out = record {
    tables = room_for 9;
    calls = input_call ∷ input_call ∷ input_call ∷ input_call ∷ input_call
        ∷ gate_call r 2 4 ∷ gate_call r 6 12 ∷ gate_call r 8 10 ∷ gate_call r 14 16 ∷ [];
    expected = record {
      answers = node 1 ∷ node 2 ∷ node 3 ∷ node 4 ∷ node 5
          ∷ swept was_made 12 ∷ swept was_made 14 ∷ swept was_made 16 ∷ swept was_made 18 ∷ [];
      kept = (
        9,
        record { leaves = 1 ∷ 2 ∷ 3 ∷ 8 ∷ []; table = 0x8000 }
            ∷ record { leaves = 3 ∷ 4 ∷ 5 ∷ 6 ∷ []; table = 0x8000 }
            ∷ record { leaves = 4 ∷ 5 ∷ 7 ∷ []; table = 0x8080 }
            ∷ record { leaves = 3 ∷ 6 ∷ 8 ∷ []; table = 0x8080 } ∷ [],
      ) ∷ [];
    };
  }

  -- comes out otherwise where the key's sign is forgotten at look-up (10)
  abbrev pub complement_is_found_through_its_key : Session
  complement_is_found_through_its_key = record {
    tables = room_for 8;
    calls = two (gate_call r 3 5 ∷ gate_call r 2 4 ∷ gate_call r 7 9 ∷ gate_call r 2 5 ∷ gate_call r 3 4 ∷ gate_call r 13 15 ∷ []);
    expected = record {
      answers = two_inputs (swept was_made 6 ∷ swept was_made 8 ∷ swept was_made 10 ∷ swept was_made 12 ∷ swept was_made 14 ∷ swept was_merged 11 ∷ []);
      kept = [];
    };
  }

  abbrev pub sessions : List Session
  sessions = full_session_still_maps
      ∷ complementary_fanins_fold_to_false
      ∷ true_fanin_folds_to_the_other
      ∷ made_gate_keeps_its_key
      ∷ swapped_fanins_are_shared
      ∷ absorbed_leaf_folds_to_the_other
      ∷ contradiction_folds_to_false
      ∷ unknown_second_fanin_is_refused
      ∷ four_cuts_are_kept_by_height
      ∷ complement_merges_with_the_sign
      ∷ cone_counts_up_to_the_cap
      ∷ regrouped_product_is_merged
      ∷ fifth_candidate_is_left_out
      ∷ complement_is_found_through_its_key
      ∷ []

-- the example net, and the report that a session of its calls has, line by line
abbrev pub example_net : List Line
example_net = line.net 1 ∷ line.«in» 1 ∷ line.«in» 2 ∷ line.and 2 5 ∷ line.and 3 4 ∷ line.and 7 9 ∷ line.and 3 5 ∷ line.and 2 4 ∷ line.and 13 15 ∷ line.out 16 ∷ line.end 8 ∷ []

abbrev pub example_report : List Line
example_report = line.net 1 ∷ line.«in» 1 ∷ line.«in» 2 ∷ line.and 2 5 ∷ line.and 3 4 ∷ line.and 7 9 ∷ line.and 3 5 ∷ line.and 2 4 ∷ line.out 11 ∷ line.end 7
    ∷ line.made 5 ∷ line.folded 0 ∷ line.shared 0 ∷ line.merged 1
    ∷ line.mapped 2 ∷ line.mapped 4 ∷ line.mapped 6 ∷ line.mapped 8 ∷ line.mapped 10 ∷ line.mapped 12 ∷ line.mapped 14 ∷ line.mapped 11 ∷ line.done 8 ∷ []

-- the definitions yield the whole table, and the example's report
pub record Worked (r : Ranking positions) : Type 0 where
  pub table : map shown (sessions r) ≡ map (λ s. s.expected) (sessions r)
  pub example : report (state_after positions (opened (room_for 255)) (calls_of r example_net)) ≡ example_report

abbrev pub WorkedSessions : Type 0
WorkedSessions = (r : Ranking positions) → r.before ≡ by_height → Worked r
