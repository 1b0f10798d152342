use Rattle.std.proofs.Common.{◌≡◌, ◌+◌, ◌*◌, ◌≤◌, length, drop}
use Rattle.model.specs.Edges.{sign_of}
use Rattle.model.specs.Search.{along}
use Rattle.search.specs.Finding.{listed, places_of}
use Rattle.search.specs.Fanins.{most_cuts, cuts_of}
use Rattle.search.proofs.Stepping.{row_step}
use Rattle.search.proofs.consider.Search.search_cuts.Given as goal

abbrev pub invariant-loop-cut : goal.invariant-loop-cut
invariant-loop-cut l =
    let step = row_step l.initial.self.keys.now (sign_of l.x.edge.number) l.y l.initial.self.limit in
    let n = length l.yielded in
    record {
      keys : l.self.keys ≡ l.initial.self.keys;
      limit : l.self.limit ≡ l.initial.self.limit;
      room : places_of l.self.found ≡ places_of l.initial.self.found;
      next : l.self.found.list.count ≤ l.initial.self.found.list.count + most_cuts * n;
      still : along step (drop n (cuts_of l.x)) (listed l.self.found) ≡ along step (cuts_of l.x) (listed l.initial.self.found);
    }
