use Rattle.std.proofs.Common.{◌≡◌, ◌+◌, ◌≤◌, length, drop}
use Rattle.model.specs.Search.{along}
use Rattle.cuts.specs.Meaning.{meaning}
use Rattle.search.specs.Finding.{listed, places_of}
use Rattle.search.specs.Fanins.{cuts_of}
use Rattle.search.proofs.Stepping.{pair_step}
use Rattle.search.proofs.consider.Search.search_row.Given as goal

abbrev pub invariant-loop-cut : goal.invariant-loop-cut
invariant-loop-cut l =
    let step = pair_step l.initial.self.keys.now l.x.sign l.y l.initial.self.limit (meaning l.x.cut.now) in
    let n = length l.yielded in
    record {
      keys : l.self.keys ≡ l.initial.self.keys;
      limit : l.self.limit ≡ l.initial.self.limit;
      room : places_of l.self.found ≡ places_of l.initial.self.found;
      next : l.self.found.list.count ≤ l.initial.self.found.list.count + n;
      still : along step (drop n (cuts_of l.y)) (listed l.self.found) ≡ along step (cuts_of l.y) (listed l.initial.self.found);
    }
