use Rattle.std.proofs.Common.{◌≡◌, ℕ, ◌≤◌, ◌-◌, List, false}
use Rattle.streaming.specs.Batches.{IsReadTo, read_length}
use Rattle.streaming.proofs.batches.BatchReader.read_batch.Given as goal

-- what was read goes on, and no batch is taken yet
abbrev pub invariant-loop-self : goal.invariant-loop-self
invariant-loop-self g l = record {
  fine : g.S.Source.has_failed l.source ≡ false;
  read : (before : _) (runs : List (List ℕ)) → IsReadTo g.S.Source before l.initial.source runs l.initial.self
      → IsReadTo g.S.Source before l.source runs l.self;
  same : l.self ≡ record l.initial.self { cutter = l.self.cutter };
  longer : read_length l.initial.self ≤ read_length l.self;
}

abbrev pub decreases-loop-self : goal.decreases-loop-self
decreases-loop-self g l = l.self.limit - read_length l.self
