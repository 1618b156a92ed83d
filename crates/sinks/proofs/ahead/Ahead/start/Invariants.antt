use Rattle.std.proofs.Common.{◌≡◌, ◌≤◌, ◌-◌}
use Rattle.sinks.specs.Followed.{Follow}
use Rattle.sinks.proofs.ahead.Ahead.start.Given as goal

-- the threads so far follow each other
abbrev pub invariant-loop-self : goal.invariant-loop-self
invariant-loop-self g l = record {
  parts : l.self.parts.now ≡ l.fn.self.parts.now;
  follow : Follow l.self.parts.now l.self.done l.self.threads.items l.self.next;
  done : l.self.done ≡ l.fn.self.done;
  within : l.self.next ≤ l.all;
}

abbrev pub decreases-loop-self : goal.decreases-loop-self
decreases-loop-self g l = l.all - l.self.next
