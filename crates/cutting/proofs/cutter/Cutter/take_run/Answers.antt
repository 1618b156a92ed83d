use Rattle.std.proofs.Common.{◌≤◌, arith}
use Rattle.cutting.specs.Feeding.{CutterView, IsTaken}
use Rattle.cutting.specs.Cutting.{IsFirstRun}
use Rattle.cutting.specs.declared.cutter.Cutter.TheInside.{Inside}
use Rattle.cutting.proofs.Fed.{Taken-cutting, Taken-kept, Taken-past}
use Rattle.cutting.proofs.cutter.Cutter.take_run.Goals as goal
use Rattle.cutting.proofs.cutter.Cutter.take_run.Goals.{then-count-lt-MOST_MORSELS+in_ok-take_run, else-count-lt-MOST_MORSELS}

abbrev viewed : Inside → CutterView
viewed s = record { target = s.target; cut = s.cut; past = s.past; rest = s.rest }

taken : (c : goal.After-self-2-1) → IsTaken c.args.end (viewed c.self.inside) (viewed c.if-count-lt-MOST_MORSELS.self-inside)
taken c =
    let v = viewed c.self.inside in
    let run : IsFirstRun v.target c.args.end v.rest = rw (← c.self.view_is) at c.requires.run in
    let full : v.target ≤ c.args.end = rw (← c.self.view_is) at c.requires.full in
    elim c.if-count-lt-MOST_MORSELS.branch [
      | then-count-lt-MOST_MORSELS+in_ok-take_run w ↦
          rw (w.self-inside-is, w.in_ok-take_run.ensures.cut, w.in_ok-take_run.ensures.rest)
          (Taken-kept v c.args.end run full (omega (arith, w.if-count-lt-MOST_MORSELS.true, c.count.ensures.count)))
      | else-count-lt-MOST_MORSELS w ↦
          rw (w.self-inside-is, w.skip.ensures) (Taken-past v c.args.end run full (omega (arith, w.if-count-lt-MOST_MORSELS.false, c.count.ensures.count)))
    ]

pub invariant_of-self-2 : goal.invariant_of-self-2
invariant_of-self-2 c =
    let run : IsFirstRun c.self.inside.target c.args.end c.self.inside.rest = rw (← c.self.view_is) at c.requires.run in
    Taken-cutting c.self.inside.whole c.args.end _ _ c.self.invariant (taken c) run.within

pub returns-clause-taken : goal.returns-clause-taken
returns-clause-taken c = rw (← c.self.view_is) (taken c)
