use Rattle.std.proofs.Common.{◌≡◌, arith}
use Rattle.cutting.proofs.Fed.{Cutting-rest, HasFed-rest, kept_alone}
use Rattle.cutting.proofs.cutter.Cutter.take_cut.Goals as goal

pub invariant_of-self : goal.invariant_of-self
invariant_of-self c =
    rw (c.replace.ensures.after, c.empty.ensures)
    (Cutting-rest _ c.self.inside.whole c.self.invariant (omega (arith, c.if-self-gt0.false)))

pub returns-clause-full : goal.returns-clause-full
returns-clause-full c =
    rw (c.replace.ensures.value, ← c.self.view_is) (kept_alone _ c.self.invariant.fed c.self.invariant.has (omega (arith, c.if-self-gt0.false))).0

pub returns-clause-fed : goal.returns-clause-fed
returns-clause-fed c = λ fed has.
    let s = c.self.inside in
    let none : s.past ≡ 0 = omega (arith, c.if-self-gt0.false) in (
      s.rest,
      rw c.replace.ensures.value (kept_alone _ fed (rw (← c.self.view_is) at has) none).1,
      rw (c.replace.ensures.after, c.empty.ensures) (HasFed-rest s.target s.past s.rest none),
    )
