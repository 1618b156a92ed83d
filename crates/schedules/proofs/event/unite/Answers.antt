use Rattle.std.proofs.Common.{rules, ◌≡◌, true}
use Rattle.gathering.specs.Adding.{same_inputs}
use Rattle.gathering.proofs.EqualInputs.{same_inputs-itself}
use Rattle.schedules.proofs.event.unite.Goals as goal

pub returns : goal.returns
returns g c =
    let met = g.met.W.Input.Eq g.world.𝓛 g.world.𝓜 g.world.𝓡 ((λ s x. x), (λ x. x), (λ x. x), λ x. x) in
    let same : same_inputs g.W.Input.PartialEq.eq c.args.gathering.now.inputs c.args.other.inputs ≡ true =
    rw c.requires (same_inputs-itself g.W.Input.PartialEq.eq met.laws c.args.gathering.now.inputs) in
    search rules
