use Rattle.std.proofs.Common.{◌∙◌, ap}
use Rattle.base.specs.Among.{is_among}
use Rattle.base.proofs.Among.{found_among}
use Rattle.probe.proofs.locates.LocateList.holds.Goals as goal

pub returns : goal.returns
returns g c =
    let numbers = c.self.inside.numbers.items in
    let position = c.binary_search.ensures.position in
    let found = found_among numbers c.args.locate c.binary_search.result c.self.invariant (rw (← c.deref.ensures.value) position) in
    c.is_ok.ensures.value ∙ found ∙ ap (λ l. is_among l c.args.locate) c.self.view_is
