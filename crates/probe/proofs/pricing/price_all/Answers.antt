use Rattle.std.proofs.Common.{[], refl}
use Rattle.probe.proofs.pricing.price_all.Goals as goal

pub returns-clause-sales : goal.returns-clause-sales
returns-clause-sales g c = λ rows is. (c.in_ok-price_into.ensures.priced rows [] is
    (record { sales = c.in_ok-with_capacity.ensures.items; unknown = refl })).sales

pub returns-clause-unknown : goal.returns-clause-unknown
returns-clause-unknown g c = λ rows is. (c.in_ok-price_into.ensures.priced rows [] is
    (record { sales = c.in_ok-with_capacity.ensures.items; unknown = refl })).unknown
