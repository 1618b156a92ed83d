use Rattle.std.proofs.Common.{◌∙◌, ap, sym, subst}
use Rattle.std.specs.List.Sorted.{IsStrictlyIncreasing}
use Rattle.base.specs.Among.{is_among}
use Rattle.base.proofs.Among.{found_among}
use Rattle.broken_trades.proofs.breaks.Breaks.holds.Goals as goal

pub returns : goal.returns
returns g c =
    let numbers = c.deref.result.now in
    let rise = subst IsStrictlyIncreasing (sym c.deref.ensures.value) c.self.invariant in
    c.is_ok.ensures.value
    ∙ found_among numbers c.args.trade_no c.binary_search.result rise c.binary_search.ensures.position
    ∙ ap (λ l. is_among l c.args.trade_no) (c.deref.ensures.value ∙ c.self.view_is)
