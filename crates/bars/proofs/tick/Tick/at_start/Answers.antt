use Rattle.std.proofs.Common.{ap, sym}
use Rattle.bars.specs.Steps.{bar_of_tick}
use Rattle.bars.proofs.Seconds.{start_of_second}
use Rattle.bars.proofs.tick.Tick.at_start.Goals as goal

pub returns : goal.returns
returns c =
    ap (λ m. record (bar_of_tick c.args.width c.args.self.now) { start = m }) (sym (start_of_second c.args.width c.args.self.now.second))
