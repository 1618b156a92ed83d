-- Bars that have lines.
-- Derived: no public clause cites it.
use Rattle.std.specs.Prelude.{◌<◌}
use Rattle.base.specs.declared.limits.TheConstants.{TIME_LIMIT}
use Rattle.bar.specs.declared.bar.Bar.{Bar}
use Rattle.bar.specs.OneBar.{IsTraded}

-- the bar is traded, and starts at a message's time
abbrev pub IsTold : Bar → Type 0
IsTold bar = IsTraded bar × (bar.start < TIME_LIMIT)
