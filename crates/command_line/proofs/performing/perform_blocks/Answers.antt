use Rattle.std.proofs.Common.{rules}
use Rattle.command_line.proofs.performing.perform_blocks.Goals as goal

pub returns-clause-did : goal.returns-clause-did
returns-clause-did g c =
    (c.run_blocks-outcome.result, search rules, c.run_blocks-outcome.ensures.write_failed, c.report.ensures.status, c.report.ensures.reported)
