use Rattle.block_scan.specs.Blocks.{of_blocks}
use Rattle.executor.proofs.RunLaws.{answers_of_one_day}
use Rattle.executor.proofs.run_laws.one_run_of_blocks.Goals as goal

pub returns : goal.returns
returns g c = λ limit source once words one other.
    answers_of_one_day (of_blocks g.S.BlockSource limit source) once words one other
