use Rattle.std.proofs.Common.{◌≡◌, ℕ, inl, inr, rules, subst}
use Rattle.arguments.specs.declared.arguments.Job.{Job as TheJob}
use Rattle.block_scan.specs.Blocks.{FileView, of_blocks}
use Rattle.block_scan.specs.declared.block_source.BlockSource.{Ghosts as BlockSourceOf}
use Rattle.command_line.specs.Outcomes.{Device, Did, device}
use Rattle.command_line.proofs.starting.perform_file.Goals as goal
use Rattle.command_line.proofs.starting.perform_file.Goals.{then-job, else-job}

-- what was done over a file is done over what contracts see of it
did_over : (job : TheJob) (out errors : Device) (status : ℕ) {blocks : BlockSourceOf FileView} (source view : FileView) → source ≡ view
    → Did job out errors status (of_blocks blocks job.settings.limit source)
    → Did job out errors status (of_blocks blocks job.settings.limit view)
did_over job out errors status {blocks} source view = subst (λ s. Did job out errors status (of_blocks blocks job.settings.limit s))

pub returns-in-Some-clause-did : goal.returns-in-Some-clause-did
returns-in-Some-clause-did g c =
    let did = did_over c.args.job.now (device g.K.Sink c.args.out.now c.perform_blocks.new.out)
    (device g.L.Sink c.args.errors.now c.perform_blocks.new.errors) c.perform_blocks.result _ _ c.of-source.ensures
    c.perform_blocks.ensures.did in
    elim c.if-job.branch [
      | then-job w ↦ search rules
      | else-job w ↦ inl (search rules, c.in-Some.length, search rules, did)
    ]

pub returns-in-None-clause-did : goal.returns-in-None-clause-did
returns-in-None-clause-did g c =
    inr (
      elim c.if-job.branch [
        | then-job w ↦ inl (search rules)
        | else-job w ↦ inr (search rules)
      ],
      c.of-source-in-None.result,
      c.perform.new.source,
      c.of-source-in-None.ensures.reader,
      c.of-source-in-None.ensures.whole,
      (c.perform.ensures.did, c.perform.ensures.read_failed),
    )
