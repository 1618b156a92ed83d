use Rattle.std.proofs.Common.{◌≡◌, ap, ◌∙◌}
use Rattle.std.proofs.lemmas.Result.{IfOk-weaker}
use Rattle.scanning.specs.Scans.{total_of}
use Rattle.streaming.specs.ScannedBatches.{IsScanOfBatch}
use Rattle.streaming.proofs.ScannedBatches.{scanned_batch}
use Rattle.streaming.proofs.scanned_batches.scan.Goals as goal

pub returns : goal.returns
returns g c =
    let batch = c.args.batch.now in
    let inputs = c.in_ok-inputs.ensures in
    let shared = c.in_ok-inputs-2.ensures.ok in
    IfOk-weaker c.run_first.result (λ total. total ≡ total_of _) (IsScanOfBatch batch c.args.as_of c.args.settings.parts)
    (λ total is. scanned_batch batch inputs.runs inputs.inputs (is ∙ ap total_of shared)) c.run_first.ensures.total
