use Rattle.std.proofs.lemmas.Result.{err_from_is_err_and}
use Rattle.streaming.proofs.ScannedBatches.{gave_some, next_ahead, of_err, of_ok, went_on}
use Rattle.streaming.proofs.scanned_batches.ScannedSoFar.go_on.Goals as goal

pub returns-in_err-next-clause-fault : goal.returns-in_err-next-clause-fault
returns-in_err-next-clause-fault g c =
    let p = err_from_is_err_and c.from_residual.result c.from_residual.ensures.1 in
    let told = of_err _ c.scan_ahead-scans.result.1 c.in_err-next.field-0.0 c.in_err-next.was c.scan_ahead-scans.ensures.next.told in
    rw (p.1, p.2) (λ before to. rw (to.ahead.same.0, to.ahead.same.1) at (told before _ (to.ahead.more c.requires.more)))

pub returns-in_err-take_in-clause-fault : goal.returns-in_err-take_in-clause-fault
returns-in_err-take_in-clause-fault g c =
    let p = err_from_is_err_and c.from_residual-in_err-take_in.result c.from_residual-in_err-take_in.ensures.1 in
    let read = c.scan_ahead-scans.ensures.next in
    let next = of_ok _ c.scan_ahead-scans.result.1 c.in_ok-next.field-0 c.in_ok-next.was read.next in
    rw (p.1, p.2) (λ before to. gave_some (next_ahead to.ahead c.requires.more read.same next))

pub returns-clause-to : goal.returns-clause-to
returns-clause-to g c before to =
    let read = c.scan_ahead-scans.ensures.next in
    let next = of_ok _ c.scan_ahead-scans.result.1 c.in_ok-next.field-0 c.in_ok-next.was read.next in
    let taken = c.in_ok-take_in.ensures in
    let scan = of_ok _ c.scan_ahead-scans.result.0 taken.0 taken.1 c.scan_ahead-scans.ensures.scans in
    rw (c.reuse.ensures, c.replace-batch.ensures.after, taken.2) (went_on to c.requires.more scan read.same next)
