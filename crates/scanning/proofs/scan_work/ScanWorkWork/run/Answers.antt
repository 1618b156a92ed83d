use Rattle.std.proofs.Common.{◌≡◌, ◌≤◌, ◌<◌, [], ap, ◌∙◌, subst}
use Rattle.std.proofs.lemmas.Result.{IfOk-weaker}
use Rattle.base.specs.declared.limits.TheConstants.{MOST_PARTITIONS}
use Rattle.scanning.specs.Scans.{scan_of, scanned}
use Rattle.scanning.proofs.scan_work.ScanWorkWork.run.Goals as goal

pub returns : goal.returns
returns c =
    let input = c.args.input.now in
    let parts = c.parts.ensures in
    let begun = c.in_ok-scan.ensures input.as_of ∙ ap (λ n. scan_of n input.as_of []) parts.value in
    IfOk-weaker c.finish.result (λ output. output ≡ c.take_in_all.new.scan) (λ output. output ≡ scanned input)
    (λ output e. e ∙ c.in_ok-take_in_all.ensures input.parts [] (subst (λ n. 0 < n) parts.value parts.some)
    (subst (λ n. n ≤ MOST_PARTITIONS) parts.value parts.most) begun) c.finish.ensures
