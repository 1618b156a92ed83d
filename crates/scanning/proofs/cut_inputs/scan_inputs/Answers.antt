use Rattle.std.proofs.Common.{◌≡◌, ap, ◌∙◌}
use Rattle.std.proofs.lemmas.Result.{IfOk-weaker}
use Rattle.scanning.specs.Scans.{AreTogether, inputs_from, inputs_of}
use Rattle.scanning.proofs.JoinedRuns.{one_by_one}
use Rattle.scanning.proofs.cut_inputs.scan_inputs.Goals as goal

pub returns-clause-inputs : goal.returns-clause-inputs
returns-clause-inputs c =
    IfOk-weaker c.batch_inputs.result (AreTogether 1 0 0 c.args.as_of c.args.parts c.args.cut.now)
    (λ inputs. inputs ≡ inputs_of c.args.as_of c.args.parts c.args.cut.now)
    (λ inputs t. t.are ∙ ap (inputs_from 0 0 c.args.as_of c.args.parts) (one_by_one t.is)) c.batch_inputs.ensures.inputs
