use Rattle.std.proofs.Common.{ap, ◌∙◌}
use Rattle.meaning.specs.Meaning.{Meaning}
use Rattle.scanning.specs.Scans.{inputs_of, total_of}
use Rattle.runs.proofs.Answered.{given_of}
use Rattle.runs.proofs.calls.alone.made_alone.Goals as goal

pub made_of-requires : goal.made_of-requires
made_of-requires g c =
    let scans = c.in_ok-inputs.ensures in
    let are = scans.inputs ∙ ap (λ (m : Meaning). inputs_of m.as_of c.args.parts c.args.cut.now) c.query.view_is in
    record {
      outcome = (
        c.args.cut.now,
        given_of _ c.in_ok-outcome.ensures c.new-link.ensures c.requires.parts.0 scans.runs
            (λ first is. is ∙ ap total_of are),
      );
    }

pub returns-clause-answers : goal.returns-clause-answers
returns-clause-answers g c =
    let scans = c.in_ok-inputs.ensures in
    let are = scans.inputs ∙ ap (λ (m : Meaning). inputs_of m.as_of c.args.parts c.args.cut.now) c.query.view_is in
    c.made_of.ensures.answers c.args.cut.now
    (given_of _ c.in_ok-outcome.ensures c.new-link.ensures c.requires.parts.0 scans.runs
    (λ first is. is ∙ ap total_of are))
