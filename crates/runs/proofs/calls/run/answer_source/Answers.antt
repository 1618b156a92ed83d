use Rattle.std.proofs.Common.{◌≡◌, subst}
use Rattle.std.specs.List.{concat}
use Rattle.meaning.specs.Meaning.{Meaning}
use Rattle.scanning.specs.Scans.{inputs_of, total_of}
use Rattle.runs.proofs.Answered.{given_of}
use Rattle.runs.proofs.BlocksScanned.{of_cut}
use Rattle.runs.proofs.calls.run.answer_source.Goals as goal

pub run_second-requires-clause-total : goal.run_second-requires-clause-total
run_second-requires-clause-total g c lifetimes within =
    let (runs, whole, may, of) = rw c.in-Ok-Long.field-0-is at c.in-Ok-Long.ensures.scanned in
    of_cut c.query.inside.as_of {runs = runs} c.args.settings.parts_in_range.0 of.are of.is

pub made_of-requires : goal.made_of-requires
made_of-requires g c =
    let (runs, whole, may, of) = rw c.in-Ok-Long.field-0-is at c.in-Ok-Long.ensures.scanned in
    record {
      outcome = (
        runs,
        given_of _ c.in_ok-outcome.ensures.outcome c.new-link.ensures c.args.settings.parts_in_range.0 of.are
            (λ first is. rw is (subst (λ (m : Meaning). c.in-Ok-Long.total ≡ total_of (inputs_of m.as_of c.args.settings.parts runs)) c.query.view_is of.is)),
      );
    }

pub returns-clause-answered : goal.returns-clause-answered
returns-clause-answered g c =
    let (runs, whole, may, of) = rw c.in-Ok-Long.field-0-is at c.in-Ok-Long.ensures.scanned in (
      concat runs,
      whole,
      may,
      (c.made_of.ensures.answers runs
          (given_of _ c.in_ok-outcome.ensures.outcome c.new-link.ensures c.args.settings.parts_in_range.0 of.are
          (λ first is. rw is (subst (λ (m : Meaning). c.in-Ok-Long.total ≡ total_of (inputs_of m.as_of c.args.settings.parts runs)) c.query.view_is of.is)))),
    )

pub returns-in-Ok-Short-clause-answered : goal.returns-in-Ok-Short-clause-answered
returns-in-Ok-Short-clause-answered g c =
    let (whole, may) = rw c.in-Ok-Short.field-0-is at c.in-Ok-Short.ensures.scanned in
    (concat c.in-Ok-Short.cut, whole, may, c.in_ok-made-in-Ok-Short.ensures.answers)
