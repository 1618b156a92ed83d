use Rattle.std.proofs.Common.{◌∙◌, ℕ, ap, sym}
use Rattle.probe.specs.declared.selection.Locates.TheVariants.{Listed}
use Rattle.time_and_sales.specs.Names.{names_by}
use Rattle.meaning.specs.Meaning.{Meaning}
use Rattle.meaning.specs.Selected.{locates_of}
use Rattle.meaning.proofs.ListedLocates.{listed_selected}
use Rattle.meaning.proofs.select.selection.Goals as goal
use Rattle.meaning.proofs.select.selection.Goals.{in-Some+in_ok-listed-in-Some, in-None}

pub returns-clause-locates : goal.returns-clause-locates
returns-clause-locates g c =
    let names = names_by c.args.names.now in
    elim c.match-query.branch [
      | in-Some+in_ok-listed-in-Some w ↦
          w.locates-is
          ∙ ap Listed (listed_selected w.in-Some.symbols names w.in_ok-listed-in-Some.field-0.items w.from_rows.result w.in_ok-listed-in-Some.ensures
          w.from_rows.ensures.numbers w.from_rows.ensures.rising)
          ∙ ap (λ symbols. locates_of symbols names) (sym w.in-Some.is ∙ ap (λ (m : Meaning). m.symbols) c.query.view_is)
      | in-None w ↦ w.locates-is ∙ ap (λ symbols. locates_of symbols names) (sym w.in-None.is ∙ ap (λ (m : Meaning). m.symbols) c.query.view_is)
    ]
