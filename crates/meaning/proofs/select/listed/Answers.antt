use Rattle.std.proofs.Common.{◌≡◌, ◌∙◌, ℕ, arith, Some}
use Rattle.std.proofs.lemmas.Grind.{common_steps}
use Rattle.time_and_sales.specs.Names.{names_by}
use Rattle.meaning.specs.Selected.{has_name}
use Rattle.meaning.proofs.ListedLocates.{all_selected, passing_more, same_symbols}
use Rattle.meaning.proofs.select.listed.Goals as goal
use Rattle.meaning.proofs.select.listed.Goals.{then-hold+in_ok-push, else-hold}

pub loop-number-preserved : goal.loop-number-preserved
loop-number-preserved g c =
    let number = c.loop-number.number in
    let text = names_by c.args.names.now in
    let test = λ (k : ℕ). has_name (Some c.args.symbols.now) (text k) in
    let name : c.items.result.now ≡ text number = ◌∙◌ {c = text number} c.items.ensures.value c.name.ensures in
    let same : c.hold.result ≡ test number = same_symbols c.args.symbols.now c.in_ok-sorted.sorted c.items.result.now (text number) c.hold.result
    c.in_ok-sorted.ensures name c.hold.ensures in
    let more = passing_more test number c.hold.result same in
    elim c.if-hold.branch [ then-hold+in_ok-push w ↦ grind (arith, common_steps, more) | else-hold w ↦ grind (arith, common_steps, more) ]

pub returns : goal.returns
returns g c =
    all_selected c.args.symbols.now (names_by c.args.names.now) c.loop-number.number c.loop-number.rows.items
    c.loop-number.invariant (omega (arith, c.loop-number-test.false))
