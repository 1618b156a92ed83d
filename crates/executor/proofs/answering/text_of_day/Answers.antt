use Rattle.std.proofs.Common.{Err, Ok, ◌∙◌, ap, subst}
use Rattle.std.proofs.lemmas.Result.{err_from_is_err_and}
use Rattle.base.specs.declared.limits.TheConstants.{TRADE_LIMIT}
use Rattle.meaning.specs.Meaning.{Meaning}
use Rattle.time_and_sales.specs.Names.{IsNamesOf, name_text, names_by}
use Rattle.answers.specs.Answers.{IsAnswer}
use Rattle.answers.proofs.AnswerOfSteps.{text_answers, text_asked}
use Rattle.answers.proofs.SelectedSales.{listing_few, listing_shares, selected}
use Rattle.day_rows.specs.Messages.{directory_rows, executions, own_priced_sales}
use Rattle.day_rows.proofs.RowsByPlace.{kept_apart}
use Rattle.day_rows.proofs.Stamped.{fits_listing}
use Rattle.morsel_rows.specs.Partitions.{MorselRowsView}
use Rattle.executor.proofs.Steps.{day_answers, on_day}
use Rattle.executor.proofs.answering.text_of_day.Goals as goal

pub trades_of-requires : goal.trades_of-requires
trades_of-requires g c = let of = c.in_ok-rows.ensures.rows in (of.messages, of.of)

pub list-listing-requires : goal.list-listing-requires
list-listing-requires g c =
    let of = c.in_ok-rows.ensures.rows in
    rw (c.in_ok-trades.ensures.trades of.messages of.of).are
    (kept_apart _ _ of.messages of.of.by_place)

pub text_of-requires-clause-stamped : goal.text_of-requires-clause-stamped
text_of-requires-clause-stamped g c =
    let of = c.in_ok-rows.ensures.rows in
    fits_listing _ _ _ _
    (c.in_ok-trades.ensures.trades of.messages of.of).stamped c.list-listing.ensures.permutation

pub text_of-requires-clause-shares : goal.text_of-requires-clause-shares
text_of-requires-clause-shares g c =
    listing_shares _ _ c.in_ok-trades.trades.items _ c.list-listing.ensures.permutation

pub text_of-requires-clause-few : goal.text_of-requires-clause-few
text_of-requires-clause-few g c =
    let of = c.in_ok-rows.ensures.rows in
    listing_few TRADE_LIMIT _ (executions of.messages) _ _ (own_priced_sales of.messages) c.in_ok-trades.trades.items _
    (c.in_ok-trades.ensures.trades of.messages of.of).are c.list-listing.ensures.permutation of.of.few

pub returns-in_err-rows-clause-fault : goal.returns-in_err-rows-clause-fault
returns-in_err-rows-clause-fault g c =
    let exit = err_from_is_err_and c.from_residual.result c.from_residual.ensures.1 in
    rw (exit.1, exit.2)
    (on_day c.in_err-rows.field-0.0 _ (λ fault. IsAnswer c.args.day.now c.args.query.now (Err fault))
    (λ fault answers. subst (λ file. IsAnswer file c.args.query.now (Err fault)) c.bytes.ensures.same (answers c.args.query.now))
    c.in_err-rows.ensures.fault)

pub returns-in_err-trades-clause-fault : goal.returns-in_err-trades-clause-fault
returns-in_err-trades-clause-fault g c =
    let of = c.in_ok-rows.ensures.rows in
    let moment = ap (λ (meaning : Meaning). meaning.as_of) c.query.view_is in
    let exit = err_from_is_err_and c.from_residual-in_err-trades.result c.from_residual-in_err-trades.ensures.1 in
    rw (exit.1, exit.2)
    (on_day c.in_err-trades.field-0.0 _ (λ fault. IsAnswer c.args.day.now c.args.query.now (Err fault))
    (λ fault answers. day_answers c.args.query.now (Err fault) of c.bytes.ensures.same moment (answers of.messages of.of c.args.query.now))
    c.in_err-trades.ensures.fault)

pub returns-clause-text : goal.returns-clause-text
returns-clause-text g c =
    let of = c.in_ok-rows.ensures.rows in
    let trades = c.in_ok-trades.ensures.trades of.messages of.of in
    let moment = ap (λ (meaning : Meaning). meaning.as_of) c.query.view_is in
    let breaks = c.in_ok-breaks.ensures.items_if_clones_equal (λ x y e. e) ∙ c.breaks.ensures ∙ ap (λ (r : MorselRowsView). r.breaks) of.of.are in
    let names : IsNamesOf (directory_rows of.messages) c.in_ok-names.names =
    subst (λ rows. IsNamesOf rows c.in_ok-names.names) (c.directory.ensures ∙ ap (λ (r : MorselRowsView). r.directory) of.of.are) c.in_ok-names.ensures in
    let listing = selected of.messages c.args.query.now c.in_ok-names.names c.in_ok-selection.selection _ _ c.list-listing.result of.of.by_place
    breaks trades.are trades.stamped names c.in_ok-selection.ensures.locates c.in_ok-selection.ensures.span c.in_ok-selection.ensures.kinds
    c.list-listing.ensures.by_place c.list-listing.ensures.permutation in
    day_answers c.args.query.now (Ok c.in_ok-text_of.field-0) of c.bytes.ensures.same moment
    (text_answers of.messages c.args.query.now _ trades.repeated trades.unknown
    (text_asked of.messages c.args.query.now c.list-listing.result (names_by c.in_ok-names.names) _ listing
    (λ locate. ap (name_text locate) (names locate)) c.in_ok-text_of.ensures))
