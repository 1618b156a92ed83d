-- What all buckets have found makes the answer.
use Rattle.std.proofs.lemmas.Grind.{common_steps}
use Rattle.std.proofs.Common.{◌≡◌, ℕ, ◌<◌, List, ◌++◌, Option, Some, None, option_map, Result, Ok, Err, map, IsPermutation, refl, ap, ◌∙◌, arith}
use Rattle.std.proofs.lemmas.List.{same_lists}
use Rattle.std.proofs.lemmas.List.FromFn.{get_or-map-range_with_len, length-map-range_with_len}
use Rattle.std.proofs.lemmas.List.Sorted.{IsPermutation-sym, IsPermutation-trans}
use Rattle.base.specs.Least.{numbers_below}
use Rattle.base.proofs.Least.{TellsApart-permutation}
use Rattle.base.proofs.Order.{TellsApart-from_distinct}
use Rattle.order_table.specs.Orders.{OrderRow, first_repeated, repeated_of}
use Rattle.probe.specs.Pricing.{Execution, Sale, first_unknown, priced, unknown_of}
use Rattle.probe.specs.Selection.{kept}
use Rattle.time_and_sales.specs.Lent.{all_sales}
use Rattle.time_and_sales.specs.Names.{DirectoryRow, IsNamesOf, name_of, name_text, names_by}
use Rattle.time_and_sales.specs.declared.names.Names.{Names}
use Rattle.time_and_sales.specs.Texts.{listing_text}
use Rattle.bars.proofs.Bars.{AreBarsOf-permutation}
use Rattle.meaning.specs.Meaning.{Meaning}
use Rattle.meaning.specs.declared.query.What.TheVariants.{Bars, Sales}
use Rattle.meaning.specs.declared.query.What.{What}
use Rattle.answers.specs.Answers.{DayFault, FaultOr, IsAnswerToMessages, IsTextOfMessages, IsTextOfSales, asks_for, repeated_at, selected_sales, unknown_at}
use Rattle.day_rows.specs.DayRows.{AreByPlace}
use Rattle.day_rows.specs.Messages.{Placed, break_numbers, directory_rows, executions, order_rows, own_priced_sales}
use Rattle.answers.proofs.AnswerOfSteps.{text_answers, text_asked}
use Rattle.day_rows.proofs.RowsByPlace.{kept_distinct}
use Rattle.day_rows.proofs.TradesOfRows.{kept_are_sales, listing_is}
use Rattle.buckets.specs.FoundRows.{TotalView}
use Rattle.planning.specs.AllBuckets.{AreGatheredOf, IsTextOfAll, fault_from}
use Rattle.planning.proofs.BucketsOfMessages.{lists_are, lists_in, repeated_found, unknown_found}

-- ---- faults

-- the first fault that all buckets have found is that of the messages
fault_is : (query : Meaning) (total : TotalView) (names : List DirectoryRow) (messages : List Placed) → AreGatheredOf query total names messages
    → fault_from (option_map repeated_of (first_repeated (order_rows messages)))
    (option_map unknown_of (first_unknown (order_rows messages) (executions messages)))
    ≡ fault_from total.repeated total.unknown
fault_is query total names messages are = grind (arith, common_steps, repeated_found, unknown_found)

-- so it is the answer
pub fault_answers : (query : Meaning) (total : TotalView) (names : List DirectoryRow) (messages : List Placed) (fault : DayFault)
    → AreGatheredOf query total names messages → fault_from total.repeated total.unknown ≡ Some fault → IsAnswerToMessages messages query (Err fault)
fault_answers query total names messages fault are is =
    go (first_repeated (order_rows messages)) (first_unknown (order_rows messages) (executions messages)) (fault_is query total names messages are ∙ is)
  where
    told : Result (List ℕ) DayFault
    told = Err fault

    go : (row : Option OrderRow) (execution : Option Execution) → fault_from (option_map repeated_of row) (option_map unknown_of execution) ≡ Some fault
        → FaultOr row repeated_at told (FaultOr execution unknown_at told ((text : List ℕ) × IsTextOfMessages query messages text × (told ≡ Ok text)))
    go row execution e = grind arith

-- where there is none, neither is there
neither : (row : Option OrderRow) (execution : Option Execution) → fault_from (option_map repeated_of row) (option_map unknown_of execution) ≡ None
    → (row ≡ None) × (execution ≡ None)
neither row execution e = grind arith

-- ---- the text

-- the text of sales that are, in some order, those that the query asks for
text_is : (what : What) (query : Meaning) (names : ℕ → List ℕ) (messages : List Placed) (sales : List Sale) (text : List ℕ) → AreByPlace messages
    → IsPermutation sales
    (kept (break_numbers messages) (asks_for query (directory_rows messages)) (priced (order_rows messages) (executions messages) ++ own_priced_sales messages))
    → IsTextOfAll what names sales text → IsTextOfSales what names (selected_sales query messages) text
text_is Sales query names messages sales text up h (listing, rising, all, written) =
    written
    ∙ ap (listing_text names)
    (listing_is (asks_for query (directory_rows messages)) messages listing up rising (IsPermutation-trans _ _ _ (IsPermutation-sym _ _ h) all))
text_is (Bars width) query names messages sales text up h (table, are, written) =
    let asked = asks_for query (directory_rows messages) in
    let every = kept (break_numbers messages) asked (priced (order_rows messages) (executions messages) ++ own_priced_sales messages) in
    let apart = TellsApart-permutation (λ (s : Sale). s.place) every sales (IsPermutation-sym _ _ h)
    (TellsApart-from_distinct (λ (s : Sale). s.place) every (kept_distinct asked messages up)) in
    (table, AreBarsOf-permutation width sales _ table apart (IsPermutation-trans _ _ _ h (kept_are_sales asked messages)) are, written)

pub text_named : (query : Meaning) (total : TotalView) (rows : List DirectoryRow) (messages : List Placed) (names : ℕ → List ℕ) (text : List ℕ)
    (what : What) → (are : AreGatheredOf query total rows messages) → query.what ≡ what → fault_from total.repeated total.unknown ≡ None
    → ((locate : ℕ) → names locate ≡ name_of rows locate)
    → IsTextOfAll what names (all_sales (lists_in are.parts query messages)) text
    → IsAnswerToMessages messages query (Ok text)
text_named query total rows messages names text what are same none named is =
    let no = neither (first_repeated (order_rows messages)) (first_unknown (order_rows messages) (executions messages))
    (fault_is query total rows messages are ∙ none) in
    text_answers messages query text no.0 no.1
    (text_asked messages query (selected_sales query messages) names text refl (λ locate. named locate ∙ ap (λ l. name_of l locate) are.names_are)
    (rw same (text_is what query names messages (all_sales (lists_in are.parts query messages)) text are.by_place
    (lists_are are.parts query messages are.some are.stamped) is)))

pub text_gathered : {A : Type 0} (query : Meaning) (total : TotalView) (rows : List DirectoryRow) (messages : List Placed) (names : Names A) (text : List ℕ)
    (what : What) → (are : AreGatheredOf query total rows messages) → query.what ≡ what → fault_from total.repeated total.unknown ≡ None → IsNamesOf rows names
    → IsTextOfAll what (names_by names) (all_sales (lists_in are.parts query messages)) text
    → IsAnswerToMessages messages query (Ok text)
text_gathered query total rows messages names text what are same none named is =
    text_named query total rows messages (names_by names) text what are same none (λ locate. ap (name_text locate) (named locate)) is

-- ---- lists of numbers

-- two functions that agree below n
pub map_below : {X : Type 0} (n : ℕ) (f g : ℕ → X) → ((b : ℕ) → b < n → f b ≡ g b) → map f (numbers_below n) ≡ map g (numbers_below n)
map_below n f g same = grind (arith, common_steps, same_lists, length-map-range_with_len, get_or-map-range_with_len)
