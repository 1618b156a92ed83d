-- What one more execution adds to the sales, and to the first that has no price; and those of a part.
use Rattle.std.proofs.Common.{◌≡◌, ℕ, ◌+◌, ◌-◌, ◌<◌, arith, cond, drop, length, get_or, take, List, [], ◌∷◌, ◌++◌, Option, Some, None, is_none, option_map, option_to_list}
use Rattle.std.proofs.Common.{filter, refl, sym, ap, ◌∙◌, ◌%◌, eqb, filter_map}
use Rattle.std.specs.List.{cons_option}
use Rattle.std.proofs.Math.Seq.{take-add}
use Rattle.std.proofs.lemmas.List.{append-nil, append_assoc, take_more}
use Rattle.std.proofs.lemmas.List.Elements.{filter-append, filter_map-append}
use Rattle.order_table.specs.declared.OrderRow.{OrderRow}
use Rattle.base.specs.Least.{least_by, numbers_below, part}
use Rattle.base.proofs.Least.{least_made_more}
use Rattle.probe.specs.Pricing.{Execution, Unknown, first_unknown, is_unknown, price_of, priced, sale_at, sale_of, unknown_of}
use Rattle.base.proofs.Lists.{filters_commute, filter_map_on_filter}
use Rattle.base.proofs.Order.{TellsApart, TellsApart-filter}
use Rattle.base.proofs.Parts.{least_of_parts}
use Rattle.order_table.proofs.PartRows.{part_rows, price_where}

module _ (rows : List OrderRow) (before executions : List Execution) (i : ℕ) (d : Execution) (below : i < length executions) where
  abbrev so_far : List Execution
  so_far = before ++ take i executions

  -- those so far, and the next one
  taken_more : before ++ take (i + 1) executions ≡ so_far ++ get_or executions i d ∷ []
  taken_more = ap (λ l. before ++ l) (take_more executions i d below) ∙ sym (append_assoc before (take i executions) (get_or executions i d ∷ []))

  -- what the next one adds
  sales_more : (o : Option ℕ) → o ≡ price_of rows (get_or executions i d)
      → priced rows (before ++ take (i + 1) executions) ≡ priced rows so_far ++ cons_option (option_map (sale_at (get_or executions i d)) o) []
  sales_more o is =
      ap (priced rows) taken_more
      ∙ filter_map-append (sale_of rows) so_far (get_or executions i d ∷ [])
      ∙ ap (λ p. priced rows so_far ++ cons_option (option_map (sale_at (get_or executions i d)) p) []) (sym is)

  unpriced_more : (o : Option ℕ) → o ≡ price_of rows (get_or executions i d)
      → filter (is_unknown rows) (before ++ take (i + 1) executions)
      ≡ filter (is_unknown rows) so_far ++ cond (is_none o) (get_or executions i d ∷ []) []
  unpriced_more o is =
      ap (filter (is_unknown rows)) taken_more
      ∙ filter-append (is_unknown rows) so_far (get_or executions i d ∷ [])
      ∙ ap (λ p. filter (is_unknown rows) so_far ++ cond (is_none p) (get_or executions i d ∷ []) []) (sym is)

  -- one with a price adds its sale
  pub priced_more : (price : ℕ) → Some price ≡ price_of rows (get_or executions i d)
      → priced rows (before ++ take (i + 1) executions) ≡ priced rows so_far ++ sale_at (get_or executions i d) price ∷ []
  priced_more price some = sales_more (Some price) some

  -- and leaves the first that has none
  pub unknown_stays : (price : ℕ) → Some price ≡ price_of rows (get_or executions i d)
      → first_unknown rows (before ++ take (i + 1) executions) ≡ first_unknown rows so_far
  unknown_stays price some = ap (least_by (λ execution. execution.place))
      (unpriced_more (Some price) some ∙ append-nil (filter (is_unknown rows) so_far))

  -- one with none adds no sale
  pub priced_stays : None ≡ price_of rows (get_or executions i d) → priced rows (before ++ take (i + 1) executions) ≡ priced rows so_far
  priced_stays none = sales_more None none ∙ append-nil (priced rows so_far)

  -- and may be the first
  pub unknown_more : None ≡ price_of rows (get_or executions i d)
      → option_map unknown_of (first_unknown rows (before ++ take (i + 1) executions))
      ≡ least_by (λ unknown. unknown.place)
      (option_to_list (option_map unknown_of (first_unknown rows so_far)) ++ unknown_of (get_or executions i d) ∷ [])
  unknown_more none =
      ap (λ l. option_map unknown_of (least_by (λ (execution : Execution). execution.place) l)) (unpriced_more None none)
      ∙ least_made_more (λ (unknown : Unknown). unknown.place) (λ (execution : Execution). execution.place) unknown_of (λ execution. refl)
      (filter (is_unknown rows) so_far)
      (get_or executions i d)

-- ---- the executions of a part, by their references modulo a number, are priced by the rows of the part as by all rows

-- the executions whose reference modulo n is b
abbrev part_executions : ℕ → List Execution → ℕ → List Execution
part_executions n executions b = part n (λ execution. execution.order_no) executions b

-- so a part has the sales of its executions
pub priced_in_part : (n b : ℕ) (rows : List OrderRow) (executions : List Execution)
    → priced (part_rows n rows b) (part_executions n executions b) ≡ priced rows (part_executions n executions b)
priced_in_part n b rows executions =
    filter_map_on_filter (sale_of (part_rows n rows b)) (sale_of rows) (λ (execution : Execution). eqb (execution.order_no % n) b)
    (λ execution h. ap (option_map (sale_at execution)) (price_where (λ order_no. eqb (order_no % n) b) rows execution.order_no execution.place h)) executions

-- and the least of the parts' first unknown executions is the whole's
pub first_unknown_of_parts : (n : ℕ) (rows : List OrderRow) (executions : List Execution) → 0 < n → TellsApart (λ execution. execution.place) executions
    → least_by (λ execution. execution.place) (filter_map (λ b. first_unknown (part_rows n rows b) (part_executions n executions b)) (numbers_below n))
    ≡ first_unknown rows executions
first_unknown_of_parts n rows executions some apart =
    (λ i. least_by (λ execution. execution.place) (filter_map (λ b. each b i) (numbers_below n)))
    ∙ least_of_parts n (λ execution. execution.order_no) (λ execution. execution.place) (filter (is_unknown rows) executions) some
    (TellsApart-filter _ (is_unknown rows) executions apart)
  where
    each : (b : ℕ) → first_unknown (part_rows n rows b) (part_executions n executions b)
        ≡ least_by (λ execution. execution.place) (part_executions n (filter (is_unknown rows) executions) b)
    each b = ap (least_by (λ (execution : Execution). execution.place))
        (filters_commute (is_unknown (part_rows n rows b)) (is_unknown rows) (λ (execution : Execution). eqb (execution.order_no % n) b)
        (λ execution h. ap is_none (price_where (λ order_no. eqb (order_no % n) b) rows execution.order_no execution.place h)) executions)

-- ---- some executions at a time

-- those that are done and the next few
pub few_more : (before executions : List Execution) (done count : ℕ)
    → before ++ take (done + count) executions ≡ (before ++ take done executions) ++ take (done + count - done) (drop done executions)
few_more before executions done count =
    let same : done + count - done ≡ count = omega arith in
    ap (λ l. before ++ l) (take-add done count executions)
    ∙ sym (append_assoc before (take done executions) (take count (drop done executions)))
    ∙ ap (λ n. (before ++ take done executions) ++ take n (drop done executions)) (sym same)
