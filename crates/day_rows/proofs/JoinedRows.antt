-- The rows of joined message lists are the joined rows.
use Rattle.std.proofs.Common.{◌≡◌, List, ◌++◌, Option, filter_map, flat_map, map, refl, sym, ◌∙◌}
use Rattle.std.proofs.lemmas.List.{append-nil}
use Rattle.std.proofs.lemmas.List.Elements.{filter_map-append}
use Rattle.std.proofs.lemmas.List.Folds.{flat_map-map}
use Rattle.base.proofs.Lists.{filter_map-flat_map}
use Rattle.day_rows.specs.Messages.{Placed, order_row_at, execution_at, own_priced_at, break_of, directory_row_at}
use Rattle.day_rows.specs.DayRows.{DayRows, all_rows, joined, no_rows, rows_of}

-- five equal lists make equal rows
pub same_rows : {one other : DayRows} → one.orders ≡ other.orders → one.executions ≡ other.executions → one.own_priced ≡ other.own_priced
    → one.breaks ≡ other.breaks → one.directory ≡ other.directory → one ≡ other
same_rows orders executions own_priced breaks directory =
    λ i. record { orders = orders i; executions = executions i; own_priced = own_priced i; breaks = breaks i; directory = directory i }

-- rows, and none after them
pub joined_none : (rows : DayRows) → joined rows no_rows ≡ rows
joined_none rows =
    same_rows (append-nil rows.orders) (append-nil rows.executions) (append-nil rows.own_priced) (append-nil rows.breaks) (append-nil rows.directory)

pub rows_of-append : (one other : List Placed) → rows_of (one ++ other) ≡ joined (rows_of one) (rows_of other)
rows_of-append one other =
    same_rows (filter_map-append _ one other) (filter_map-append _ one other) (filter_map-append _ one other) (filter_map-append _ one other)
    (filter_map-append _ one other)

of_parts : {Y : Type 0} (give : Placed → Option Y) (list : DayRows → List Y) → ((part : List Placed) → list (rows_of part) ≡ filter_map give part)
    → (parts : List (List Placed)) → filter_map give (flat_map (λ part. part) parts) ≡ flat_map list (map rows_of parts)
of_parts give list is parts =
    filter_map-flat_map give (λ (part : List Placed). part) parts ∙ (λ i. flat_map (λ part. sym (is part) i) parts) ∙ sym (flat_map-map list rows_of parts)

pub rows_of-parts : (parts : List (List Placed)) → rows_of (flat_map (λ part. part) parts) ≡ all_rows (map rows_of parts)
rows_of-parts parts =
    same_rows
    (of_parts (λ (m : Placed). order_row_at m.place m.message) (λ rows. rows.orders) (λ part. refl) parts)
    (of_parts (λ (m : Placed). execution_at m.place m.message) (λ rows. rows.executions) (λ part. refl) parts)
    (of_parts (λ (m : Placed). own_priced_at m.place m.message) (λ rows. rows.own_priced) (λ part. refl) parts)
    (of_parts (λ (m : Placed). break_of m.message) (λ rows. rows.breaks) (λ part. refl) parts)
    (of_parts (λ (m : Placed). directory_row_at m.place m.message) (λ rows. rows.directory) (λ part. refl) parts)

pub ruleset joined_laws = (rows_of-append, rows_of-parts)
