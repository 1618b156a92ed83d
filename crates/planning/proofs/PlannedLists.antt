-- What a plan has: lists that are gathered item after item, breaks in rising order, as a set of them has them, and a selection, which admits what the query
-- asks for.
use Rattle.std.proofs.Common.{◌≡◌, ℕ, ◌+◌, ◌<◌, ◌≤◌, List, ◌∷◌, [], ◌++◌, flat_map, length, get_or, map, take, ap, ap₂, sym, ◌∙◌, arith, suc, Contains}
use Rattle.std.proofs.Common.{sum, ◌^◌, ◌&&◌, Global}
use Rattle.std.proofs.lemmas.List.{flat_map_more, map_push, take_all, take_more}
use Rattle.std.proofs.lemmas.List.Folds.{flat_map-map}
use Rattle.std.proofs.lemmas.List.FromFn.{map-range_with_len_more, get_or-range_with_len, length-range_with_len}
use Rattle.base.specs.Least.{numbers_below}
use Rattle.std.specs.List.Sorted.{IsStrictlyIncreasing}
use Rattle.std.proofs.lemmas.List.Kept.{IsStrictlyIncreasing-filter}
use Rattle.std.proofs.lemmas.List.Sums.{get_or-le-sum_by}
use Rattle.base.specs.Among.{HasNumbersOf, is_among}
use Rattle.base.proofs.Among.{among_from, from_among, same_from_numbers, same_members}
use Rattle.base.proofs.Order.{Contains-filter, passes_filter}
use Rattle.meaning.proofs.ListedLocates.{numbers_rise, locates_agree}
use Rattle.buckets.specs.Plans.{rising, selection_of}
use Rattle.probe.specs.Selection.{admits, has_kind, has_time}
use Rattle.row_types.specs.declared.trade.Sale.{Sale}
use Rattle.time_and_sales.specs.Names.{DirectoryRow, name_of}
use Rattle.meaning.specs.Meaning.{Meaning}
use Rattle.answers.specs.Answers.{asks_for}

pub numbers_more : {X : Type 0} (f : ℕ → X) (n : ℕ) → map f (numbers_below (n + 1)) ≡ map f (numbers_below n) ++ f n ∷ []
numbers_more f n = map-range_with_len_more f 0 n n (omega arith)

pub ruleset numbering = (map_push, numbers_more)

module _ {X Y A : Type 0} (f : X → List A) (v : Y → X) (ys : List Y) (i : ℕ) {rows : List A} where
  -- those of the items so far, and those of one item more; `v` is what an item shows
  pub gathered_more : (y : Y) {more all : List A} → i < length ys → y ≡ get_or ys i y → rows ≡ flat_map (λ y. f (v y)) (take i ys)
      → more ≡ f (v y) → all ≡ rows ++ more → all ≡ flat_map (λ y. f (v y)) (take (i + 1) ys)
  gathered_more y lt item so_far more all =
      all ∙ ap₂ (λ a b. a ++ b) so_far more ∙ flat_map_more (λ y. f (v y)) [] (take i ys) y
      ∙ ap (flat_map (λ y. f (v y))) (ap (λ y. take i ys ++ y ∷ []) item ∙ sym (take_more ys i y lt))

  -- those of all items
  pub gathered_all : length ys ≤ i → rows ≡ flat_map (λ y. f (v y)) (take i ys) → rows ≡ flat_map f (map v ys)
  gathered_all ended so_far = so_far ∙ ap (flat_map (λ y. f (v y))) (take_all i ys ended) ∙ sym (flat_map-map f v ys)

below_has : (n k : ℕ) → k < n → Contains (numbers_below n) k
below_has n k below = (k, omega (arith, below, length-range_with_len 0 n), omega (arith, get_or-range_with_len 0 n k k below))

pub rising_among : (xs : List ℕ) (k : ℕ) → is_among (rising xs) k ≡ is_among xs k
rising_among xs k =
    same_members (rising xs) xs k (λ c. from_among xs k (passes_filter (is_among xs) (numbers_below (suc (sum xs))) k c))
    (λ c. Contains-filter (is_among xs) (numbers_below (suc (sum xs))) k
    (below_has (suc (sum xs)) k (omega (arith, get_or-le-sum_by (λ n. n) xs c.0 k c.1, c.2))) (among_from xs k c))

-- a rising list of their numbers is that one
pub rising_is : (xs numbers : List ℕ) → HasNumbersOf xs numbers → IsStrictlyIncreasing numbers → numbers ≡ rising xs
rising_is xs numbers has up =
    same_from_numbers numbers (rising xs) up (IsStrictlyIncreasing-filter (is_among xs) (numbers_below (suc (sum xs))) (numbers_rise (suc (sum xs))))
    (λ k. has k ∙ sym (rising_among xs k))

pub selection_agrees : (query : Meaning) (rows : List DirectoryRow) (sale : Sale) → sale.locate < 2 ^ 16
    → admits (selection_of query rows) sale ≡ asks_for query rows sale
selection_agrees query rows sale below =
    ap (λ b. b && (has_time query.span sale.time && has_kind query.kinds sale.kind)) (locates_agree Global query.symbols (name_of rows) sale.locate below)
