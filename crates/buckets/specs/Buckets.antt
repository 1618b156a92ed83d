-- What is found in buckets, which may be worked on together, and which are equal.
-- To be believed of a crate used by itself: the answer isn't defined by buckets.
use Rattle.std.specs.Prelude.{◌≡◌, Bool, ◌==◌, ◌&&◌, List, All, length, map, nat_eq}
use Rattle.std.specs.Cmp.{IsEquivalence}
use Rattle.std.specs.Cmp.Lexicographic.{pointwise}
use Rattle.std.proofs.Common.{arith}
use Rattle.std.proofs.lemmas.Bool.Decides.{nat_tests}
use Rattle.base.proofs.Exact.{IsExact, exact_equiv, exact_list, exact_nat}
use Rattle.base.specs.Least.{numbers_below}
use Rattle.probe.specs.Selection.{admits}
use Rattle.meaning.specs.declared.query.What.{What}
use Rattle.morsel_rows.specs.Partitions.{joined_partitions}
use Rattle.morsel_rows.specs.SameRows.{exact_partition, is_same_partition}
use Rattle.buckets.specs.BucketRows.{BucketView}
use Rattle.buckets.specs.FoundRows.{FoundView, TotalView, all_found, found_of}
use Rattle.buckets.specs.SameQuestions.{exact_selection, exact_what, is_same_selection, is_same_what}

-- the value of a bucket
abbrev pub found : BucketView → FoundView
found bucket = found_of bucket.what bucket.breaks (admits bucket.selection) (joined_partitions bucket.rows)

-- the total of buckets
abbrev pub total_found : List BucketView → TotalView
total_found buckets = all_found (map found buckets)

-- buckets that may be worked on together: numbered from 0 in order, and of one query
pub record AreNumbered (buckets : List BucketView) : Type 0 where
  pub numbers : map (λ bucket. bucket.number) buckets ≡ numbers_below (length buckets)
  pub what : What
  pub one : All (λ bucket. bucket.what ≡ what) buckets

-- both have the same number and the same rows, morsel by morsel, and the same is asked of them
abbrev pub is_same_bucket : BucketView → BucketView → Bool
is_same_bucket a b =
    (a.number == b.number)
    && (pointwise is_same_partition a.rows b.rows
    && (pointwise nat_eq a.breaks b.breaks
    && (is_same_selection a.selection b.selection && is_same_what a.what b.what)))

-- ---- equal buckets are one

pub exact_bucket : IsExact is_same_bucket
exact_bucket =
    let rows = exact_list exact_partition in
    let breaks = exact_list exact_nat in
    let selection = exact_selection in
    record {
      itself = λ a. grind (arith, nat_tests, rows.itself, breaks.itself, selection.itself, exact_what.itself);
      one = λ a b h. grind (arith, nat_tests, rows.one, breaks.one, selection.one, exact_what.one);
    }

pub bucket_equiv : IsEquivalence is_same_bucket
bucket_equiv = exact_equiv exact_bucket
