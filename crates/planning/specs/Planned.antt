-- What the total of all morsels is linked to: its wrong length, or a bucket of each partition.
-- To be believed of a crate used by itself: the answer isn't defined by morsels and buckets.
use Rattle.std.specs.Prelude.{ℕ, List, map}
use Rattle.std.specs.List.{flat_map}
use Rattle.std.specs.Option.{option_map_or}
use Rattle.base.specs.Least.{numbers_below}
use Rattle.row_types.specs.declared.directory.DirectoryRow.{DirectoryRow}
use Rattle.meaning.specs.Meaning.{Meaning}
use Rattle.gathering.specs.declared.linked.Linked.{Linked}
use Rattle.gathering.specs.declared.linked.Linked.TheVariants.{Next, Halt}
use Rattle.morsel_rows.specs.Partitions.{MorselRowsView, partition_at}
use Rattle.scanning.specs.Scans.{ScanTotalView}
use Rattle.scanning.specs.declared.wrong.WrongLength.{WrongLength}
use Rattle.buckets.specs.BucketRows.{BucketView}
use Rattle.buckets.specs.Plans.{rising, selection_of}

-- the breaks of all morsels
abbrev pub all_breaks : List MorselRowsView → List ℕ
all_breaks morsels = flat_map (λ rows. rows.breaks) morsels

-- the directory rows of all morsels
abbrev pub all_directory : List MorselRowsView → List DirectoryRow
all_directory morsels = flat_map (λ rows. rows.directory) morsels

-- the bucket of this number
abbrev pub planned_bucket : Meaning → List MorselRowsView → ℕ → BucketView
planned_bucket query morsels number = record {
  number = number;
  rows = map (partition_at number) morsels;
  breaks = rising (all_breaks morsels);
  selection = selection_of query (all_directory morsels);
  what = query.what;
}

-- the buckets of `parts` partitions, in order
abbrev pub planned_buckets : Meaning → List MorselRowsView → ℕ → List BucketView
planned_buckets query morsels parts = map (planned_bucket query morsels) (numbers_below parts)

-- a query, and how many partitions there are
pub record LinkView : Type 0 where
  pub query : Meaning
  pub parts : ℕ

-- the buckets in order and the rows of the directory, or a wrong length
abbrev pub ToBuckets : Type 0
ToBuckets = Linked (List BucketView) (List DirectoryRow) WrongLength

-- what a total is linked to: its wrong length, if it has one, and else the buckets of its rows
abbrev pub linked_to : LinkView → ScanTotalView → ToBuckets
linked_to link total =
    option_map_or Halt total.wrong
    (Next (planned_buckets link.query total.morsels link.parts) (all_directory total.morsels))
