-- What is known of a source after it was read in order.
-- To be believed.
use Rattle.std.specs.Prelude.{◌≡◌, ℕ, ◌<◌, ◌≤◌, ◌⊎◌, List, length}
use Rattle.base.specs.declared.limits.TheConstants.{MOST_MORSELS}
use Rattle.cutting.specs.Cutting.{IsCutBy}
use Rattle.day_file.specs.Frames.{IsTruncatedAt}
use Rattle.day_file.specs.Sources.{Reading}
use Rattle.sources.specs.Given.{GaveAll, GaveMore, GaveSome}
use Rattle.sources.specs.declared.source.Source.{Ghosts as SourceOf}

-- what is known of a source S that is read in order, and whose bytes are cut by the target, from its states before
-- and after. `all` says of bytes that it gave them up to its end, within the limit; `answerable`, that they are
-- truncated or have few enough morsels; `some` and `failed`, that it gave at most one byte more than the limit;
-- `longer`, that it gave that one; `too_many`, that all it gave has too many morsels; `untouched`, that its state is
-- the same. That a call failed is a clause of its own: `failed` of `next_batch`, `read_failed` of `run`.
abbrev pub of_stream : {S : Type 0} → SourceOf S → ℕ → ℕ → S → S → Reading
of_stream stream limit target before after = record {
  all = GaveAll stream limit before after;
  answerable = λ day. ((place : ℕ) × IsTruncatedAt day place)
      ⊎ ((runs : List (List ℕ)) × IsCutBy target runs day × (length runs ≤ MOST_MORSELS));
  some = GaveSome stream limit before after;
  longer = GaveMore stream limit before after;
  failed = GaveSome stream limit before after;
  too_many = (day : List ℕ) × GaveAll stream limit before after day
      × ((runs : List (List ℕ)) × IsCutBy target runs day × (MOST_MORSELS < length runs));
  untouched = after ≡ before;
}
