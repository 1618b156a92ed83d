use Rattle.std.proofs.Common.{◌≡◌, ◌++◌, true}
use Rattle.std.specs.List.{list_all}
use Rattle.meaning.specs.Meaning.{is_symbol}
use Rattle.query.specs.Words.{split_by}
use Rattle.query.proofs.CutAtSeparator.{after_part, left}
use Rattle.query.proofs.values.symbols_of.Given as goal

abbrev pub invariant-loop-rest : goal.invariant-loop-rest
invariant-loop-rest g l =
    record {
      read : l.items.items ++ after_part 44 l.rest ≡ split_by 44 l.fn.bytes;
      sound : list_all is_symbol l.items.items ≡ true;
    }

abbrev pub decreases-loop-rest : goal.decreases-loop-rest
decreases-loop-rest g l = left l.rest
