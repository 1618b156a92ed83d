use Rattle.std.proofs.Common.{◌≡◌, codes, length, true}
use Rattle.query.specs.Faults.{read_from, linked}
use Rattle.query.specs.Words.{lists_symbols}
use Rattle.query.proofs.parsing.QueryBuilder.read_filter.Given as goal

abbrev pub invariant-loop-self : goal.invariant-loop-self
invariant-loop-self g l =
    record {
      outcome : read_from (linked (codes "where") l.fn.self) l.fn.words ≡ read_from (linked l.link l.self) l.words;
      listed : lists_symbols l.words ≡ true → lists_symbols l.fn.words ≡ true;
    }

abbrev pub decreases-loop-self : goal.decreases-loop-self
decreases-loop-self g l = length l.words
