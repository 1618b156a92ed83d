use Rattle.std.proofs.Common.{◌≡◌, ◌<◌, ◌^◌, take}
use Rattle.query.specs.Values.{number_from}
use Rattle.query.proofs.values.number_from.Given as goal

abbrev pub invariant-loop-digit : goal.invariant-loop-digit
invariant-loop-digit l =
    record {
      value : l.value ≡ number_from (take l.digit-index l.digits);
      small : l.value < 10 ^ l.digit-index;
    }
