use Rattle.std.proofs.Common.{◌≡◌, ◌<◌, ◌+◌, length, take, arith, length-take}
use Rattle.std.proofs.lemmas.List.{length-take-le}
use Rattle.std.proofs.lemmas.List.Elements.{All-take}
use Rattle.day_file.proofs.Kept.{bytes_of_type}
use Rattle.block_scan.proofs.Filled.{gave_last}
use Rattle.block_scan.proofs.block_reading.read_some.Goals as goal

pub returns-then-place-count-clause-fault : goal.returns-then-place-count-clause-fault
returns-then-place-count-clause-fault g c =
    let count = c.in_ok-count.count in
    let into = c.read_at.new.into in
    let told = c.in_ok-count.ensures in
    let n : length (take count into) ≡ count = length-take-le count into told.count in
    let long : c.args.place + length (take count into) ≡ c.args.limit + 1 =
    omega (arith, n, c.if-place-count.true, told.count, told.len, c.min-room.ensures, c.requires.place, length-take c.min-room.result c.args.into.now) in
    gave_last g.S.BlockSource.GaveAt g.met.S.BlockSource.gave_back c.args.source.now c.args.limit c.args.place (take count into) c.requires.place long told.gave

pub returns-clause-bytes : goal.returns-clause-bytes
returns-clause-bytes g c = All-take (λ byte. byte < 256) c.in_ok-count.count _ (bytes_of_type _ c.type_inv.into)
