use Rattle.std.proofs.Common.{arith, append_assoc}
use Rattle.std.proofs.lemmas.Bool.Decides.{nat_tests}
use Rattle.canonical_query.proofs.WriterIsCanonical.{joined_next}
use Rattle.canonical_query.proofs.writer.append_joined.Goals.{then-place-gt0+in_ok-push, else-place-gt0}
use Rattle.canonical_query.proofs.writer.append_joined.Goals as goal

pub loop-place-preserved : goal.loop-place-preserved
loop-place-preserved g c =
    let e = joined_next c.args.symbols.now c.loop-place.place c.index-symbols-place.result c.loop-place-test.true c.index-symbols-place.is in
    elim c.if-place-gt0.branch [
      | then-place-gt0+in_ok-push w ↦ grind (arith, nat_tests, append_assoc, e)
      | else-place-gt0 w ↦ grind (arith, nat_tests, append_assoc, e)
    ]
