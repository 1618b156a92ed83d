use Rattle.std.proofs.Common.{length, ap, refl, subst, arith}
use Rattle.cutting.specs.Cutting.{IsCutFault}
use Rattle.streaming.proofs.batches.last_batch.Goals as goal

pub returns-then-first-count-gt-MOST_MORSELS-clause-fault : goal.returns-then-first-count-gt-MOST_MORSELS-clause-fault
returns-then-first-count-gt-MOST_MORSELS-clause-fault c = λ fed has.
    (c.in-Ok.cut, c.in-Ok.ensures.cut fed has, omega (arith, c.if-first-count-gt-MOST_MORSELS.true, c.count.ensures.count))

pub invariant_of-result : goal.invariant_of-result
invariant_of-result c =
    let (fed, has, within) = c.requires.within in record {
      few = omega (arith, c.if-first-count-gt-MOST_MORSELS.false, c.count.ensures.count);
      within = omega (arith, within, ap length (c.in-Ok.ensures.cut fed has).cut.joined);
    }

pub overflow_add-result : goal.overflow_add-result
overflow_add-result c =
    let (fed, has, within) = c.requires.within in
    let told = subst (IsCutFault c.args.cutter.target fed) c.in-Err-Truncated.field-0-is (c.in-Err-Truncated.ensures.fault fed has) in
    omega (arith, told.within, within)

pub unreachable-requires : goal.unreachable-requires
unreachable-requires c =
    let (fed, has, within) = c.requires.within in
    (subst (IsCutFault c.args.cutter.target fed) c.in-Err-NotABoundary.field-0-is (c.in-Err-NotABoundary.ensures.fault fed has)).1

pub returns-in-Err-Truncated-clause-fault : goal.returns-in-Err-Truncated-clause-fault
returns-in-Err-Truncated-clause-fault c = λ fed has.
    let told = subst (IsCutFault c.args.cutter.target fed) c.in-Err-Truncated.field-0-is (c.in-Err-Truncated.ensures.fault fed has) in
    (c.in-Err-Truncated.place, told, refl)

pub returns-in-Err-TooManyMorsels-clause-fault : goal.returns-in-Err-TooManyMorsels-clause-fault
returns-in-Err-TooManyMorsels-clause-fault c = λ fed has.
    let told = subst (IsCutFault c.args.cutter.target fed) c.in-Err-TooManyMorsels.field-0-is (c.in-Err-TooManyMorsels.ensures.fault fed has) in
    (told.0, told.1, omega (arith, told.2))
