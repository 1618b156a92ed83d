use Rattle.std.proofs.Common.{codes}
use Rattle.std.specs.Fmt.{decimal}
use Rattle.base.specs.declared.limits.TheConstants.{MOST_MORSELS}
use Rattle.arguments.proofs.LineParts.{one_number}
use Rattle.arguments.proofs.fault_lines.push_fault.Goals as goal

pub returns-in-TooLong-clause-items : goal.returns-in-TooLong-clause-items
returns-in-TooLong-clause-items c = rw c.in-TooLong.is (one_number c.args.line.now.items
    (codes "file is longer than ") (decimal c.in-TooLong.limit) (codes " bytes") _ c.push_number.ensures.items)

pub returns-in-TooManyMorsels-clause-items : goal.returns-in-TooManyMorsels-clause-items
returns-in-TooManyMorsels-clause-items c = rw c.in-TooManyMorsels.is (one_number c.args.line.now.items
    (codes "more than ") (decimal MOST_MORSELS) (codes " morsels") _ (rw c.from.ensures at c.push_number-in-TooManyMorsels.ensures.items))

pub returns-in-WriteFailed-clause-items : goal.returns-in-WriteFailed-clause-items
returns-in-WriteFailed-clause-items c = rw c.in-WriteFailed.is (one_number c.args.line.now.items
    (codes "writing failed after ") (decimal c.in-WriteFailed.written) (codes " bytes") _
    c.push_number-in-WriteFailed.ensures.items)
