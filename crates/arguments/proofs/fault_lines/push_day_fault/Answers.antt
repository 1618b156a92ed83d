use Rattle.std.proofs.Common.{codes}
use Rattle.std.specs.Fmt.{decimal}
use Rattle.arguments.proofs.LineParts.{one_number, two_lengths, two_more}
use Rattle.arguments.proofs.fault_lines.push_day_fault.Goals as goal

pub returns-in-Truncated-clause-items : goal.returns-in-Truncated-clause-items
returns-in-Truncated-clause-items c = rw c.in-Truncated.is (one_number c.args.line.now.items
    (codes "place ") (decimal c.in-Truncated.place) (codes ": message runs past the end") _
    c.push_number.ensures.items)

pub returns-in-WrongLength-clause-items : goal.returns-in-WrongLength-clause-items
returns-in-WrongLength-clause-items c = rw c.in-WrongLength.is (two_lengths c.args.line.now.items
    (codes "place ") (decimal c.in-WrongLength.place) (codes ": message ") c.in-WrongLength.kind
    (codes " has length ") (decimal c.in-WrongLength.length) (codes ", not ") (decimal c.in-WrongLength.wanted)
    _ _ _ _ c.push_number-in-WrongLength.ensures.items c.push.ensures.items
    c.push_number-in-WrongLength-2.ensures.items c.push_decimal.ensures.items)

pub returns-in-RepeatedReference-clause-items : goal.returns-in-RepeatedReference-clause-items
returns-in-RepeatedReference-clause-items c = rw c.in-RepeatedReference.is (two_more c.args.line.now.items
    (codes "place ") (decimal c.in-RepeatedReference.place) (codes ": order reference ")
    (decimal c.in-RepeatedReference.order_no) (codes " was given before") _ _ _
    c.push_number-in-RepeatedReference.ensures.items c.push_decimal-in-RepeatedReference.ensures.items c.push_text.ensures.items)

pub returns-in-UnknownReference-clause-items : goal.returns-in-UnknownReference-clause-items
returns-in-UnknownReference-clause-items c = rw c.in-UnknownReference.is (two_more c.args.line.now.items
    (codes "place ") (decimal c.in-UnknownReference.place) (codes ": order reference ")
    (decimal c.in-UnknownReference.order_no) (codes " is not known") _ _ _
    c.push_number-in-UnknownReference.ensures.items c.push_decimal-in-UnknownReference.ensures.items
    c.push_text-in-UnknownReference.ensures.items)
