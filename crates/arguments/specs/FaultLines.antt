-- What the program reports of each fault: its line on standard error, and its status.
-- To be believed.
use Rattle.std.specs.Prelude.{ℕ, List, ◌∷◌, ◌++◌, codes}
use Rattle.std.specs.Fmt.{decimal}
use Rattle.outcomes.specs.declared.day_fault.DayFault.{DayFault}
use Rattle.outcomes.specs.declared.day_fault.DayFault.TheVariants as day
use Rattle.outcomes.specs.declared.run_fault.RunFault.{RunFault}
use Rattle.outcomes.specs.declared.run_fault.RunFault.TheVariants as run
use Rattle.base.specs.declared.limits.TheConstants.{MOST_MORSELS}
use Rattle.outcomes.specs.declared.query_fault.QueryFault.{QueryFault}
use Rattle.outcomes.specs.declared.query_fault.QueryFault.TheVariants as query

-- the text of a query's fault; a run that has no memory for the query reports no fault of the query, so the last of
-- these is never in a line
abbrev pub query_fault_text : QueryFault → List ℕ
query_fault_text (query.UnknownWord at) = codes "query byte " ++ decimal at ++ codes ": unknown word"
query_fault_text (query.BadNumber at) = codes "query byte " ++ decimal at ++ codes ": bad number"
query_fault_text (query.BadTime at) = codes "query byte " ++ decimal at ++ codes ": bad time"
query_fault_text (query.Repeated at) = codes "query byte " ++ decimal at ++ codes ": condition given twice"
query_fault_text query.Incomplete = codes "query ends too early"
query_fault_text query.EmptyRange = codes "query has an empty time range"
query_fault_text query.OutOfMemory = codes "out of memory"

-- the text of a day file's fault; a message's type is a letter, written as its one byte
abbrev pub day_fault_text : DayFault → List ℕ
day_fault_text (day.Truncated place) = codes "place " ++ decimal place ++ codes ": message runs past the end"
day_fault_text (day.WrongLength place kind length wanted) =
    codes "place " ++ decimal place ++ codes ": message " ++ kind ∷ codes " has length " ++ decimal length
    ++ codes ", not " ++ decimal wanted
day_fault_text (day.RepeatedReference place order_no) =
    codes "place " ++ decimal place ++ codes ": order reference " ++ decimal order_no ++ codes " was given before"
day_fault_text (day.UnknownReference place order_no) =
    codes "place " ++ decimal place ++ codes ": order reference " ++ decimal order_no ++ codes " is not known"

-- the status and the text that are reported of each fault
abbrev pub report_of : RunFault → ℕ × List ℕ
report_of (run.Query fault) = (2, query_fault_text fault)
report_of run.ReadFailed = (4, codes "reading failed")
report_of (run.TooLong limit) = (1, codes "file is longer than " ++ decimal limit ++ codes " bytes")
report_of run.TooManyMorsels = (2, codes "more than " ++ decimal MOST_MORSELS ++ codes " morsels")
report_of (run.Day fault) = (1, day_fault_text fault)
report_of (run.WriteFailed written) = (5, codes "writing failed after " ++ decimal written ++ codes " bytes")
report_of run.OutOfMemory = (3, codes "out of memory")

-- a fault's status
abbrev pub status_of : RunFault → ℕ
status_of fault = (report_of fault).0

-- a fault's line, with its line feed
abbrev pub line_of : RunFault → List ℕ
line_of fault = codes "fault: " ++ (report_of fault).1 ++ codes "\n"
