-- Worked rows.
-- `python3 check/test_definitions.py write` writes this file from crates/answer_cases/stdin.
use Rattle.std.proofs.Common.{[], ◌++◌, refl}
use Rattle.std.specs.Prelude.{codes}
use Rattle.proved_cases.proofs.Days.{attributed, broken, cross, executed, executed_at, named, order, replaced, trade}
use Rattle.proved_cases.proofs.Days.{at, hex, number, price, printable, reference, shares, stock, volume}
use Rattle.proved_cases.proofs.Told.{Prints, Reports, on_days, printed, reported}

-- ---- Sales

-- An empty day has no sales.
an_empty_day_has_no_sales : Prints (codes "sales")
    ([])
    (codes "time,symbol,kind,price,shares,number\n")
unfolding on_days
an_empty_day_has_no_sales = printed refl

-- An empty day has no bars.
an_empty_day_has_no_bars : Prints (codes "bars 1 m")
    ([])
    (codes "symbol,start,first,high,low,last,volume,trades,average\n")
unfolding on_days
an_empty_day_has_no_bars = printed refl

-- An execution has the price of its order, and the name of its locate.
an_execution_has_the_price_of_its_order_and_the_name_of_its_locate : Prints (codes "sales")
    (named (at 7 "00:00:00") (stock "MSFT")
    ++ order (at 7 "09:30:00") (reference 1) (price 4105000)
    ++ executed (at 7 "09:30:01.000000005") (reference 1) (shares 40) (number 9))
    (codes "time,symbol,kind,price,shares,number\n"
    ++ codes "09:30:01.000000005,MSFT,E,410.5000,40,9\n")
unfolding on_days
an_execution_has_the_price_of_its_order_and_the_name_of_its_locate = printed refl

-- A locate without a name is told by its number.
a_locate_without_a_name_is_told_by_its_number : Prints (codes "sales")
    (order (at 7 "09:30:00") (reference 1) (price 4105000)
    ++ executed (at 7 "09:30:01.000000005") (reference 1) (shares 40) (number 9))
    (codes "time,symbol,kind,price,shares,number\n"
    ++ codes "09:30:01.000000005,#7,E,410.5000,40,9\n")
unfolding on_days
a_locate_without_a_name_is_told_by_its_number = printed refl

-- Two executions of one order.
two_executions_of_one_order : Prints (codes "sales")
    (order (at 7 "09:30:00") (reference 1) (price 4105000)
    ++ executed (at 7 "09:30:01.000000005") (reference 1) (shares 40) (number 9)
    ++ executed (at 7 "09:30:01.000000005") (reference 1) (shares 60) (number 10))
    (codes "time,symbol,kind,price,shares,number\n"
    ++ codes "09:30:01.000000005,#7,E,410.5000,40,9\n"
    ++ codes "09:30:01.000000005,#7,E,410.5000,60,10\n")
unfolding on_days
two_executions_of_one_order = printed refl

-- Two executions of one order, of a locate with a name.
two_executions_of_one_order_of_a_locate_with_a_name : Prints (codes "sales")
    (named (at 7 "00:00:00") (stock "MSFT")
    ++ order (at 7 "09:30:00") (reference 1) (price 4105000)
    ++ executed (at 7 "09:30:01.000000005") (reference 1) (shares 40) (number 9)
    ++ executed (at 7 "09:30:01.000000005") (reference 1) (shares 60) (number 10))
    (codes "time,symbol,kind,price,shares,number\n"
    ++ codes "09:30:01.000000005,MSFT,E,410.5000,40,9\n"
    ++ codes "09:30:01.000000005,MSFT,E,410.5000,60,10\n")
unfolding on_days
two_executions_of_one_order_of_a_locate_with_a_name = printed refl

-- A replaced order has its new price by its new reference, and keeps the old one by its old.
a_replaced_order_has_its_new_price_by_its_new_reference_and_keeps_the_old_one_by_its_old : Prints (codes "sales")
    (named (at 7 "00:00:00") (stock "MSFT")
    ++ order (at 7 "09:30:00") (reference 1) (price 4105000)
    ++ replaced (at 7 "09:30:00") (reference 1) (reference 2) (price 4106000)
    ++ executed (at 7 "09:30:01.000000005") (reference 2) (shares 10) (number 11)
    ++ executed (at 7 "09:30:01.000000005") (reference 1) (shares 5) (number 12))
    (codes "time,symbol,kind,price,shares,number\n"
    ++ codes "09:30:01.000000005,MSFT,E,410.6000,10,11\n"
    ++ codes "09:30:01.000000005,MSFT,E,410.5000,5,12\n")
unfolding on_days
a_replaced_order_has_its_new_price_by_its_new_reference_and_keeps_the_old_one_by_its_old = printed refl

-- An execution with a price of its own counts if it is printable.
an_execution_with_a_price_of_its_own_counts_if_it_is_printable : Prints (codes "sales")
    (named (at 7 "00:00:00") (stock "MSFT")
    ++ order (at 7 "09:30:00") (reference 1) (price 4105000)
    ++ executed_at (at 7 "09:30:01.000000005") (reference 1) (shares 30) (number 13) (printable "Y") (price 4104000)
    ++ executed_at (at 7 "09:30:01.000000005") (reference 1) (shares 20) (number 14) (printable "N") (price 4103000))
    (codes "time,symbol,kind,price,shares,number\n"
    ++ codes "09:30:01.000000005,MSFT,C,410.4000,30,13\n")
unfolding on_days
an_execution_with_a_price_of_its_own_counts_if_it_is_printable = printed refl

-- No byte but Y is printable.
no_byte_but_y_is_printable : Prints (codes "sales")
    (executed_at (at 7 "09:30:01.000000005") (reference 1) (shares 30) (number 13) (printable "Y") (price 4104000)
    ++ executed_at (at 7 "09:30:01.000000005") (reference 1) (shares 20) (number 14) (printable "y") (price 4103000)
    ++ executed_at (at 7 "09:30:01.000000005") (reference 1) (shares 20) (number 15) (printable "X") (price 4103000)
    ++ executed_at (at 7 "09:30:01.000000005") (reference 1) (shares 20) (number 16) (printable "1") (price 4103000))
    (codes "time,symbol,kind,price,shares,number\n"
    ++ codes "09:30:01.000000005,#7,C,410.4000,30,13\n")
unfolding on_days
no_byte_but_y_is_printable = printed refl

-- A trade.
a_trade : Prints (codes "sales")
    (named (at 7 "00:00:00") (stock "MSFT")
    ++ trade (at 7 "09:30:01.000000005") (shares 50) (price 4105100) (number 15))
    (codes "time,symbol,kind,price,shares,number\n"
    ++ codes "09:30:01.000000005,MSFT,P,410.5100,50,15\n")
unfolding on_days
a_trade = printed refl

-- A cross without shares is none, and one may have more shares than four bytes hold.
a_cross_without_shares_is_none_and_one_may_have_more_shares_than_four_bytes_hold : Prints (codes "sales")
    (named (at 7 "00:00:00") (stock "MSFT")
    ++ cross (at 7 "09:30:01.000000005") (volume 0) (price 4105000) (number 16)
    ++ cross (at 7 "09:30:01.000000005") (volume 5000000000) (price 4105000) (number 17))
    (codes "time,symbol,kind,price,shares,number\n"
    ++ codes "09:30:01.000000005,MSFT,Q,410.5000,5000000000,17\n")
unfolding on_days
a_cross_without_shares_is_none_and_one_may_have_more_shares_than_four_bytes_hold = printed refl

-- No sale of any kind is listed that has no shares.
no_sale_of_any_kind_is_listed_that_has_no_shares : Prints (codes "sales")
    (order (at 7 "09:30:00") (reference 1) (price 4105000)
    ++ executed (at 7 "09:30:01.000000005") (reference 1) (shares 0) (number 9)
    ++ executed_at (at 7 "09:30:01.000000005") (reference 1) (shares 0) (number 10) (printable "Y") (price 4104000)
    ++ trade (at 7 "09:30:01.000000005") (shares 0) (price 4105100) (number 11)
    ++ cross (at 7 "09:30:01.000000005") (volume 0) (price 4105200) (number 12)
    ++ trade (at 7 "09:30:01.000000005") (shares 1) (price 4105300) (number 13))
    (codes "time,symbol,kind,price,shares,number\n"
    ++ codes "09:30:01.000000005,#7,P,410.5300,1,13\n")
unfolding on_days
no_sale_of_any_kind_is_listed_that_has_no_shares = printed refl

-- Breaks remove a sale before and one behind, and one of nothing changes nothing.
breaks_remove_a_sale_before_and_one_behind_and_one_of_nothing_changes_nothing : Prints (codes "sales")
    (named (at 7 "00:00:00") (stock "MSFT")
    ++ order (at 7 "09:30:00") (reference 1) (price 4105000)
    ++ executed (at 7 "09:30:01.000000005") (reference 1) (shares 40) (number 9)
    ++ broken (at 7 "09:30:00") (number 9)
    ++ broken (at 7 "09:30:00") (number 15)
    ++ trade (at 7 "09:30:01.000000005") (shares 50) (price 4105100) (number 15)
    ++ broken (at 7 "09:30:00") (number 99)
    ++ trade (at 7 "09:30:01.000000005") (shares 10) (price 4105200) (number 18))
    (codes "time,symbol,kind,price,shares,number\n"
    ++ codes "09:30:01.000000005,MSFT,P,410.5200,10,18\n")
unfolding on_days
breaks_remove_a_sale_before_and_one_behind_and_one_of_nothing_changes_nothing = printed refl

-- A break removes all sales of its number, crosses too.
a_break_removes_all_sales_of_its_number_crosses_too : Prints (codes "sales")
    (trade (at 7 "09:30:01.000000005") (shares 50) (price 4105100) (number 9)
    ++ cross (at 7 "09:30:01.000000005") (volume 60) (price 4105200) (number 9)
    ++ trade (at 7 "09:30:01.000000005") (shares 10) (price 4105200) (number 18)
    ++ broken (at 7 "09:30:00") (number 9))
    (codes "time,symbol,kind,price,shares,number\n"
    ++ codes "09:30:01.000000005,#7,P,410.5200,10,18\n")
unfolding on_days
a_break_removes_all_sales_of_its_number_crosses_too = printed refl

-- The last name of a locate is that of the whole day; a byte that can't be shown is a question mark.
the_last_name_of_a_locate_is_that_of_the_whole_day_a_byte_that_cant_be_shown_is_a_question_mark : Prints (codes "sales")
    (named (at 7 "00:00:00") (stock "MSFT")
    ++ order (at 7 "09:30:00") (reference 1) (price 4105000)
    ++ executed (at 7 "09:30:01.000000005") (reference 1) (shares 40) (number 9)
    ++ named (at 7 "00:00:00") (stock "AB CD"))
    (codes "time,symbol,kind,price,shares,number\n"
    ++ codes "09:30:01.000000005,AB?CD,E,410.5000,40,9\n")
unfolding on_days
the_last_name_of_a_locate_is_that_of_the_whole_day_a_byte_that_cant_be_shown_is_a_question_mark = printed refl

-- A name of another locate between them changes nothing.
a_name_of_another_locate_between_them_changes_nothing : Prints (codes "sales")
    (named (at 7 "00:00:00") (stock "MSFT")
    ++ order (at 7 "09:30:00") (reference 1) (price 4105000)
    ++ executed (at 7 "09:30:01.000000005") (reference 1) (shares 40) (number 9)
    ++ named (at 8 "00:00:00") (stock "ZVZZT")
    ++ named (at 7 "00:00:00") (stock "AB CD"))
    (codes "time,symbol,kind,price,shares,number\n"
    ++ codes "09:30:01.000000005,AB?CD,E,410.5000,40,9\n")
unfolding on_days
a_name_of_another_locate_between_them_changes_nothing = printed refl

-- Names: spaces at the end aren't told, those at the beginning and commas are question marks, and a name may be empty.
names_spaces_at_the_end_arent_told_those_at_the_beginning_and_commas_are_question_marks_and_a_name_may_be_empty : Prints (codes "sales")
    (named (at 1 "00:00:00") (stock " LEAD")
    ++ named (at 2 "00:00:00") (stock "A,B")
    ++ named (at 3 "00:00:00") (stock "")
    ++ named (at 4 "00:00:00") (stock "ÿZ\0")
    ++ named (at 5 "00:00:00") (stock "~!")
    ++ trade (at 1 "09:30:01.000000005") (shares 1) (price 10000) (number 1)
    ++ trade (at 2 "09:30:01.000000005") (shares 1) (price 10000) (number 2)
    ++ trade (at 3 "09:30:01.000000005") (shares 1) (price 10000) (number 3)
    ++ trade (at 4 "09:30:01.000000005") (shares 1) (price 10000) (number 4)
    ++ trade (at 5 "09:30:01.000000005") (shares 1) (price 10000) (number 5)
    ++ trade (at 65535 "09:30:01.000000005") (shares 1) (price 10000) (number 6))
    (codes "time,symbol,kind,price,shares,number\n"
    ++ codes "09:30:01.000000005,?LEAD,P,1.0000,1,1\n"
    ++ codes "09:30:01.000000005,A?B,P,1.0000,1,2\n"
    ++ codes "09:30:01.000000005,,P,1.0000,1,3\n"
    ++ codes "09:30:01.000000005,?Z?,P,1.0000,1,4\n"
    ++ codes "09:30:01.000000005,~!,P,1.0000,1,5\n"
    ++ codes "09:30:01.000000005,#65535,P,1.0000,1,6\n")
unfolding on_days
names_spaces_at_the_end_arent_told_those_at_the_beginning_and_commas_are_question_marks_and_a_name_may_be_empty = printed refl

-- An order with an attribution gives a reference, too.
an_order_with_an_attribution_gives_a_reference_too : Prints (codes "sales")
    (attributed (at 7 "09:30:00") (reference 3) (price 4105000)
    ++ executed (at 7 "09:30:01.000000005") (reference 3) (shares 1) (number 40))
    (codes "time,symbol,kind,price,shares,number\n"
    ++ codes "09:30:01.000000005,#7,E,410.5000,1,40\n")
unfolding on_days
an_order_with_an_attribution_gives_a_reference_too = printed refl

-- The latest time that six bytes hold.
the_latest_time_that_six_bytes_hold : Prints (codes "sales")
    (trade (at 7 "78:11:14.976710655") (shares 1) (price 10000) (number 61))
    (codes "time,symbol,kind,price,shares,number\n"
    ++ codes "78:11:14.976710655,#7,P,1.0000,1,61\n")
unfolding on_days
the_latest_time_that_six_bytes_hold = printed refl

-- Messages that aren't read, and empty ones, change nothing.
messages_that_arent_read_and_empty_ones_change_nothing : Prints (codes "sales")
    (hex "0000"
    ++ named (at 7 "00:00:00") (stock "MSFT")
    ++ hex "00015a"
    ++ order (at 7 "09:30:00") (reference 1) (price 4105000)
    ++ hex "000c530000000000000000000051"
    ++ hex "0000"
    ++ executed (at 7 "09:30:01.000000005") (reference 1) (shares 40) (number 9)
    ++ hex "0000")
    (codes "time,symbol,kind,price,shares,number\n"
    ++ codes "09:30:01.000000005,MSFT,E,410.5000,40,9\n")
unfolding on_days
messages_that_arent_read_and_empty_ones_change_nothing = printed refl

-- The least and the largest numbers.
the_least_and_the_largest_numbers : Prints (codes "sales")
    (order (at 7 "09:30:00") (reference 0) (price 0)
    ++ order (at 7 "09:30:00") (reference 18446744073709551615) (price 4294967295)
    ++ executed (at 7 "09:30:01.000000005") (reference 18446744073709551615) (shares 4294967295) (number 18446744073709551615)
    ++ executed (at 7 "09:30:01.000000005") (reference 0) (shares 1) (number 0))
    (codes "time,symbol,kind,price,shares,number\n"
    ++ codes "09:30:01.000000005,#7,E,429496.7295,4294967295,18446744073709551615\n"
    ++ codes "09:30:01.000000005,#7,E,0.0000,1,0\n")
unfolding on_days
the_least_and_the_largest_numbers = printed refl

-- ---- Faults of days

-- An order that lacks its last byte, behind an empty message and one of a type that isn't read.
an_order_that_lacks_its_last_byte_behind_an_empty_message_and_one_of_a_type_that_isnt_read : Reports (codes "sales")
    (named (at 7 "00:00:00") (stock "MSFT")
    ++ order (at 7 "09:30:00") (reference 1) (price 4105000)
    ++ hex "0000"
    ++ hex "00015a"
    ++ hex "002341000700001f1aced9f000000000000000000142000000644d53465420202020003ea3")
    (codes "fault: place 84: message A has length 35, not 36\n")
unfolding on_days
an_order_that_lacks_its_last_byte_behind_an_empty_message_and_one_of_a_type_that_isnt_read = reported refl

-- A byte that is left.
a_byte_that_is_left : Reports (codes "sales")
    (named (at 7 "00:00:00") (stock "MSFT")
    ++ hex "00")
    (codes "fault: place 41: message runs past the end\n")
unfolding on_days
a_byte_that_is_left = reported refl

-- A truncated day is told before a wrong length.
a_truncated_day_is_told_before_a_wrong_length : Reports (codes "sales")
    (hex "002341000700001f1aced9f000000000000000000142000000644d53465420202020003ea3"
    ++ hex "002430313233343536373839")
    (codes "fault: place 37: message runs past the end\n")
unfolding on_days
a_truncated_day_is_told_before_a_wrong_length = reported refl

-- Of two wrong lengths the first is told.
of_two_wrong_lengths_the_first_is_told : Reports (codes "sales")
    (hex "000145"
    ++ order (at 7 "09:30:00") (reference 1) (price 4105000)
    ++ hex "00024242")
    (codes "fault: place 0: message E has length 1, not 31\n")
unfolding on_days
of_two_wrong_lengths_the_first_is_told = reported refl

-- A wrong length is told before a repeated reference.
a_wrong_length_is_told_before_a_repeated_reference : Reports (codes "sales")
    (order (at 7 "09:30:00") (reference 1) (price 4105000)
    ++ order (at 7 "09:30:00") (reference 1) (price 4106000)
    ++ hex "000145")
    (codes "fault: place 76: message E has length 1, not 31\n")
unfolding on_days
a_wrong_length_is_told_before_a_repeated_reference = reported refl

-- A replace repeats a reference; it is told before one that isn't known.
a_replace_repeats_a_reference_it_is_told_before_one_that_isnt_known : Reports (codes "sales")
    (order (at 7 "09:30:00") (reference 1) (price 4105000)
    ++ executed (at 7 "09:30:01.000000005") (reference 5) (shares 1) (number 40)
    ++ replaced (at 7 "09:30:00") (reference 2) (reference 1) (price 4106000))
    (codes "fault: place 71: order reference 1 was given before\n")
unfolding on_days
a_replace_repeats_a_reference_it_is_told_before_one_that_isnt_known = reported refl

-- A reference that is given twice.
a_reference_that_is_given_twice : Reports (codes "sales")
    (order (at 7 "09:30:00") (reference 1) (price 4105000)
    ++ order (at 7 "09:30:00") (reference 1) (price 4106000))
    (codes "fault: place 38: order reference 1 was given before\n")
unfolding on_days
a_reference_that_is_given_twice = reported refl

-- An execution before its order.
an_execution_before_its_order : Reports (codes "sales")
    (executed (at 7 "09:30:01.000000005") (reference 1) (shares 40) (number 9)
    ++ order (at 7 "09:30:00") (reference 1) (price 4105000))
    (codes "fault: place 0: order reference 1 is not known\n")
unfolding on_days
an_execution_before_its_order = reported refl

-- What is broken or has no shares has to be known, too.
what_is_broken_or_has_no_shares_has_to_be_known_too : Reports (codes "sales")
    (executed (at 7 "09:30:01.000000005") (reference 1) (shares 0) (number 9)
    ++ broken (at 7 "09:30:00") (number 9))
    (codes "fault: place 0: order reference 1 is not known\n")
unfolding on_days
what_is_broken_or_has_no_shares_has_to_be_known_too = reported refl

-- What the query leaves out, too.
what_the_query_leaves_out_too : Reports (codes "sales where symbol in ZZZ")
    (executed (at 7 "09:30:01.000000005") (reference 1) (shares 40) (number 9)
    ++ order (at 7 "09:30:00") (reference 1) (price 4105000))
    (codes "fault: place 0: order reference 1 is not known\n")
unfolding on_days
what_the_query_leaves_out_too = reported refl

-- The references of a C, of a P and of what a U replaces needn't be known.
the_references_of_a_c_of_a_p_and_of_what_a_u_replaces_neednt_be_known : Prints (codes "sales")
    (executed_at (at 7 "09:30:01.000000005") (reference 5) (shares 30) (number 13) (printable "Y") (price 4104000)
    ++ replaced (at 7 "09:30:00") (reference 6) (reference 7) (price 4105000)
    ++ executed (at 7 "09:30:01.000000005") (reference 7) (shares 1) (number 14))
    (codes "time,symbol,kind,price,shares,number\n"
    ++ codes "09:30:01.000000005,#7,C,410.4000,30,13\n"
    ++ codes "09:30:01.000000005,#7,E,410.5000,1,14\n")
unfolding on_days
the_references_of_a_c_of_a_p_and_of_what_a_u_replaces_neednt_be_known = printed refl

-- A has 36 bytes.
a_has_36_bytes : Reports (codes "sales")
    (hex "002541"
    ++ hex "000000000000000000000000000000000000000000000000000000000000000000000000")
    (codes "fault: place 0: message A has length 37, not 36\n")
unfolding on_days
a_has_36_bytes = reported refl

-- F has 40 bytes.
f_has_40_bytes : Reports (codes "sales")
    (hex "002746"
    ++ hex "0000000000000000000000000000000000000000000000000000000000000000000000000000")
    (codes "fault: place 0: message F has length 39, not 40\n")
unfolding on_days
f_has_40_bytes = reported refl

-- E has 31 bytes.
e_has_31_bytes : Reports (codes "sales")
    (hex "001e45"
    ++ hex "0000000000000000000000000000000000000000000000000000000000")
    (codes "fault: place 0: message E has length 30, not 31\n")
unfolding on_days
e_has_31_bytes = reported refl

-- C has 36 bytes.
c_has_36_bytes : Reports (codes "sales")
    (hex "002543"
    ++ hex "000000000000000000000000000000000000000000000000000000000000000000000000")
    (codes "fault: place 0: message C has length 37, not 36\n")
unfolding on_days
c_has_36_bytes = reported refl

-- U has 35 bytes.
u_has_35_bytes : Reports (codes "sales")
    (hex "002455"
    ++ hex "0000000000000000000000000000000000000000000000000000000000000000000000")
    (codes "fault: place 0: message U has length 36, not 35\n")
unfolding on_days
u_has_35_bytes = reported refl

-- P has 44 bytes.
p_has_44_bytes : Reports (codes "sales")
    (hex "002d50"
    ++ hex "0000000000000000000000000000000000000000000000000000000000000000000000000000000000000000")
    (codes "fault: place 0: message P has length 45, not 44\n")
unfolding on_days
p_has_44_bytes = reported refl

-- Q has 40 bytes.
q_has_40_bytes : Reports (codes "sales")
    (hex "002751"
    ++ hex "0000000000000000000000000000000000000000000000000000000000000000000000000000")
    (codes "fault: place 0: message Q has length 39, not 40\n")
unfolding on_days
q_has_40_bytes = reported refl

-- B has 19 bytes.
b_has_19_bytes : Reports (codes "sales")
    (hex "001242"
    ++ hex "0000000000000000000000000000000000")
    (codes "fault: place 0: message B has length 18, not 19\n")
unfolding on_days
b_has_19_bytes = reported refl

-- R has 39 bytes.
r_has_39_bytes : Reports (codes "sales")
    (hex "002852"
    ++ hex "000000000000000000000000000000000000000000000000000000000000000000000000000000")
    (codes "fault: place 0: message R has length 40, not 39\n")
unfolding on_days
r_has_39_bytes = reported refl

-- Of several unknown references the one of least place is told.
of_several_unknown_references_the_one_of_least_place_is_told : Reports (codes "sales")
    (executed (at 7 "09:30:01.000000005") (reference 2) (shares 10) (number 11)
    ++ executed (at 7 "09:30:01.000000005") (reference 1) (shares 10) (number 12)
    ++ executed (at 7 "09:30:01.000000005") (reference 3) (shares 10) (number 13))
    (codes "fault: place 0: order reference 2 is not known\n")
unfolding on_days
of_several_unknown_references_the_one_of_least_place_is_told = reported refl

-- Of several repeated references the one of least place is told, before one that isn't known.
of_several_repeated_references_the_one_of_least_place_is_told_before_one_that_isnt_known : Reports (codes "sales")
    (executed (at 7 "09:30:01.000000005") (reference 3) (shares 10) (number 11)
    ++ order (at 7 "09:30:00") (reference 2) (price 4105000)
    ++ order (at 7 "09:30:00") (reference 1) (price 4105000)
    ++ order (at 7 "09:30:00") (reference 1) (price 4106000)
    ++ order (at 7 "09:30:00") (reference 2) (price 4106000))
    (codes "fault: place 109: order reference 1 was given before\n")
unfolding on_days
of_several_repeated_references_the_one_of_least_place_is_told_before_one_that_isnt_known = reported refl

-- Of several references that replaces repeat the one of least place is told.
of_several_references_that_replaces_repeat_the_one_of_least_place_is_told : Reports (codes "sales")
    (replaced (at 7 "09:30:00") (reference 9) (reference 3) (price 1)
    ++ replaced (at 7 "09:30:00") (reference 9) (reference 2) (price 1)
    ++ replaced (at 7 "09:30:00") (reference 9) (reference 4) (price 1)
    ++ replaced (at 7 "09:30:00") (reference 9) (reference 2) (price 2)
    ++ replaced (at 7 "09:30:00") (reference 9) (reference 3) (price 2))
    (codes "fault: place 111: order reference 2 was given before\n")
unfolding on_days
of_several_references_that_replaces_repeat_the_one_of_least_place_is_told = reported refl

-- ---- Bars

-- Trades at the last nanosecond of a minute, and at the first of the next.
trades_at_the_last_nanosecond_of_a_minute_and_at_the_first_of_the_next : Prints (codes "bars 1 m")
    (named (at 7 "00:00:00") (stock "MSFT")
    ++ trade (at 7 "09:30:59.999999999") (shares 100) (price 4105000) (number 21)
    ++ trade (at 7 "09:31:00") (shares 200) (price 4106000) (number 22))
    (codes "symbol,start,first,high,low,last,volume,trades,average\n"
    ++ codes "MSFT,09:30:00,410.5000,410.5000,410.5000,410.5000,100,1,410.5000+0/100\n"
    ++ codes "MSFT,09:31:00,410.6000,410.6000,410.6000,410.6000,200,1,410.6000+0/200\n")
unfolding on_days
trades_at_the_last_nanosecond_of_a_minute_and_at_the_first_of_the_next = printed refl

-- An average that isn't a whole number of ten-thousandths.
an_average_that_isnt_a_whole_number_of_ten_thousandths : Prints (codes "bars 1 m")
    (named (at 7 "00:00:00") (stock "MSFT")
    ++ trade (at 7 "09:30:01.000000005") (shares 1) (price 100001) (number 31)
    ++ trade (at 7 "09:30:01.000000005") (shares 1) (price 100000) (number 32)
    ++ trade (at 7 "09:30:01.000000005") (shares 1) (price 100000) (number 33))
    (codes "symbol,start,first,high,low,last,volume,trades,average\n"
    ++ codes "MSFT,09:30:00,10.0001,10.0001,10.0000,10.0000,3,3,10.0000+1/3\n")
unfolding on_days
an_average_that_isnt_a_whole_number_of_ten_thousandths = printed refl

-- An average is rounded down, whatever its rest.
an_average_is_rounded_down_whatever_its_rest : Prints (codes "bars 1 m")
    (named (at 7 "00:00:00") (stock "MSFT")
    ++ trade (at 7 "09:30:01.000000005") (shares 1) (price 100001) (number 31)
    ++ trade (at 7 "09:30:01.000000005") (shares 2) (price 100001) (number 32)
    ++ trade (at 7 "09:30:01.000000005") (shares 1) (price 100000) (number 33))
    (codes "symbol,start,first,high,low,last,volume,trades,average\n"
    ++ codes "MSFT,09:30:00,10.0001,10.0001,10.0000,10.0000,4,3,10.0000+3/4\n")
unfolding on_days
an_average_is_rounded_down_whatever_its_rest = printed refl

-- A fraction isn't reduced.
a_fraction_isnt_reduced : Prints (codes "bars 1 m")
    (named (at 7 "00:00:00") (stock "MSFT")
    ++ trade (at 7 "09:30:01.000000005") (shares 2) (price 100001) (number 31)
    ++ trade (at 7 "09:30:01.000000005") (shares 2) (price 100000) (number 32))
    (codes "symbol,start,first,high,low,last,volume,trades,average\n"
    ++ codes "MSFT,09:30:00,10.0001,10.0001,10.0000,10.0000,4,2,10.0000+2/4\n")
unfolding on_days
a_fraction_isnt_reduced = printed refl

-- The most shares at the highest price, twice.
the_most_shares_at_the_highest_price_twice : Prints (codes "bars 1 m")
    (named (at 7 "00:00:00") (stock "MSFT")
    ++ cross (at 7 "09:30:01.000000005") (volume 18446744073709551615) (price 4294967295) (number 51)
    ++ cross (at 7 "09:30:01.000000005") (volume 18446744073709551615) (price 4294967295) (number 52))
    (codes "symbol,start,first,high,low,last,volume,trades,average\n"
    ++ codes "MSFT,09:30:00,429496.7295,429496.7295,429496.7295,429496.7295,36893488147419103230,2,429496.7295+0/36893488147419103230\n")
unfolding on_days
the_most_shares_at_the_highest_price_twice = printed refl

-- Two locates of one name have bars of their own.
two_locates_of_one_name_have_bars_of_their_own : Prints (codes "bars 1 m")
    (named (at 7 "00:00:00") (stock "MSFT")
    ++ named (at 8 "00:00:00") (stock "MSFT")
    ++ trade (at 7 "09:30:01.000000005") (shares 1) (price 10000) (number 71)
    ++ trade (at 8 "09:30:01.000000005") (shares 2) (price 20000) (number 72))
    (codes "symbol,start,first,high,low,last,volume,trades,average\n"
    ++ codes "MSFT,09:30:00,1.0000,1.0000,1.0000,1.0000,1,1,1.0000+0/1\n"
    ++ codes "MSFT,09:30:00,2.0000,2.0000,2.0000,2.0000,2,1,2.0000+0/2\n")
unfolding on_days
two_locates_of_one_name_have_bars_of_their_own = printed refl

-- Bars are by locate, and then by start.
bars_are_by_locate_and_then_by_start : Prints (codes "bars 1 m")
    (trade (at 9 "09:32:00") (shares 1) (price 10000) (number 1)
    ++ trade (at 8 "09:31:00") (shares 1) (price 20000) (number 2)
    ++ trade (at 9 "09:30:00") (shares 1) (price 30000) (number 3))
    (codes "symbol,start,first,high,low,last,volume,trades,average\n"
    ++ codes "#8,09:31:00,2.0000,2.0000,2.0000,2.0000,1,1,2.0000+0/1\n"
    ++ codes "#9,09:30:00,3.0000,3.0000,3.0000,3.0000,1,1,3.0000+0/1\n"
    ++ codes "#9,09:32:00,1.0000,1.0000,1.0000,1.0000,1,1,1.0000+0/1\n")
unfolding on_days
bars_are_by_locate_and_then_by_start = printed refl

-- First and last are by place, not by time.
first_and_last_are_by_place_not_by_time : Prints (codes "bars 1 m")
    (trade (at 7 "09:30:03") (shares 1) (price 30000) (number 1)
    ++ trade (at 7 "09:30:02") (shares 1) (price 10000) (number 2)
    ++ trade (at 7 "09:30:01") (shares 1) (price 20000) (number 3))
    (codes "symbol,start,first,high,low,last,volume,trades,average\n"
    ++ codes "#7,09:30:00,3.0000,3.0000,1.0000,2.0000,3,3,2.0000+0/3\n")
unfolding on_days
first_and_last_are_by_place_not_by_time = printed refl

-- First and last are by place, whatever partition their orders are in.
first_and_last_are_by_place_whatever_partition_their_orders_are_in : Prints (codes "bars 1 m")
    (named (at 7 "00:00:00") (stock "MSFT")
    ++ order (at 7 "09:30:00") (reference 3) (price 4105000)
    ++ order (at 7 "09:30:00") (reference 1) (price 4107000)
    ++ order (at 7 "09:30:00") (reference 2) (price 4103000)
    ++ executed (at 7 "09:30:01.000000005") (reference 3) (shares 10) (number 11)
    ++ executed (at 7 "09:30:01.000000005") (reference 1) (shares 20) (number 12)
    ++ executed (at 7 "09:30:01.000000005") (reference 2) (shares 30) (number 13)
    ++ trade (at 7 "09:30:01.000000005") (shares 40) (price 4106000) (number 14))
    (codes "symbol,start,first,high,low,last,volume,trades,average\n"
    ++ codes "MSFT,09:30:00,410.5000,410.7000,410.3000,410.6000,100,4,410.5200+0/100\n")
unfolding on_days
first_and_last_are_by_place_whatever_partition_their_orders_are_in = printed refl

-- Only what is asked for has bars.
only_what_is_asked_for_has_bars : Prints (codes "bars 1 m where kind in C")
    (named (at 7 "00:00:00") (stock "MSFT")
    ++ order (at 7 "09:30:00") (reference 1) (price 4105000)
    ++ executed (at 7 "09:30:01.000000005") (reference 1) (shares 40) (number 9))
    (codes "symbol,start,first,high,low,last,volume,trades,average\n")
unfolding on_days
only_what_is_asked_for_has_bars = printed refl

-- A name that isn't there is asked for by its number.
a_name_that_isnt_there_is_asked_for_by_its_number : Prints (codes "bars 1 m where symbol in #7")
    (order (at 7 "09:30:00") (reference 1) (price 4105000)
    ++ executed (at 7 "09:30:01.000000005") (reference 1) (shares 40) (number 9))
    (codes "symbol,start,first,high,low,last,volume,trades,average\n"
    ++ codes "#7,09:30:00,410.5000,410.5000,410.5000,410.5000,40,1,410.5000+0/40\n")
unfolding on_days
a_name_that_isnt_there_is_asked_for_by_its_number = printed refl

-- A bar of a day, and a time behind it.
a_bar_of_a_day_and_a_time_behind_it : Prints (codes "bars 24 h")
    (trade (at 7 "23:59:59.999999999") (shares 1) (price 10000) (number 1)
    ++ trade (at 7 "24:00:00") (shares 2) (price 10000) (number 2))
    (codes "symbol,start,first,high,low,last,volume,trades,average\n"
    ++ codes "#7,00:00:00,1.0000,1.0000,1.0000,1.0000,1,1,1.0000+0/1\n"
    ++ codes "#7,24:00:00,1.0000,1.0000,1.0000,1.0000,2,1,1.0000+0/2\n")
unfolding on_days
a_bar_of_a_day_and_a_time_behind_it = printed refl

-- Bars begin at multiples of their width: 34,209 is 4,887 times seven.
bars_begin_at_multiples_of_their_width_34_209_is_4_887_times_seven : Prints (codes "bars 7 s")
    (trade (at 7 "09:30:08.999999999") (shares 1) (price 10000) (number 1)
    ++ trade (at 7 "09:30:09") (shares 2) (price 10000) (number 2))
    (codes "symbol,start,first,high,low,last,volume,trades,average\n"
    ++ codes "#7,09:30:02,1.0000,1.0000,1.0000,1.0000,1,1,1.0000+0/1\n"
    ++ codes "#7,09:30:09,1.0000,1.0000,1.0000,1.0000,2,1,1.0000+0/2\n")
unfolding on_days
bars_begin_at_multiples_of_their_width_34_209_is_4_887_times_seven = printed refl

-- ---- What is asked for

-- Symbol, span and kind together.
symbol_span_and_kind_together : Prints (codes "sales where symbol in MSFT and time from 09:31:00 until 24:00:00 and kind in P")
    (named (at 7 "00:00:00") (stock "MSFT")
    ++ trade (at 7 "09:30:59.999999999") (shares 100) (price 4105000) (number 21)
    ++ trade (at 7 "09:31:00") (shares 200) (price 4106000) (number 22))
    (codes "time,symbol,kind,price,shares,number\n"
    ++ codes "09:31:00.000000000,MSFT,P,410.6000,200,22\n")
unfolding on_days
symbol_span_and_kind_together = printed refl

-- A span has its beginning and lacks its end.
a_span_has_its_beginning_and_lacks_its_end : Prints (codes "sales where time from 09:30:00 until 09:31:00")
    (named (at 7 "00:00:00") (stock "MSFT")
    ++ trade (at 7 "09:30:59.999999999") (shares 100) (price 4105000) (number 21)
    ++ trade (at 7 "09:31:00") (shares 200) (price 4106000) (number 22))
    (codes "time,symbol,kind,price,shares,number\n"
    ++ codes "09:30:59.999999999,MSFT,P,410.5000,100,21\n")
unfolding on_days
a_span_has_its_beginning_and_lacks_its_end = printed refl

-- Executions at their order's price alone.
executions_at_their_orders_price_alone : Prints (codes "sales where kind in E")
    (attributed (at 7 "09:30:00") (reference 1) (price 4105000)
    ++ replaced (at 7 "09:30:00") (reference 1) (reference 2) (price 4106000)
    ++ executed (at 7 "09:30:01.000000005") (reference 2) (shares 10) (number 11)
    ++ executed_at (at 7 "09:30:01.000000005") (reference 2) (shares 30) (number 13) (printable "Y") (price 4104000)
    ++ trade (at 7 "09:30:01.000000005") (shares 50) (price 4105100) (number 15)
    ++ cross (at 7 "09:30:01.000000005") (volume 60) (price 4105200) (number 16))
    (codes "time,symbol,kind,price,shares,number\n"
    ++ codes "09:30:01.000000005,#7,E,410.6000,10,11\n")
unfolding on_days
executions_at_their_orders_price_alone = printed refl

-- Executions with a price of their own alone.
executions_with_a_price_of_their_own_alone : Prints (codes "sales where kind in C")
    (attributed (at 7 "09:30:00") (reference 1) (price 4105000)
    ++ replaced (at 7 "09:30:00") (reference 1) (reference 2) (price 4106000)
    ++ executed (at 7 "09:30:01.000000005") (reference 2) (shares 10) (number 11)
    ++ executed_at (at 7 "09:30:01.000000005") (reference 2) (shares 30) (number 13) (printable "Y") (price 4104000)
    ++ trade (at 7 "09:30:01.000000005") (shares 50) (price 4105100) (number 15)
    ++ cross (at 7 "09:30:01.000000005") (volume 60) (price 4105200) (number 16))
    (codes "time,symbol,kind,price,shares,number\n"
    ++ codes "09:30:01.000000005,#7,C,410.4000,30,13\n")
unfolding on_days
executions_with_a_price_of_their_own_alone = printed refl

-- Trades alone.
trades_alone : Prints (codes "sales where kind in P")
    (attributed (at 7 "09:30:00") (reference 1) (price 4105000)
    ++ replaced (at 7 "09:30:00") (reference 1) (reference 2) (price 4106000)
    ++ executed (at 7 "09:30:01.000000005") (reference 2) (shares 10) (number 11)
    ++ executed_at (at 7 "09:30:01.000000005") (reference 2) (shares 30) (number 13) (printable "Y") (price 4104000)
    ++ trade (at 7 "09:30:01.000000005") (shares 50) (price 4105100) (number 15)
    ++ cross (at 7 "09:30:01.000000005") (volume 60) (price 4105200) (number 16))
    (codes "time,symbol,kind,price,shares,number\n"
    ++ codes "09:30:01.000000005,#7,P,410.5100,50,15\n")
unfolding on_days
trades_alone = printed refl

-- Crosses alone.
crosses_alone : Prints (codes "sales where kind in Q")
    (attributed (at 7 "09:30:00") (reference 1) (price 4105000)
    ++ replaced (at 7 "09:30:00") (reference 1) (reference 2) (price 4106000)
    ++ executed (at 7 "09:30:01.000000005") (reference 2) (shares 10) (number 11)
    ++ executed_at (at 7 "09:30:01.000000005") (reference 2) (shares 30) (number 13) (printable "Y") (price 4104000)
    ++ trade (at 7 "09:30:01.000000005") (shares 50) (price 4105100) (number 15)
    ++ cross (at 7 "09:30:01.000000005") (volume 60) (price 4105200) (number 16))
    (codes "time,symbol,kind,price,shares,number\n"
    ++ codes "09:30:01.000000005,#7,Q,410.5200,60,16\n")
unfolding on_days
crosses_alone = printed refl

-- Kinds are listed by place, not as they are asked for.
kinds_are_listed_by_place_not_as_they_are_asked_for : Prints (codes "sales where kind in Q,C,E")
    (attributed (at 7 "09:30:00") (reference 1) (price 4105000)
    ++ replaced (at 7 "09:30:00") (reference 1) (reference 2) (price 4106000)
    ++ executed (at 7 "09:30:01.000000005") (reference 2) (shares 10) (number 11)
    ++ executed_at (at 7 "09:30:01.000000005") (reference 2) (shares 30) (number 13) (printable "Y") (price 4104000)
    ++ trade (at 7 "09:30:01.000000005") (shares 50) (price 4105100) (number 15)
    ++ cross (at 7 "09:30:01.000000005") (volume 60) (price 4105200) (number 16))
    (codes "time,symbol,kind,price,shares,number\n"
    ++ codes "09:30:01.000000005,#7,E,410.6000,10,11\n"
    ++ codes "09:30:01.000000005,#7,C,410.4000,30,13\n"
    ++ codes "09:30:01.000000005,#7,Q,410.5200,60,16\n")
unfolding on_days
kinds_are_listed_by_place_not_as_they_are_asked_for = printed refl

-- A symbol is asked for as names are told.
a_symbol_is_asked_for_as_names_are_told : Prints (codes "sales where symbol in #9,AB?CD")
    (named (at 7 "00:00:00") (stock "AB CD")
    ++ named (at 8 "00:00:00") (stock "MSFT")
    ++ trade (at 7 "09:30:01.000000005") (shares 1) (price 10000) (number 1)
    ++ trade (at 8 "09:30:01.000000005") (shares 2) (price 10000) (number 2)
    ++ trade (at 9 "09:30:01.000000005") (shares 3) (price 10000) (number 3))
    (codes "time,symbol,kind,price,shares,number\n"
    ++ codes "09:30:01.000000005,AB?CD,P,1.0000,1,1\n"
    ++ codes "09:30:01.000000005,#9,P,1.0000,3,3\n")
unfolding on_days
a_symbol_is_asked_for_as_names_are_told = printed refl

-- A locate that has a name isn't asked for by its number.
a_locate_that_has_a_name_isnt_asked_for_by_its_number : Prints (codes "sales where symbol in #7")
    (named (at 7 "00:00:00") (stock "MSFT")
    ++ order (at 7 "09:30:00") (reference 1) (price 4105000)
    ++ executed (at 7 "09:30:01.000000005") (reference 1) (shares 40) (number 9))
    (codes "time,symbol,kind,price,shares,number\n")
unfolding on_days
a_locate_that_has_a_name_isnt_asked_for_by_its_number = printed refl

-- A symbol that no locate has.
a_symbol_that_no_locate_has : Prints (codes "sales where symbol in MSF,MSFTX")
    (named (at 7 "00:00:00") (stock "MSFT")
    ++ trade (at 7 "09:30:01.000000005") (shares 1) (price 10000) (number 1))
    (codes "time,symbol,kind,price,shares,number\n")
unfolding on_days
a_symbol_that_no_locate_has = printed refl

-- A symbol is asked for by the last name of its locate.
a_symbol_is_asked_for_by_the_last_name_of_its_locate : Prints (codes "sales where symbol in MSFT")
    (named (at 7 "00:00:00") (stock "MSFT")
    ++ order (at 7 "09:30:00") (reference 1) (price 4105000)
    ++ executed (at 7 "09:30:01.000000005") (reference 1) (shares 40) (number 9)
    ++ named (at 7 "00:00:00") (stock "ZVZZT"))
    (codes "time,symbol,kind,price,shares,number\n")
unfolding on_days
a_symbol_is_asked_for_by_the_last_name_of_its_locate = printed refl

-- All locates of a name.
all_locates_of_a_name : Prints (codes "sales where symbol in MSFT")
    (named (at 7 "00:00:00") (stock "MSFT")
    ++ named (at 8 "00:00:00") (stock "MSFT")
    ++ trade (at 7 "09:30:01.000000005") (shares 1) (price 10000) (number 71)
    ++ trade (at 8 "09:30:01.000000005") (shares 2) (price 20000) (number 72))
    (codes "time,symbol,kind,price,shares,number\n"
    ++ codes "09:30:01.000000005,MSFT,P,1.0000,1,71\n"
    ++ codes "09:30:01.000000005,MSFT,P,2.0000,2,72\n")
unfolding on_days
all_locates_of_a_name = printed refl

-- What a query leaves out breaks and names all the same.
what_a_query_leaves_out_breaks_and_names_all_the_same : Prints (codes "sales where symbol in AAPL and time from 09:00:00 until 10:00:00")
    (named (at 7 "00:00:00") (stock "MSFT")
    ++ trade (at 7 "09:30:01.000000005") (shares 1) (price 10000) (number 1)
    ++ trade (at 7 "09:30:01.000000005") (shares 2) (price 10000) (number 2)
    ++ broken (at 7 "23:00:00") (number 1)
    ++ named (at 7 "23:00:00") (stock "AAPL"))
    (codes "time,symbol,kind,price,shares,number\n"
    ++ codes "09:30:01.000000005,AAPL,P,1.0000,2,2\n")
unfolding on_days
what_a_query_leaves_out_breaks_and_names_all_the_same = printed refl

-- ---- As of a moment: messages up to it count, later ones don't, wherever they stand

-- A message at the moment counts.
a_message_at_the_moment_counts : Prints (codes "bars 1 m as of 09:31:00")
    (named (at 7 "00:00:00") (stock "MSFT")
    ++ trade (at 7 "09:30:59.999999999") (shares 100) (price 4105000) (number 21)
    ++ trade (at 7 "09:31:00") (shares 200) (price 4106000) (number 22))
    (codes "symbol,start,first,high,low,last,volume,trades,average\n"
    ++ codes "MSFT,09:30:00,410.5000,410.5000,410.5000,410.5000,100,1,410.5000+0/100\n"
    ++ codes "MSFT,09:31:00,410.6000,410.6000,410.6000,410.6000,200,1,410.6000+0/200\n")
unfolding on_days
a_message_at_the_moment_counts = printed refl

-- Messages behind the moment don't, though they are of its second.
messages_behind_the_moment_dont_though_they_are_of_its_second : Prints (codes "bars 1 m as of 09:30:59")
    (named (at 7 "00:00:00") (stock "MSFT")
    ++ trade (at 7 "09:30:59.999999999") (shares 100) (price 4105000) (number 21)
    ++ trade (at 7 "09:31:00") (shares 200) (price 4106000) (number 22))
    (codes "symbol,start,first,high,low,last,volume,trades,average\n")
unfolding on_days
messages_behind_the_moment_dont_though_they_are_of_its_second = printed refl

-- A break that is sent later removes nothing.
a_break_that_is_sent_later_removes_nothing : Prints (codes "sales as of 09:30:02")
    (order (at 7 "09:30:00") (reference 1) (price 4105000)
    ++ executed (at 7 "09:30:01.000000005") (reference 1) (shares 40) (number 9)
    ++ broken (at 7 "09:30:03") (number 9))
    (codes "time,symbol,kind,price,shares,number\n"
    ++ codes "09:30:01.000000005,#7,E,410.5000,40,9\n")
unfolding on_days
a_break_that_is_sent_later_removes_nothing = printed refl

-- A break that is sent at the moment removes its sale.
a_break_that_is_sent_at_the_moment_removes_its_sale : Prints (codes "sales as of 09:30:03")
    (order (at 7 "09:30:00") (reference 1) (price 4105000)
    ++ executed (at 7 "09:30:01.000000005") (reference 1) (shares 40) (number 9)
    ++ broken (at 7 "09:30:03") (number 9))
    (codes "time,symbol,kind,price,shares,number\n")
unfolding on_days
a_break_that_is_sent_at_the_moment_removes_its_sale = printed refl

-- Without a moment each break counts.
without_a_moment_each_break_counts : Prints (codes "sales")
    (order (at 7 "09:30:00") (reference 1) (price 4105000)
    ++ executed (at 7 "09:30:01.000000005") (reference 1) (shares 40) (number 9)
    ++ broken (at 7 "09:30:03") (number 9))
    (codes "time,symbol,kind,price,shares,number\n")
unfolding on_days
without_a_moment_each_break_counts = printed refl

-- An order that is sent later isn't known.
an_order_that_is_sent_later_isnt_known : Reports (codes "sales as of 09:30:02")
    (order (at 7 "09:30:05") (reference 1) (price 4105000)
    ++ executed (at 7 "09:30:01.000000005") (reference 1) (shares 40) (number 9))
    (codes "fault: place 38: order reference 1 is not known\n")
unfolding on_days
an_order_that_is_sent_later_isnt_known = reported refl

-- An order that is sent at the moment is known.
an_order_that_is_sent_at_the_moment_is_known : Prints (codes "sales as of 09:30:05")
    (order (at 7 "09:30:05") (reference 1) (price 4105000)
    ++ executed (at 7 "09:30:01.000000005") (reference 1) (shares 40) (number 9))
    (codes "time,symbol,kind,price,shares,number\n"
    ++ codes "09:30:01.000000005,#7,E,410.5000,40,9\n")
unfolding on_days
an_order_that_is_sent_at_the_moment_is_known = printed refl

-- Without a moment each order is known.
without_a_moment_each_order_is_known : Prints (codes "sales")
    (order (at 7 "09:30:05") (reference 1) (price 4105000)
    ++ executed (at 7 "09:30:01.000000005") (reference 1) (shares 40) (number 9))
    (codes "time,symbol,kind,price,shares,number\n"
    ++ codes "09:30:01.000000005,#7,E,410.5000,40,9\n")
unfolding on_days
without_a_moment_each_order_is_known = printed refl

-- A reference that is repeated later is no fault.
a_reference_that_is_repeated_later_is_no_fault : Prints (codes "sales as of 09:30:02")
    (order (at 7 "09:30:00") (reference 1) (price 4105000)
    ++ order (at 7 "09:30:05") (reference 1) (price 4106000))
    (codes "time,symbol,kind,price,shares,number\n")
unfolding on_days
a_reference_that_is_repeated_later_is_no_fault = printed refl

-- Without a moment a reference that is repeated is a fault.
without_a_moment_a_reference_that_is_repeated_is_a_fault : Reports (codes "sales")
    (order (at 7 "09:30:00") (reference 1) (price 4105000)
    ++ order (at 7 "09:30:05") (reference 1) (price 4106000))
    (codes "fault: place 38: order reference 1 was given before\n")
unfolding on_days
without_a_moment_a_reference_that_is_repeated_is_a_fault = reported refl

-- A name that comes later isn't told.
a_name_that_comes_later_isnt_told : Prints (codes "sales as of 09:30:02")
    (named (at 7 "00:00:00") (stock "MSFT")
    ++ order (at 7 "09:30:00") (reference 1) (price 4105000)
    ++ executed (at 7 "09:30:01.000000005") (reference 1) (shares 40) (number 9)
    ++ named (at 7 "09:30:05") (stock "AB CD"))
    (codes "time,symbol,kind,price,shares,number\n"
    ++ codes "09:30:01.000000005,MSFT,E,410.5000,40,9\n")
unfolding on_days
a_name_that_comes_later_isnt_told = printed refl

-- Without a moment the last name is told.
without_a_moment_the_last_name_is_told : Prints (codes "sales")
    (named (at 7 "00:00:00") (stock "MSFT")
    ++ order (at 7 "09:30:00") (reference 1) (price 4105000)
    ++ executed (at 7 "09:30:01.000000005") (reference 1) (shares 40) (number 9)
    ++ named (at 7 "09:30:05") (stock "AB CD"))
    (codes "time,symbol,kind,price,shares,number\n"
    ++ codes "09:30:01.000000005,AB?CD,E,410.5000,40,9\n")
unfolding on_days
without_a_moment_the_last_name_is_told = printed refl

-- A wrong length is told whatever the moment.
a_wrong_length_is_told_whatever_the_moment : Reports (codes "sales as of 00:00:00")
    (named (at 7 "00:00:00") (stock "MSFT")
    ++ order (at 7 "09:30:00") (reference 1) (price 4105000)
    ++ hex "0000"
    ++ hex "00015a"
    ++ hex "002341000700001f1aced9f000000000000000000142000000644d53465420202020003ea3")
    (codes "fault: place 84: message A has length 35, not 36\n")
unfolding on_days
a_wrong_length_is_told_whatever_the_moment = reported refl

-- A truncated day is told whatever the moment.
a_truncated_day_is_told_whatever_the_moment : Reports (codes "sales as of 00:00:00")
    (named (at 7 "00:00:00") (stock "MSFT")
    ++ hex "00")
    (codes "fault: place 41: message runs past the end\n")
unfolding on_days
a_truncated_day_is_told_whatever_the_moment = reported refl

-- A message behind the day's end counts at no moment.
a_message_behind_the_days_end_counts_at_no_moment : Prints (codes "sales as of 24:00:00")
    (trade (at 7 "78:11:14.976710655") (shares 1) (price 10000) (number 61))
    (codes "time,symbol,kind,price,shares,number\n")
unfolding on_days
a_message_behind_the_days_end_counts_at_no_moment = printed refl

-- Sales of each kind are behind the moment, and their orders at it.
sales_of_each_kind_are_behind_the_moment_and_their_orders_at_it : Prints (codes "sales as of 09:30:00")
    (attributed (at 7 "09:30:00") (reference 1) (price 4105000)
    ++ replaced (at 7 "09:30:00") (reference 1) (reference 2) (price 4106000)
    ++ executed (at 7 "09:30:01.000000005") (reference 2) (shares 10) (number 11)
    ++ executed_at (at 7 "09:30:01.000000005") (reference 2) (shares 30) (number 13) (printable "Y") (price 4104000)
    ++ trade (at 7 "09:30:01.000000005") (shares 50) (price 4105100) (number 15)
    ++ cross (at 7 "09:30:01.000000005") (volume 60) (price 4105200) (number 16))
    (codes "time,symbol,kind,price,shares,number\n")
unfolding on_days
sales_of_each_kind_are_behind_the_moment_and_their_orders_at_it = printed refl

-- Each message is behind the moment.
each_message_is_behind_the_moment : Prints (codes "sales as of 09:29:59")
    (attributed (at 7 "09:30:00") (reference 1) (price 4105000)
    ++ replaced (at 7 "09:30:00") (reference 1) (reference 2) (price 4106000)
    ++ executed (at 7 "09:30:01.000000005") (reference 2) (shares 10) (number 11)
    ++ executed_at (at 7 "09:30:01.000000005") (reference 2) (shares 30) (number 13) (printable "Y") (price 4104000)
    ++ trade (at 7 "09:30:01.000000005") (shares 50) (price 4105100) (number 15)
    ++ cross (at 7 "09:30:01.000000005") (volume 60) (price 4105200) (number 16))
    (codes "time,symbol,kind,price,shares,number\n")
unfolding on_days
each_message_is_behind_the_moment = printed refl

-- Sales of each kind are five nanoseconds behind the moment.
sales_of_each_kind_are_five_nanoseconds_behind_the_moment : Prints (codes "sales as of 09:30:01")
    (attributed (at 7 "09:30:00") (reference 1) (price 4105000)
    ++ replaced (at 7 "09:30:00") (reference 1) (reference 2) (price 4106000)
    ++ executed (at 7 "09:30:01.000000005") (reference 2) (shares 10) (number 11)
    ++ executed_at (at 7 "09:30:01.000000005") (reference 2) (shares 30) (number 13) (printable "Y") (price 4104000)
    ++ trade (at 7 "09:30:01.000000005") (shares 50) (price 4105100) (number 15)
    ++ cross (at 7 "09:30:01.000000005") (volume 60) (price 4105200) (number 16))
    (codes "time,symbol,kind,price,shares,number\n")
unfolding on_days
sales_of_each_kind_are_five_nanoseconds_behind_the_moment = printed refl

-- A moment and kinds together.
a_moment_and_kinds_together : Prints (codes "sales as of 09:30:02 where kind in E,C")
    (attributed (at 7 "09:30:00") (reference 1) (price 4105000)
    ++ replaced (at 7 "09:30:00") (reference 1) (reference 2) (price 4106000)
    ++ executed (at 7 "09:30:01.000000005") (reference 2) (shares 10) (number 11)
    ++ executed_at (at 7 "09:30:01.000000005") (reference 2) (shares 30) (number 13) (printable "Y") (price 4104000)
    ++ trade (at 7 "09:30:01.000000005") (shares 50) (price 4105100) (number 15)
    ++ cross (at 7 "09:30:01.000000005") (volume 60) (price 4105200) (number 16))
    (codes "time,symbol,kind,price,shares,number\n"
    ++ codes "09:30:01.000000005,#7,E,410.6000,10,11\n"
    ++ codes "09:30:01.000000005,#7,C,410.4000,30,13\n")
unfolding on_days
a_moment_and_kinds_together = printed refl

-- ---- Places decide, and not the order in which messages of a kind are found

-- An order, its execution and a break.
an_order_its_execution_and_a_break : Prints (codes "sales")
    (order (at 7 "09:30:00") (reference 1) (price 4105000)
    ++ executed (at 7 "09:30:01.000000005") (reference 1) (shares 40) (number 9)
    ++ broken (at 7 "09:30:00") (number 9))
    (codes "time,symbol,kind,price,shares,number\n")
unfolding on_days
an_order_its_execution_and_a_break = printed refl

-- An order, a break and its execution.
an_order_a_break_and_its_execution : Prints (codes "sales")
    (order (at 7 "09:30:00") (reference 1) (price 4105000)
    ++ broken (at 7 "09:30:00") (number 9)
    ++ executed (at 7 "09:30:01.000000005") (reference 1) (shares 40) (number 9))
    (codes "time,symbol,kind,price,shares,number\n")
unfolding on_days
an_order_a_break_and_its_execution = printed refl

-- A break, an order and its execution.
a_break_an_order_and_its_execution : Prints (codes "sales")
    (broken (at 7 "09:30:00") (number 9)
    ++ order (at 7 "09:30:00") (reference 1) (price 4105000)
    ++ executed (at 7 "09:30:01.000000005") (reference 1) (shares 40) (number 9))
    (codes "time,symbol,kind,price,shares,number\n")
unfolding on_days
a_break_an_order_and_its_execution = printed refl

-- An execution, its order and a break.
an_execution_its_order_and_a_break : Reports (codes "sales")
    (executed (at 7 "09:30:01.000000005") (reference 1) (shares 40) (number 9)
    ++ order (at 7 "09:30:00") (reference 1) (price 4105000)
    ++ broken (at 7 "09:30:00") (number 9))
    (codes "fault: place 0: order reference 1 is not known\n")
unfolding on_days
an_execution_its_order_and_a_break = reported refl

-- An order, its execution and a break of another number.
an_order_its_execution_and_a_break_of_another_number : Prints (codes "sales")
    (order (at 7 "09:30:00") (reference 1) (price 4105000)
    ++ executed (at 7 "09:30:01.000000005") (reference 1) (shares 40) (number 9)
    ++ broken (at 7 "09:30:00") (number 8))
    (codes "time,symbol,kind,price,shares,number\n"
    ++ codes "09:30:01.000000005,#7,E,410.5000,40,9\n")
unfolding on_days
an_order_its_execution_and_a_break_of_another_number = printed refl

-- A name, an order, a break and its execution.
a_name_an_order_a_break_and_its_execution : Prints (codes "sales")
    (named (at 7 "00:00:00") (stock "MSFT")
    ++ order (at 7 "09:30:00") (reference 1) (price 4105000)
    ++ broken (at 7 "09:30:00") (number 9)
    ++ executed (at 7 "09:30:01.000000005") (reference 1) (shares 40) (number 9))
    (codes "time,symbol,kind,price,shares,number\n")
unfolding on_days
a_name_an_order_a_break_and_its_execution = printed refl

-- The first order of a reference has its price, though it is repeated later.
the_first_order_of_a_reference_has_its_price_though_it_is_repeated_later : Prints (codes "sales as of 09:30:02")
    (order (at 7 "09:30:00") (reference 1) (price 4105000)
    ++ executed (at 7 "09:30:01.000000005") (reference 1) (shares 40) (number 9)
    ++ order (at 7 "09:30:05") (reference 1) (price 4106000))
    (codes "time,symbol,kind,price,shares,number\n"
    ++ codes "09:30:01.000000005,#7,E,410.5000,40,9\n")
unfolding on_days
the_first_order_of_a_reference_has_its_price_though_it_is_repeated_later = printed refl

-- A locate has the name of its last directory by place, whatever the times.
a_locate_has_the_name_of_its_last_directory_by_place_whatever_the_times : Prints (codes "sales")
    (named (at 7 "00:00:00") (stock "LAST")
    ++ trade (at 7 "09:30:01.000000005") (shares 1) (price 10000) (number 1)
    ++ named (at 7 "09:00:00") (stock "MSFT")
    ++ named (at 7 "00:00:00") (stock "ZVZZT"))
    (codes "time,symbol,kind,price,shares,number\n"
    ++ codes "09:30:01.000000005,ZVZZT,P,1.0000,1,1\n")
unfolding on_days
a_locate_has_the_name_of_its_last_directory_by_place_whatever_the_times = printed refl
