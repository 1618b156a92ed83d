use Rattle.std.proofs.Common.{Ok, ap, map}
use Rattle.std.specs.Arc.{arc_value}
use Rattle.time_and_sales.specs.Names.{names_by}
use Rattle.planning.specs.AllBuckets.{text_of_products}
use Rattle.runs.proofs.TextsHandedOver.{handed_text, text_told}
use Rattle.runs.proofs.calls.made.Made.hand_over.Goals as goal

pub returns-clause-handed : goal.returns-clause-handed
returns-clause-handed g c =
    let day = c.in-Listed.day in
    let names = c.names-2.result.now in
    let listed = map arc_value c.products.result.now in
    rw c.in-Listed.is
    (handed_text g.K.Sink c.args.sink.now c.put_text-put.new.sink c.put_text-put.result (text_of_products day.what (names_by names) listed)
    (ap Ok (text_told day.what day.names names day.total.products listed c.names-2.ensures c.products.ensures)) c.fault_or_done.ensures
    c.put_text-put.ensures.written c.put_text-put.ensures.flushed c.put_text-put.ensures.refused)
