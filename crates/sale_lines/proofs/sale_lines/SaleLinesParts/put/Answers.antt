use Rattle.std.proofs.Common.{◌≡◌, ℕ, ◌+◌, ◌-◌, ◌<◌, ◌≤◌, [], List, length, take, drop, filter, get_or, true, sym, ap, ◌∙◌, subst, arith}
use Rattle.std.proofs.Math.Seq.{take-length}
use Rattle.base.specs.declared.limits.TheConstants.{TIME_LIMIT}
use Rattle.time_and_sales.specs.Names.{names_by}
use Rattle.time_and_sales.specs.Ranges.{is_in_first}
use Rattle.time_and_sales.specs.Texts.{Sale, lines_text, sale_line}
use Rattle.sale_lines.proofs.RangesJoined.{text_of_part}
use Rattle.sale_lines.proofs.SalesInTurn.{more_is_small, room_for_more, room_is_small}
use Rattle.time_and_sales.proofs.SortedByPlace.{place_of}
use Rattle.time_and_sales.proofs.InRanges.{all_behind_none}
use Rattle.sale_lines.proofs.TakenInTurn.{all_written, holds_of_next, next_of_left, next_text}
use Rattle.sale_lines.proofs.TakenInTurn.{piece_taken, piece_within, rest_behind_piece, whole_piece_taken}
use Rattle.sale_lines.proofs.sale_lines.SaleLinesParts.put.Goals as goal

pub loop-sale-init : goal.loop-sale-init
loop-sale-init g c =
    let bounds = take (length c.deref.result.now - c.args.part) (drop c.args.part c.deref.result.now) in
    let all = all_behind_none place_of (filter (is_in_first place_of bounds) g.J.AllSales.sales) in
    record {
      took = g.met.K.Sink.took_nothing c.args.sink.now;
      left = ap (lines_text (names_by c.self.inside.names.now)) all;
      within = omega arith;
      room = omega (arith, ap length all);
      whole = c.requires.whole;
    }

pub put_sale-requires-clause-time : goal.put_sale-requires-clause-time
put_sale-requires-clause-time g c =
    holds_of_next place_of _ _ _ c.self.invariant.whole.by_place c.self.invariant.whole.all (λ (s : Sale). s.time < TIME_LIMIT) c.self.invariant.whole.times
    c.loop-sale.last c.in-Some.sale c.in-Some.ensures

pub loop-sale-smaller : goal.loop-sale-smaller
loop-sale-smaller g c =
    let next = next_of_left place_of _ _ _ c.self.invariant.whole.by_place c.self.invariant.whole.all c.loop-sale.last c.in-Some.sale c.in-Some.ensures in
    omega (arith, ap length next)

pub overflow_add-written : goal.overflow_add-written
overflow_add-written g c =
    let small = more_is_small _ _ _ c.self.invariant.whole c.loop-sale.written c.in-Ok.count c.loop-sale.last c.in-Some.sale c.in-Some.ensures
    c.loop-sale.invariant.room (omega (arith, c.in-Ok.ensures.count, c.in-Ok.ensures.short)) in
    omega (arith, small)

pub returns-in-Err-clause-few_failed : goal.returns-in-Err-clause-few_failed
returns-in-Err-clause-few_failed g c =
    more_is_small _ _ _ c.self.invariant.whole c.loop-sale.written c.in-Err.refused.written c.loop-sale.last c.in-Some.sale c.in-Some.ensures
    c.loop-sale.invariant.room (omega (arith, c.in-Err.ensures.written.0, c.in-Err.ensures.short))

pub overflow_add-result : goal.overflow_add-result
overflow_add-result g c =
    let small = more_is_small _ _ _ c.self.invariant.whole c.loop-sale.written c.in-Err.refused.written c.loop-sale.last c.in-Some.sale c.in-Some.ensures
    c.loop-sale.invariant.room (omega (arith, c.in-Err.ensures.written.0, c.in-Err.ensures.short)) in
    omega (arith, small)

pub returns-in-Err-clause-written : goal.returns-in-Err-clause-written
returns-in-Err-clause-written g c =
    let bounds = take (length c.deref.result.now - c.args.part) (drop c.args.part c.deref.result.now) in
    let name = names_by c.self.inside.names.now in
    let line = sale_line c.in-Some.sale (name c.in-Some.sale.locate) in
    let text = lines_text name (filter (is_in_first place_of bounds) g.J.AllSales.sales) in
    let written = c.loop-sale.written in
    let part = c.in-Err.refused.written in
    let (few, took, failed) = c.in-Err.ensures.written in
    let left = next_text place_of _ _ _ c.self.invariant.whole.by_place c.self.invariant.whole.all (λ (s : Sale). sale_line s (name s.locate)) written
    c.loop-sale.last c.loop-sale.invariant.left c.in-Some.sale c.in-Some.ensures in
    subst (λ (t : List ℕ). (written + part ≤ length t) × (g.K.Sink.Took c.args.sink.now c.put_sale.new.sink (take (written + part) t))
    × (g.K.Sink.has_failed c.put_sale.new.sink ≡ true))
    (sym (text_of_part place_of (λ (s : Sale). sale_line s (name s.locate)) g.J.AllSales.sales c.self.inside.bounds.items c.deref.result.now
    c.args.part c.args.self.now c.deref.ensures.value c.self.view_is c.requires.within)) (
      omega (arith, piece_within text line _ written left c.loop-sale.invariant.within, few),
      subst (g.K.Sink.Took c.args.sink.now c.put_sale.new.sink) (sym (piece_taken text line _ written part left few))
          (g.met.K.Sink.took_more c.args.sink.now c.loop-sale.sink c.put_sale.new.sink _ _ c.loop-sale.invariant.took took),
      failed,
    )

pub loop-sale-preserved : goal.loop-sale-preserved
loop-sale-preserved g c =
    let bounds = take (length c.deref.result.now - c.args.part) (drop c.args.part c.deref.result.now) in
    let name = names_by c.self.inside.names.now in
    let line = sale_line c.in-Some.sale (name c.in-Some.sale.locate) in
    let text = lines_text name (filter (is_in_first place_of bounds) g.J.AllSales.sales) in
    let written = c.loop-sale.written in
    let (took, whole) = c.in-Ok.ensures.written in
    let left = next_text place_of _ _ _ c.self.invariant.whole.by_place c.self.invariant.whole.all (λ (s : Sale). sale_line s (name s.locate)) written
    c.loop-sale.last c.loop-sale.invariant.left c.in-Some.sale c.in-Some.ensures in
    record {
      took = subst (g.K.Sink.Took c.args.sink.now c.put_sale.new.sink) (sym (whole_piece_taken text line _ written c.in-Ok.count left c.in-Ok.ensures.count))
          (g.met.K.Sink.took_more c.args.sink.now c.loop-sale.sink c.put_sale.new.sink _ _ c.loop-sale.invariant.took took);
      left = rest_behind_piece text line _ written c.in-Ok.count left c.in-Ok.ensures.count;
      within = omega (arith, piece_within text line _ written left c.loop-sale.invariant.within, c.in-Ok.ensures.count);
      room = room_for_more _ _ _ c.self.invariant.whole written c.in-Ok.count c.loop-sale.last c.in-Some.sale c.in-Some.ensures c.loop-sale.invariant.room
          (omega (arith, c.in-Ok.ensures.count, c.in-Ok.ensures.short));
      whole = whole;
    }

pub returns-clause-count : goal.returns-clause-count
returns-clause-count g c =
    let line : Sale → List ℕ = λ sale. sale_line sale (names_by c.self.inside.names.now sale.locate) in
    all_written place_of _ _ _ c.self.invariant.whole.by_place c.self.invariant.whole.all line c.loop-sale.written c.loop-sale.last
    c.loop-sale.invariant.left (sym c.in_default.is ∙ c.next_sale.ensures) c.loop-sale.invariant.within
    ∙ ap length (sym (text_of_part place_of line g.J.AllSales.sales c.self.inside.bounds.items c.deref.result.now c.args.part
    c.args.self.now c.deref.ensures.value c.self.view_is c.requires.within))

pub returns-clause-written : goal.returns-clause-written
returns-clause-written g c =
    let line : Sale → List ℕ = λ sale. sale_line sale (names_by c.self.inside.names.now sale.locate) in
    let text = get_or c.args.self.now c.args.part [] in
    let same = text_of_part place_of line g.J.AllSales.sales c.self.inside.bounds.items c.deref.result.now c.args.part
    c.args.self.now c.deref.ensures.value c.self.view_is c.requires.within in (
      subst (g.K.Sink.Took c.args.sink.now c.loop-sale.sink)
          (ap (take c.loop-sale.written) (sym same) ∙ ap (λ n. take n text) (returns-clause-count g c) ∙ take-length text) c.loop-sale.invariant.took,
      c.loop-sale.invariant.whole,
    )

pub returns-clause-few : goal.returns-clause-few
returns-clause-few g c = room_is_small _ _ _ c.self.invariant.whole c.loop-sale.written c.loop-sale.last c.loop-sale.invariant.room
