use Rattle.std.proofs.Common.{◌+◌, ◌++◌, ◌∷◌, [], ◌∙◌, List, Some, None, filter, length, take, ap, arith, refl, subst, sym, ℕ}
use Rattle.std.proofs.lemmas.List.{length-append, length_push}
use Rattle.time_and_sales.specs.Lent.{lent}
use Rattle.time_and_sales.specs.Names.{names_by}
use Rattle.time_and_sales.specs.Ranges.{is_in_first}
use Rattle.bars.specs.Bars.{all_bars}
use Rattle.bar_lines.specs.NextBar.{is_later}
use Rattle.bars.specs.Texts.{bar_line, lines_text}
use Rattle.time_and_sales.proofs.InRanges.{all_pass}
use Rattle.bar_lines.proofs.BarsInRanges.{locate_of}
use Rattle.bar_lines.proofs.LinesOneByOne.{few_bytes, few_bytes_in_all, lines_with_next, some_of_line, with_next, within_all}
use Rattle.bar_lines.proofs.NextBar.{next_behind, next_in_range, next_writable, none_behind}
use Rattle.bar_lines.proofs.lines_one_by_one.put_lines.Goals as goal

pub put_line-requires-clause-writable : goal.put_line-requires-clause-writable
put_line-requires-clause-writable g c =
    next_writable c.args.bounds.now (all_bars (lent c.args.tables.now)) g.J.AllBars.bars c.requires.union c.loop-bar.last c.in-Some.bar
    c.in-Some.ensures c.requires.traded c.requires.starts

pub overflow_add-written : goal.overflow_add-written
overflow_add-written g c =
    let h = c.loop-bar.invariant in
    let split = next_behind c.args.bounds.now (all_bars (lent c.args.tables.now)) g.J.AllBars.bars c.requires.union c.loop-bar.last c.in-Some.bar h.done
    c.in-Some.ensures h.all in
    let few = few_bytes (is_in_first locate_of c.args.bounds.now) g.J.AllBars.bars h.done _ c.in-Some.bar (c.loop-bar.written + c.in-Ok.count) split
    c.requires.few (omega (arith, h.short, c.in-Ok.ensures.count, c.in-Ok.ensures.short)) in
    omega (arith, few)

pub overflow_add-result : goal.overflow_add-result
overflow_add-result g c =
    let h = c.loop-bar.invariant in
    let split = next_behind c.args.bounds.now (all_bars (lent c.args.tables.now)) g.J.AllBars.bars c.requires.union c.loop-bar.last c.in-Some.bar h.done
    c.in-Some.ensures h.all in
    let few = few_bytes (is_in_first locate_of c.args.bounds.now) g.J.AllBars.bars h.done _ c.in-Some.bar (c.loop-bar.written + c.in-Err.failed.written) split
    c.requires.few (omega (arith, h.short, c.in-Err.ensures.written.0, c.in-Err.ensures.short)) in
    omega (arith, few)

pub loop-bar-init : goal.loop-bar-init
loop-bar-init g c = record {
  done = [];
  all = sym (all_pass (is_later None) (filter (is_in_first locate_of c.args.bounds.now) g.J.AllBars.bars) (λ k d h. refl));
  took = g.met.K.Sink.took_nothing c.args.sink.now;
  count = refl;
  short = omega arith;
  whole = c.requires.whole;
}

pub loop-bar-preserved : goal.loop-bar-preserved
loop-bar-preserved g c =
    let name : ℕ → List ℕ = names_by c.args.names.now in
    let h = c.loop-bar.invariant in
    let all = filter (is_in_first locate_of c.args.bounds.now) g.J.AllBars.bars in
    let bar = c.in-Some.bar in
    let split = next_behind c.args.bounds.now (all_bars (lent c.args.tables.now)) g.J.AllBars.bars c.requires.union c.loop-bar.last bar h.done
    c.in-Some.ensures h.all in
    let lines = lines_with_next name all h.done (filter (is_later (Some bar)) all) bar split in
    record {
      done = h.done ++ bar ∷ [];
      all = with_next name all h.done (filter (is_later (Some bar)) all) bar split;
      took = rw lines (g.met.K.Sink.took_more c.args.sink.now c.loop-bar.sink c.put_line.new.sink (lines_text name h.done) (bar_line bar (name bar.locate)) h.took c.in-Ok.ensures.written.0);
      count = omega (arith, h.count, c.in-Ok.ensures.count, ap length lines, length-append (lines_text name h.done) (bar_line bar (name bar.locate)));
      short = omega (arith, h.short, c.in-Ok.ensures.count, c.in-Ok.ensures.short, length_push h.done bar);
      whole = c.in-Ok.ensures.written.1;
    }

pub loop-bar-smaller : goal.loop-bar-smaller
loop-bar-smaller g c =
    omega (
      arith,
      ap length (next_in_range c.args.bounds.now (all_bars (lent c.args.tables.now)) g.J.AllBars.bars c.requires.union c.loop-bar.last c.in-Some.bar
          c.in-Some.ensures),
    )

pub returns-in-Err-clause-written : goal.returns-in-Err-clause-written
returns-in-Err-clause-written g c =
    let name : ℕ → List ℕ = names_by c.args.names.now in
    let h = c.loop-bar.invariant in
    let all = filter (is_in_first locate_of c.args.bounds.now) g.J.AllBars.bars in
    let bar = c.in-Some.bar in
    let rest = filter (is_later (Some bar)) all in
    let split = next_behind c.args.bounds.now (all_bars (lent c.args.tables.now)) g.J.AllBars.bars c.requires.union c.loop-bar.last bar h.done
    c.in-Some.ensures h.all in
    let part = c.in-Err.failed.written in
    let (few, took, failed) = c.in-Err.ensures.written in (
      omega (arith, h.count, within_all name all h.done rest bar split part few),
      subst (g.K.Sink.Took c.args.sink.now c.put_line.new.sink)
          (sym (ap (λ n. take (n + part) (lines_text name all)) h.count ∙ some_of_line name all h.done rest bar split part few))
          (g.met.K.Sink.took_more c.args.sink.now c.loop-bar.sink c.put_line.new.sink (lines_text name h.done) (take part (bar_line bar (name bar.locate)))
          h.took took),
      failed,
    )

pub returns-in-Err-clause-few_failed : goal.returns-in-Err-clause-few_failed
returns-in-Err-clause-few_failed g c =
    let h = c.loop-bar.invariant in
    let split = next_behind c.args.bounds.now (all_bars (lent c.args.tables.now)) g.J.AllBars.bars c.requires.union c.loop-bar.last c.in-Some.bar h.done
    c.in-Some.ensures h.all in
    few_bytes (is_in_first locate_of c.args.bounds.now) g.J.AllBars.bars h.done _ c.in-Some.bar (c.loop-bar.written + c.in-Err.failed.written) split
    c.requires.few (omega (arith, h.short, c.in-Err.ensures.written.0, c.in-Err.ensures.short))

pub returns-clause-written : goal.returns-clause-written
returns-clause-written g c =
    let h = c.loop-bar.invariant in
    let all = none_behind c.args.bounds.now (all_bars (lent c.args.tables.now)) g.J.AllBars.bars c.requires.union c.loop-bar.last h.done
    c.in_default.ensures h.all in
    (rw all h.took, h.whole)

pub returns-clause-count : goal.returns-clause-count
returns-clause-count g c =
    let h = c.loop-bar.invariant in
    let all = none_behind c.args.bounds.now (all_bars (lent c.args.tables.now)) g.J.AllBars.bars c.requires.union c.loop-bar.last h.done
    c.in_default.ensures h.all in
    rw all h.count

pub returns-clause-few : goal.returns-clause-few
returns-clause-few g c =
    let h = c.loop-bar.invariant in
    few_bytes_in_all (is_in_first locate_of c.args.bounds.now) g.J.AllBars.bars h.done _ c.loop-bar.written h.all c.requires.few h.short
