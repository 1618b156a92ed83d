use Rattle.std.proofs.Common.{◌≡◌, ◌==◌, ◌+◌, ℕ, [], false, flat_map, slice_index, slice_index_or, refl, arith}
use Rattle.std.specs.Mem.Slots.{slots_items}
use Rattle.std.proofs.Math.ListN.{get_or-eq_default}
use Rattle.std.proofs.lemmas.Bool.Decides.{nat_tests}
use Rattle.std.proofs.lemmas.List.Sums.{sum_by-append}
use Rattle.std.proofs.lemmas.Grind.{common_steps}
use Rattle.atomic_table.specs.Table.{opening}
use Rattle.dispatcher.specs.Rule.{IsConsistent, occurrences, once_below}
use Rattle.dispatcher.specs.Seats.{claims, marked_tasks, seen_tasks}
use Rattle.dispatcher.proofs.dispatcher.Dispatcher.settle.Given.{Over}
use Rattle.dispatcher.proofs.dispatcher.Dispatcher.settle.Goals as goal
use Rattle.dispatcher.proofs.Occurrences.{at_read, any_has, once_each, times_given-le, occurrences_flat}
use Rattle.dispatcher.proofs.RuleIsKept.{alone, count_at_most}

module _ (g : Over) (c : goal.After-drop-self g) where
  -- the rule holds of the words that are left and of the seat that stands for all
  settled : IsConsistent c.args.self.table.shared.key
      (opening (slots_items c.close_with-closed.result.words) [] c.gather-all.result.me.0)
  settled = let last = c.close_with-closed.ensures.values.2 in let size = c.args.self.size in let all = c.requires.all in
      rw (← last.2) (alone last.1.0 _ last.1.1 (omega (arith, c.gather-all.ensures.seats)))

  count : slice_index (slots_items c.close_with-closed.result.words) 0 ≡ c.word-count.result
  count = (at_read (slots_items c.close_with-closed.result.words) 0 c.word-count.result 0 c.word-count.ensures).1

  claims_once : (claim : ℕ) → occurrences claim (flat_map claims c.args.seats.items) ≡ once_below c.word-count.result claim
  claims_once claim = let once = rw count at (settled.claims_once claim) in
      let sum = c.gather-all.ensures.sums (λ view. occurrences claim view.claims) (search sum_by-append) in
      omega (arith, occurrences_flat claims c.args.seats.items claim)

  flag : (task : ℕ) → slice_index_or c.read_marks.new.flags.items task false
      ≡ (slice_index (slots_items c.close_with-closed.result.words) (task + 1) == 1)
  flag task = let len = c.read_marks.ensures.len in let wide = settled.wide in let size = c.args.self.size in
      let read = c.read_marks.ensures.flags task in grind (arith, common_steps, get_or-eq_default, c.in-Ok.ensures)

pub returns-clause-claims : goal.returns-clause-claims
returns-clause-claims g c = once_each _ (flat_map claims c.args.seats.items) (claims_once g c)

pub returns-clause-twice : goal.returns-clause-twice
returns-clause-twice g c =
    times_given-le _ _ (flat_map claims c.args.seats.items) c.args.self.in_range.0 (claims_once g c)

pub returns-clause-few : goal.returns-clause-few
returns-clause-few g c = let size = c.args.self.size in omega (arith, count g c, count_at_most (settled g c) 0 refl)

pub returns-clause-marks : goal.returns-clause-marks
returns-clause-marks g c = λ task. let flag = flag g c task in let word = (settled g c).marks task in
    let sum = c.gather-all.ensures.sums (λ view. occurrences task view.marked) (search sum_by-append) in
    let has = any_has marked_tasks task c.args.seats.items in
    ((λ on. has.0 (grind (arith, nat_tests))), λ some. let counts = has.1 some in grind (arith, nat_tests))

pub returns-clause-seen : goal.returns-clause-seen
returns-clause-seen g c = λ task saw. let flag = flag g c task in let word = (settled g c).marks task in
    let sum = c.gather-all.ensures.sums (λ view. occurrences task view.seen) (search sum_by-append) in
    let counts = (any_has seen_tasks task c.args.seats.items).1 saw in grind (arith, nat_tests)
