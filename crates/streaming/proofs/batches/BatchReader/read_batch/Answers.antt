use Rattle.std.proofs.Common.{◌≡◌, ℕ, List, [], sym, ap, ◌∙◌, subst, arith}
use Rattle.std.proofs.lemmas.Result.{IfErr-weaker, IfOk-weaker, err_from_is_err_and}
use Rattle.std.proofs.lemmas.Bool.{false≢true}
use Rattle.cutting.specs.Cutting.{IsCutBy}
use Rattle.cutting.specs.Feeding.{CutterView, HasFed}
use Rattle.cutting.proofs.Fed.{fed_length_is}
use Rattle.streaming.specs.Batches.{IsLastFault, ReaderView}
use Rattle.streaming.proofs.JoinedBatches.{last_cut, last_fault, reading_on}
use Rattle.streaming.proofs.batches.BatchReader.read_batch.Goals as goal

pub returns-in_err-feed-clause-fault : goal.returns-in_err-feed-clause-fault
returns-in_err-feed-clause-fault g c =
    let p = err_from_is_err_and c.from_residual.result c.from_residual.ensures.1 in
    let inv = c.loop-self.invariant in
    rw (p.1, p.2) (λ before runs to. rw (ap (λ (v : ReaderView). v.limit) inv.same, ap (λ (v : ReaderView). v.target) inv.same)
    at (c.in_err-feed.ensures.fault before runs (inv.read before runs to)))

pub last_batch-requires-clause-within : goal.last_batch-requires-clause-within
last_batch-requires-clause-within g c =
    let inv = c.self.invariant in
    (inv.fed, rw c.replace-cutter.ensures.value inv.has, omega (arith, inv.within, inv.limit_is, fed_length_is c.self.inside.cutter inv.fed inv.has))

pub invariant_of-self : goal.invariant_of-self
invariant_of-self g c =
    let inv = c.self.invariant in
    let has : HasFed c.replace-cutter.new.dest [] = rw c.replace-cutter.ensures.after c.new-none.ensures.fed in
    reading_on inv has (ap (λ (v : CutterView). v.target) c.replace-cutter.ensures.after ∙ c.new-none.ensures.target)
    (omega (arith, inv.within, fed_length_is c.replace-cutter.new.dest [] has))

pub returns-clause-next : goal.returns-clause-next
returns-clause-next g c = IfOk-weaker c.last_batch.result _ _ (λ batch (first, start, is_last, made).
    let inv = c.loop-self.invariant in
    let kept = c.in_ok-feed.ensures.same ∙ ap (λ (v : ReaderView). record v { cutter = c.feed.new.self.cutter }) inv.same in
    let limit = ap (λ (v : ReaderView). v.limit) kept in
    let same = subst (λ (v : ReaderView). v.cutter.target ≡ v.target) c.self.view_is c.self.invariant.same in
    let taken = c.replace-cutter.ensures.value ∙ ap (λ (v : ReaderView). v.cutter) c.self.view_is in record {
      more = λ e. absurd (false≢true (sym e ∙ is_last));
      last = λ e before runs to.
          rw (← ap (λ (v : ReaderView). v.target) kept)
          (last_cut g.S.Source (c.in_ok-feed.ensures.read before runs (inv.read before runs to)) same (c.in_ok-feed.ensures.end c.if-branch.false)
          (omega (arith, c.in_ok-feed.ensures.within, limit)) batch.cut
          (subst (λ (k : CutterView). (fed : List ℕ) → HasFed k fed → IsCutBy k.target batch.cut fed) taken made));
      number = first ∙ ap (λ (v : ReaderView). v.first) c.self.view_is ∙ ap (λ (v : ReaderView). v.first) kept;
      start = start ∙ ap (λ (v : ReaderView). v.start) c.self.view_is ∙ ap (λ (v : ReaderView). v.start) kept;
      longer = λ e. absurd (false≢true (sym e ∙ is_last));
    }) c.last_batch.ensures.last

pub returns-clause-fault : goal.returns-clause-fault
returns-clause-fault g c = IfErr-weaker c.last_batch.result _ _ (λ f told before runs to.
    let inv = c.loop-self.invariant in
    let kept = c.in_ok-feed.ensures.same ∙ ap (λ (v : ReaderView). record v { cutter = c.feed.new.self.cutter }) inv.same in
    let limit = ap (λ (v : ReaderView). v.limit) kept in
    let same = subst (λ (v : ReaderView). v.cutter.target ≡ v.target) c.self.view_is c.self.invariant.same in
    rw (← ap (λ (v : ReaderView). v.target) kept)
    (last_fault g.S.Source (c.in_ok-feed.ensures.read before runs (inv.read before runs to)) same
    (c.in_ok-feed.ensures.end c.if-branch.false) (omega (arith, c.in_ok-feed.ensures.within, limit)) f
    (subst (λ (v : ReaderView). (fed : List ℕ) → HasFed v.cutter fed → IsLastFault v.first v.start v.cutter.target fed f) c.self.view_is
    (subst (λ (k : CutterView). (fed : List ℕ) → HasFed k fed → IsLastFault c.self.inside.first c.self.inside.start k.target fed f)
    c.replace-cutter.ensures.value told)))) c.last_batch.ensures.fault
