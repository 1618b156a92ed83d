use Rattle.std.proofs.Common.{rules, ◌≡◌, true, [], refl}
use Rattle.std.proofs.lemmas.List.Elements.{All-nil}
use Rattle.std.proofs.lemmas.Result.{err_from_is_err_and}
use Rattle.streaming.proofs.JoinedBatches.{read_to_none}
use Rattle.streaming.proofs.ScannedBatches.{ended, gave_some, one_batch, read_ahead}
use Rattle.streaming.proofs.scanned_batches.scan_source.Goals as goal

pub returns-in_err-batch-clause-fault : goal.returns-in_err-batch-clause-fault
returns-in_err-batch-clause-fault g c =
    let p = err_from_is_err_and c.from_residual.result c.from_residual.ensures.1 in
    let none = read_to_none g.S.Source c.args.source.now c.new-reader.result (g.met.S.Source.gave_nothing c.args.source.now)
    c.new-reader.ensures.none in
    let same = c.new-reader.ensures.same in
    rw (p.1, p.2) (rw (same.0, same.1) at (c.in_err-batch.ensures.fault c.args.source.now [] none))

pub loop-scanned-init : goal.loop-scanned-init
loop-scanned-init g c =
    let none = read_to_none g.S.Source c.args.source.now c.new-reader.result (g.met.S.Source.gave_nothing c.args.source.now)
    c.new-reader.ensures.none in record {
      to = record {
        runs = [];
        scanned = [];
        same = refl;
        each = All-nil _;
        bytes = All-nil _;
        is = c.empty-total.ensures;
        ahead = read_ahead none c.new-reader.ensures.same c.in_ok-batch.ensures.same c.in_ok-batch.ensures.next;
      };
      fine = search rules;
    }

pub loop-scanned-preserved : goal.loop-scanned-preserved
loop-scanned-preserved g c = record {
  to = c.in_ok-go_on.ensures.to c.args.source.now c.loop-scanned.invariant.to;
  fine = search rules;
}

pub returns-in_err-go_on-clause-fault : goal.returns-in_err-go_on-clause-fault
returns-in_err-go_on-clause-fault g c =
    let p = err_from_is_err_and c.from_residual-in_err-go_on.result c.from_residual-in_err-go_on.ensures.1 in
    rw (p.1, p.2) (c.in_err-go_on.ensures.fault c.args.source.now c.loop-scanned.invariant.to)

pub returns-in_err-add_last-clause-fault : goal.returns-in_err-add_last-clause-fault
returns-in_err-add_last-clause-fault g c =
    let p = err_from_is_err_and c.from_residual-in_err-add_last.result c.from_residual-in_err-add_last.ensures.1 in
    rw (p.1, p.2) (gave_some c.loop-scanned.invariant.to.ahead)

pub returns-clause-scanned : goal.returns-clause-scanned
returns-clause-scanned g c =
    let is_last : c.loop-scanned.scanned.batch.is_last ≡ true = search rules in
    let last = c.in_ok-add_last.ensures in
    rw last.2 (ended c.args.settings.limit_in_range c.loop-scanned.invariant.to is_last last.1)

pub returns-then-of-eq1-clause-scanned : goal.returns-then-of-eq1-clause-scanned
returns-then-of-eq1-clause-scanned g c =
    let none = read_to_none g.S.Source c.args.source.now c.new-reader.result (g.met.S.Source.gave_nothing c.args.source.now)
    c.new-reader.ensures.none in
    let is_last : c.in_ok-batch.batch.is_last ≡ true = search rules in
    one_batch (read_ahead none c.new-reader.ensures.same c.in_ok-batch.ensures.same c.in_ok-batch.ensures.next) is_last
