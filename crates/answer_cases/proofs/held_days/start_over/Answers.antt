use Rattle.std.proofs.Common.{refl}
use Rattle.answer_cases.proofs.held_days.start_over.Goals as goal

pub returns : goal.returns
returns g c = record {
  answered = λ away. c.known_files_are_answered.ensures _ c.args.job.now c.args.out.now c.start.new.out
      c.args.errors.now c.start.new.errors c.start.result c.args.day.now
      (λ opened is. rw is (refl, (λ told tells. refl)))
      (c.start.ensures.file away);
}
