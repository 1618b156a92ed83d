use Rattle.std.proofs.Common.{subst}
use Rattle.answers.proofs.AnswerLaws.{answers_are_one}
use Rattle.answers.specs.Answers.{IsAnswer}
use Rattle.block_scan.proofs.KnownFiles.{known_whole}
use Rattle.executor.proofs.RehearsalLaws.{all_arrived, finished_tells}
use Rattle.executor.specs.Rehearsals.{IsFinished}
use Rattle.executor.proofs.rehearsal_laws.schedules_and_threads_agree.Goals as goal

pub returns : goal.returns
returns g c = λ day query plain answer blocks cut limit file runs parts gatherers events1 events2 rehearsed is same by_threads holds (read, gave, may, by_blocks) whole done arrived1 arrived2. (
  answers_are_one day query answer plain (subst (λ d. IsAnswer d query answer) same by_threads) is,
  answers_are_one day query blocks plain
      (subst (λ d. IsAnswer d query blocks) (known_whole file.contents day holds read gave.gave gave.ended) by_blocks) is,
  finished_tells day query plain rehearsed is
      (subst (λ d. IsFinished d query rehearsed) whole (all_arrived runs query parts gatherers events1 events2 rehearsed done arrived1 arrived2)),
)
