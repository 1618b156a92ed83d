use Rattle.std.proofs.Common.{sym, subst, ◌∙◌}
use Rattle.std.proofs.lemmas.Option.{none-some}
use Rattle.answers.specs.Answers.{IsAnswer}
use Rattle.block_scan.proofs.KnownFiles.{known_byte, known_whole}
use Rattle.executor.proofs.run_laws.known_bytes_are_answered.Goals as goal

pub returns-clause-answered : goal.returns-clause-answered
returns-clause-answered g c = λ limit file all query told known (day, gave, may, is).
    subst (λ d. IsAnswer d query told) (known_whole file.contents all known day gave.gave gave.ended) is

pub returns-clause-refused : goal.returns-clause-refused
returns-clause-refused g c = λ limit file all known. (
  λ (place, none). absurd (none-some all (sym none ∙ known)),
  λ (byte, gave). known_byte file.contents all known limit byte gave,
)
