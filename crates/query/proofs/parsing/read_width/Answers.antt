use Rattle.std.proofs.Common.{◌≡◌, ◌*◌, false, arith}
use Rattle.std.proofs.lemmas.Grind.{common_steps}
use Rattle.meaning.specs.Meaning.{is_width}
use Rattle.query.specs.Faults.{step}
use Rattle.query.proofs.WordByWord.{reading}
use Rattle.query.proofs.parsing.read_width.Goals as goal

pub returns-else-contains-clause-err : goal.returns-else-contains-clause-err
unfolding step
returns-else-contains-clause-err c =
    let bad : is_width (c.in_ok-count.count * c.in_ok-seconds.seconds) ≡ false = grind (arith, common_steps) in
    (λ is. absurd (cc), grind (arith, reading, bad))
