use Rattle.block_scan.proofs.BlocksAndAttempts.{attempts_of}
use Rattle.tests_of_rows.proofs.blocks.told_by_blocks.Goals as goal

pub join-requires : goal.join-requires
join-requires g c =
    let are = c.in_ok-attempts.ensures.admissible in
    (are.asked, attempts_of _ c.in_ok-attempts.attempts are c.in_ok-attempts.ensures.total)
