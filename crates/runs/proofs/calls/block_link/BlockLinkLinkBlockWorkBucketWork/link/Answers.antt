use Rattle.std.proofs.Common.{◌∙◌, sym}
use Rattle.block_scan.proofs.BlocksAndAttempts.{attempts_of}
use Rattle.runs.proofs.BlocksScanned.{of_one_cut}
use Rattle.runs.proofs.calls.block_link.BlockLinkLinkBlockWorkBucketWork.link.Goals as goal

pub join-requires : goal.join-requires
join-requires g c =
    let (inputs, blocks, of) = c.requires in
    (blocks.asked, attempts_of inputs c.args.total blocks of)

pub link-requires : goal.link-requires
link-requires g c =
    let (inputs, blocks, of) = c.requires in
    of_one_cut g.S.BlockSource blocks.asked blocks.asks
    (c.in-Ok.ensures.scanned blocks.asked (attempts_of inputs c.args.total blocks of))

pub returns-in-Next : goal.returns-in-Next
returns-in-Next g c asked are = (
  c.in-Ok.scans,
  c.in-Ok.ensures.scanned asked are,
  sym c.in-Next.is ∙ c.in_ok-inputs.ensures,
)
