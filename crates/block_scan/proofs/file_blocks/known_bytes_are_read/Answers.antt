use Rattle.block_scan.proofs.KnownFiles.{known_whole}
use Rattle.block_scan.proofs.file_blocks.known_bytes_are_read.Goals as goal

pub returns : goal.returns
returns g c = λ limit file all day known gave. known_whole file.contents all known day gave.gave gave.ended
