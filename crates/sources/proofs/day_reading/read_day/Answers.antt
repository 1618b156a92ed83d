use Rattle.std.proofs.Common.{length-append, arith}
use Rattle.sources.proofs.day_reading.read_day.Goals as goal

pub loop-bytes-preserved : goal.loop-bytes-preserved
loop-bytes-preserved g c =
    grind (arith, length-append, c.in_ok-read_piece.ensures.piece, c.in_ok-read_piece.ensures.within, c.len-in-loop-bytes.ensures, c.min-room.ensures)
