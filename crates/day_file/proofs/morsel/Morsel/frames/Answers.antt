use Rattle.day_file.proofs.Walks.{walk_stands, whole_has_no_end}
use Rattle.day_file.proofs.morsel.Morsel.frames.Goals as goal

pub returns : goal.returns
returns c =
    let all = walk_stands c.start.result c.bytes.result.now c.bytes.ensures.run.whole in
    let walked = c.of.ensures.whole _ all in record {
      stand = rw (← c.start.ensures, ← c.bytes.ensures.same, walked) all;
      whole = whole_has_no_end c.bytes.result.now c.start.result c.of.result.truncated c.bytes.ensures.run.whole c.of.ensures.end;
      walked = rw (← c.start.ensures, ← c.bytes.ensures.same) walked;
    }
