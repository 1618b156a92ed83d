use Rattle.std.proofs.lemmas.Result.{on_err_weaker}
use Rattle.itch_messages.proofs.Laws.{appended}
use Rattle.itch_messages.proofs.writing.append.Goals as goal

pub returns-clause-ok : goal.returns-clause-ok
returns-clause-ok g c =
    appended c.args.message.now c.bytes.result.now c.args.out.now.items c.extend_from_slice.new.self.items c.extend_from_slice.result
    (rw c.bytes.ensures.value c.draft_of-draft.ensures) c.extend_from_slice.ensures.items

pub returns-clause-full : goal.returns-clause-full
returns-clause-full g c =
    on_err_weaker c.extend_from_slice.result (λ short. (c.bytes.result.now, rw c.bytes.ensures.value c.draft_of-draft.ensures, short))
    c.extend_from_slice.ensures.full
