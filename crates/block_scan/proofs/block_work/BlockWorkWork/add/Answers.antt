use Rattle.std.proofs.Common.{◌≡◌, ◌∷◌, [], ◌++◌, map, ap, ap₂, ◌∙◌}
use Rattle.std.specs.Arc.{arc_value}
use Rattle.std.proofs.lemmas.List.{map_push}
use Rattle.block_scan.proofs.BlocksAndAttempts.{are_more}
use Rattle.block_scan.proofs.block_work.BlockWorkWork.add.Goals as goal

pub returns-clause-ok : goal.returns-clause-ok
returns-clause-ok g c = λ before next are gives begins.
    let pushed : map arc_value c.push.new.self.items ≡ c.args.total.now ++ arc_value c.args.output.now ∷ [] =
    ap (map arc_value) c.in_ok-push.ensures.items ∙ map_push arc_value c.total.inside.items.items _
    ∙ ap₂ (λ l a. l ++ a ∷ []) c.total.view_is c.in_ok-try_clone.ensures
    in
    rw pushed (are_more before c.args.total.now next (arc_value c.args.output.now) are gives.asked)
